-- The xor of bit strings, as the xor of the octets that hold them.
-- Assumes nothing.
use Prim.Native.Nat.{ℕ, zero, suc, ◌+◌, ◌*◌, ◌<◌, ◌≤◌}
use native.Mathlib.Omega.{arith}
use mathlib.Core.Path.{◌≡◌, refl, sym, ap, ap₂, ◌∙◌}
use mathlib.Core.List.{List, ◌++◌}
use lib.Bits.{bit_xor, xor_block}
use lib.ListN.{length, take, drop, get_or-append}
use lib.Seq.{get_or-take, length-take-le}
use Rattle.refusals.specs.Call.{Answered, front}
use Rattle.octets.specs.Bits.{bit_of, part, number, octet, listed, size, stored}
use Rattle.octets.specs.Octets.{AreOctets}
use Rattle.octets.specs.Xor.{xored, xor_call}
use Rattle.octets.proofs.Listed.{listed_ext}
use Rattle.octets.proofs.Stored.{part_lt, bit_of_lt, octet_bit_of, length-stored, get_or-stored}
use Rattle.octets.proofs.Xored.{length-xored, xor_done}

-- the number that the xor of bits writes is the xor of the numbers
pub number_xor : (f g : ℕ → ℕ) (n : ℕ) → ((j : ℕ) → f j < 2) → ((j : ℕ) → g j < 2) → number (λ j. bit_xor (f j) (g j)) n ≡ bit_xor (number f n) (number g n)
unfolding number
number_xor f g zero bits bits' = refl
number_xor f g (suc n) bits bits' =
    ap (λ (x : ℕ). x * 2 + bit_xor (f n) (g n)) (number_xor f g n bits bits') ∙ sym (xor_block 1 (number f n) (number g n) (f n) (g n) (bits n) (bits' n))

pub octet_xor : (f g : ℕ → ℕ) (k : ℕ) → ((j : ℕ) → f j < 2) → ((j : ℕ) → g j < 2) → octet (λ j. bit_xor (f j) (g j)) k ≡ bit_xor (octet f k) (octet g k)
unfolding octet
octet_xor f g k bits bits' = number_xor (λ j. f (k * 8 + j)) (λ j. g (k * 8 + j)) 8 (λ j. bits (k * 8 + j)) (λ j. bits' (k * 8 + j))

-- the first octets of a message xor those that hold n bits, octet by octet
pub xored_octets : (message : List ℕ) (f : ℕ → ℕ) (n : ℕ) (rest : List ℕ)
    → AreOctets message → ((j : ℕ) → f j < 2) → size n ≤ length message
    → xored (take (size n) message) (stored f 0 n ++ rest) ≡ listed (octet (λ j. bit_xor (bit_of message j) (part f 0 n j))) (size n)
unfolding xored
xored_octets message f n rest each bits enough =
    ap (listed _) (length-take-le (size n) message enough)
    ∙ listed_ext _ _ (size n)
    (λ k below.
    ap₂ bit_xor
    (get_or-take (size n) message k 0 below ∙ sym (octet_bit_of message k (each k)))
    (get_or-append (stored f 0 n) rest 0 k (omega (arith, below, length-stored f 0 n)) ∙ get_or-stored f 0 n k below)
    ∙ sym (octet_xor (bit_of message) (part f 0 n) k (bit_of_lt message) (part_lt f 0 n bits)))

-- so an xor of these, with room for it, puts the octets of the xored bits, but that the spare bits of the last are the message's own
pub xor_put : (message : List ℕ) (f : ℕ → ℕ) (n count : ℕ) (rest stream before : List ℕ) {refusal : ℕ} {numbers after : List ℕ}
    → Answered (xor_call (take count message) stream before) refusal numbers after → count ≡ size n → stream ≡ stored f 0 n ++ rest
    → AreOctets message → ((j : ℕ) → f j < 2) → size n ≤ length message → size n ≤ length before
    → after ≡ listed (octet (λ j. bit_xor (bit_of message j) (part f 0 n j))) (size n) ++ drop (size n) before
unfolding front
xor_put message f n count rest stream before answered all is each bits enough room =
    let source : List ℕ = take count message in
    let long : length source ≡ size n = length-take-le count message (omega (arith, all, enough)) ∙ all in
    (xor_done source stream before answered (omega (arith, long, room))).1
    ∙ ap₂ (λ (result : List ℕ) (k : ℕ). result ++ drop k before)
    (ap₂ (λ (k : ℕ) (l : List ℕ). xored (take k message) l) all is ∙ xored_octets message f n rest each bits enough)
    (length-xored source stream ∙ long)
