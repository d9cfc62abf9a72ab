-- The xor of octets with a stream, place by place: twice with the same stream gives the octets back, and two lists with the same stream the xor of the
-- lists. And the law of the call for its callers.
-- Assumes nothing.
use Prim.Native.Nat.{ℕ, ◌/◌, ◌≤◌, ◌<◌}
use native.Mathlib.Omega.{arith}
use mathlib.Core.Path.{◌≡◌, refl, sym, ap, ap₂, ◌∙◌}
use mathlib.Core.List.{List, ◌++◌}
use borrow.Author.Tests.{le-ltb}
use lib.Arith.{bin_ind}
use lib.Bits.{bit_xor, xor_zero_r, xor_comm, xor_add_and, xor_self, xor_shr}
use lib.ListN.{length, get_or, get_or-append}
use lib.Seq.{ext_get_or}
use Rattle.refusals.specs.Refusal.{first}
use Rattle.refusals.specs.Call.{Answered, front}
use Rattle.refusals.proofs.Calls.{answered_done}
use Rattle.octets.specs.Xor.{xored, xor_order, xor_call}
use Rattle.octets.proofs.Listed.{length-listed, get_or-listed, listed_ext}

-- the xor of three numbers does not depend on which two are taken first: digit by digit, since the lowest digit of an xor is that of the sum
pub xor_assoc : (a b c : ℕ) → bit_xor (bit_xor a b) c ≡ bit_xor a (bit_xor b c)
xor_assoc = bin_ind (λ (a : ℕ). (b c : ℕ) → bit_xor (bit_xor a b) c ≡ bit_xor a (bit_xor b c)) (λ b c. refl) step
  where
    step : (a : ℕ) → ((b c : ℕ) → bit_xor (bit_xor (a / 2) b) c ≡ bit_xor (a / 2) (bit_xor b c)) → (b c : ℕ) → bit_xor (bit_xor a b) c ≡ bit_xor a (bit_xor b c)
    step a above b c =
        let halves : bit_xor (bit_xor a b) c / 2 ≡ bit_xor a (bit_xor b c) / 2 =
        xor_shr (bit_xor a b) c 1
        ∙ ap (λ (x : ℕ). bit_xor x (c / 2)) (xor_shr a b 1)
        ∙ above (b / 2) (c / 2)
        ∙ sym (xor_shr a (bit_xor b c) 1 ∙ ap (bit_xor (a / 2)) (xor_shr b c 1)) in
        omega (arith, halves, xor_add_and a b, xor_add_and b c, xor_add_and (bit_xor a b) c, xor_add_and a (bit_xor b c))

-- what is xored twice is back
pub xor_twice : (a b : ℕ) → bit_xor (bit_xor a b) b ≡ a
xor_twice a b = xor_assoc a b b ∙ ap (bit_xor a) (xor_self b) ∙ xor_zero_r a

-- and two numbers that were xored with a third have the xor that they had
pub xor_shared : (a b c : ℕ) → bit_xor (bit_xor a c) (bit_xor b c) ≡ bit_xor a b
xor_shared a b c = xor_assoc a c (bit_xor b c) ∙ ap (bit_xor a) (xor_comm c (bit_xor b c) ∙ xor_twice b c)

-- ---- a list xor a stream

pub length-xored : (a b : List ℕ) → length (xored a b) ≡ length a
unfolding xored
length-xored a b = length-listed _ (length a)

get_or-xored : (a b : List ℕ) (i : ℕ) → i < length a → get_or (xored a b) i 0 ≡ bit_xor (get_or a i 0) (get_or b i 0)
unfolding xored
get_or-xored a b i below = get_or-listed _ (length a) i 0 below

pub xored_twice : (a b : List ℕ) → xored (xored a b) b ≡ a
xored_twice a b =
    ext_get_or 0 _ _ (length-xored (xored a b) b ∙ length-xored a b)
    (λ i below.
    let inside : i < length a = rw (length-xored (xored a b) b, length-xored a b) at below in
    get_or-xored (xored a b) b i (rw length-xored inside) ∙ ap (λ (x : ℕ). bit_xor x (get_or b i 0)) (get_or-xored a b i inside) ∙ xor_twice (get_or a i 0) (get_or b i 0))

-- two lists, the second no shorter, that were xored with one stream have the xor that they had
pub xored_shared : (a b c : List ℕ) → length a ≤ length b → xored (xored a c) (xored b c) ≡ xored a b
xored_shared a b c long =
    ext_get_or 0 _ _ (length-xored (xored a c) (xored b c) ∙ length-xored a c ∙ sym (length-xored a b))
    (λ i below.
    let inside : i < length a = rw (length-xored (xored a c) (xored b c), length-xored a c) at below in
    get_or-xored (xored a c) (xored b c) i (rw length-xored inside)
    ∙ ap₂ bit_xor (get_or-xored a c i inside) (get_or-xored b c i (omega arith))
    ∙ xor_shared (get_or a i 0) (get_or b i 0) (get_or c i 0)
    ∙ sym (get_or-xored a b i inside))

-- what the stream has past the list plays no part
pub xored_front : (a b rest : List ℕ) → length a ≤ length b → xored a (b ++ rest) ≡ xored a b
unfolding xored
xored_front a b rest long =
    listed_ext _ _ (length a) (λ i below. ap (bit_xor (get_or a i 0)) (get_or-append b rest 0 i (omega arith)))

-- where there is room the xor is put, and the octets past it are kept
pub xor_done : (source stream before : List ℕ) {refusal : ℕ} {numbers after : List ℕ} → Answered (xor_call source stream before) refusal numbers after
    → length source ≤ length before → (refusal ≡ 0) × (after ≡ front (xored source stream) before)
unfolding first xor_order
xor_done source stream before answered room =
    let done = answered_done (xor_call source stream before) answered (rw (le-ltb (length before) (length source) room)) in
    (done.0, done.2)
