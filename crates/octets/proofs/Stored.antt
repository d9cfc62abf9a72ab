-- The laws of bit strings, of their parts, and of the octets that store them.
-- Assumes nothing.
use mathlib.Core.Path.{◌≡◌, sym, ap, ap₂, ◌∙◌}
use mathlib.Core.Bool.{Bool, true, false, cond}
use mathlib.Core.List.{List, ◌++◌}
use Prim.Native.Nat.{ℕ, min, ◌+◌, ◌-◌, ◌*◌, ◌/◌, ◌%◌, ◌^◌, ◌≤◌, ◌<◌}
use native.Mathlib.Nat.{mod-lt, div-add-mod', div-eq_of_lt}
use native.Mathlib.Decide.{dec_lt}
use native.Mathlib.Omega.{arith}
use borrow.Author.Tests.{lt-ltb, le-ltb}
use lib.Arith.{digits_div, digits_mod}
use lib.Dec.{ltb, lit<}
use lib.ListN.{length, get_or, set, drop, replicate, get_or-append}
use lib.Pow.{pow_pos}
use lib.Seq.{get_or-drop}
use Rattle.refusals.specs.Call.{front}
use Rattle.octets.specs.Bits.{bit_at, bit_of, part, number, octet, listed, size, stored}
use Rattle.octets.proofs.Listed.{length-listed, get_or-listed, get_or-zeros, get_d_past, listed_ext, listed_last}
use Rattle.octets.proofs.Number.{bit_at_lt, number_ext, number_zeros, number_whole, bit_number}

-- ---- bit strings and their parts

-- within the part
pub part_in : (f : ℕ → ℕ) (s n i : ℕ) → i < n → part f s n i ≡ f (s + i)
unfolding part
part_in f s n i below = rw (lt-ltb i n below)

-- past the part
pub part_out : (f : ℕ → ℕ) (s n i : ℕ) → n ≤ i → part f s n i ≡ 0
unfolding part
part_out f s n i past = rw (le-ltb i n past)

pub part_lt : (f : ℕ → ℕ) (s n : ℕ) → ((j : ℕ) → f j < 2) → (i : ℕ) → part f s n i < 2
unfolding part
part_lt f s n bits i = elim (ltb i n) as (λ (within : Bool). cond within (f (s + i)) 0 < 2) [ true ↦ bits (s + i) | false ↦ lit< tt ]

-- two parts agree at a place that lies in both, with the same bit, or in neither
pub part_same : (f g : ℕ → ℕ) (s t n m i j : ℕ) → (i < n → (j < m) × (f (s + i) ≡ g (t + j))) → (n ≤ i → m ≤ j) → part f s n i ≡ part g t m j
part_same f g s t n m i j within past =
    elim (dec_lt i n) [
      | yes h ↦ part_in f s n i h ∙ (within h).1 ∙ sym (part_in g t m j (within h).0)
      | no h ↦ part_out f s n i (omega arith) ∙ sym (part_out g t m j (past (omega arith)))
    ]

-- a bit of a list of octets is 0 or 1
pub bit_of_lt : (octets : List ℕ) (i : ℕ) → bit_of octets i < 2
unfolding bit_of
bit_of_lt octets i = bit_at_lt 8 (get_or octets (i / 8) 0) (i % 8)

-- ---- the octets of a part

-- octet k of a part of n bits: the bits that are left, at most eight, and then zeros
pub octet_part : (f : ℕ → ℕ) (s n k : ℕ)
    → octet (part f s n) k ≡ number (λ j. f (s + (k * 8 + j))) (min 8 (n - k * 8)) * 2 ^ (8 - min 8 (n - k * 8))
unfolding octet
octet_part f s n k =
    let bit : ℕ → ℕ = λ j. part f s n (k * 8 + j) in
    let left : ℕ = min 8 (n - k * 8) in
    ap (number bit) {y = left + (8 - left)} (omega arith)
    ∙ number_zeros bit left (8 - left) (λ j from below. part_out f s n (k * 8 + j) (omega arith))
    ∙ ap (λ (x : ℕ). x * 2 ^ (8 - left)) (number_ext bit (λ j. f (s + (k * 8 + j))) left (λ j below. part_in f s n (k * 8 + j) (omega arith)))

-- an octet that lies within the part
pub octet_within : (f : ℕ → ℕ) (s n k : ℕ) → k * 8 + 8 ≤ n → octet (part f s n) k ≡ number (λ j. f (s + (k * 8 + j))) 8
unfolding octet
octet_within f s n k within = number_ext _ _ 8 (λ j below. part_in f s n (k * 8 + j) (omega arith))

-- where x holds the eight bits from bit s + k * 8 on, octet k of a part from bit s is the first bits of x, as many as are left
pub octet_first : (f : ℕ → ℕ) (s n k x : ℕ) → ((j : ℕ) → f j < 2) → x ≡ number (λ j. f (s + (k * 8 + j))) 8
    → octet (part (bit_at 8 x) 0 (n - k * 8)) 0 ≡ octet (part f s n) k
unfolding octet
octet_first f s n k x bits holds =
    number_ext _ _ 8 λ j below.
    part_same (bit_at 8 x) f 0 s (n - k * 8) n (0 * 8 + j) (k * 8 + j)
    (λ within. (omega arith, ap₂ (bit_at 8) holds (omega arith) ∙ bit_number (λ j. f (s + (k * 8 + j))) 8 j below (λ i. bits (s + (k * 8 + i)))))
    (λ past. omega arith)

-- octet k of the bits of a list of octets is its element k
pub octet_bit_of : (octets : List ℕ) (k : ℕ) → get_or octets k 0 < 2 ^ 8 → octet (bit_of octets) k ≡ get_or octets k 0
unfolding octet bit_of
octet_bit_of octets k fits =
    number_ext _ (bit_at 8 (get_or octets k 0)) 8
    (λ j below. ap₂ (λ (place bit : ℕ). bit_at 8 (get_or octets place 0) bit) (digits_div k below) (digits_mod k below))
    ∙ number_whole 8 (get_or octets k 0) fits

-- ---- what is stored

pub length-stored : (f : ℕ → ℕ) (s n : ℕ) → length (stored f s n) ≡ size n
unfolding stored
length-stored f s n = length-listed (octet (part f s n)) (size n)

pub get_or-stored : (f : ℕ → ℕ) (s n k : ℕ) → k < size n → get_or (stored f s n) k 0 ≡ octet (part f s n) k
unfolding stored
get_or-stored f s n k below = get_or-listed (octet (part f s n)) (size n) k 0 below

-- a lent output with a stored bit string at its front
pub front_stored : (f : ℕ → ℕ) (s n : ℕ) (before : List ℕ) → front (stored f s n) before ≡ stored f s n ++ drop (size n) before
unfolding front
front_stored f s n before = ap (λ (k : ℕ). stored f s n ++ drop k before) (length-stored f s n)

-- what is stored goes by the bits alone
pub stored_ext : (f g : ℕ → ℕ) (s t n : ℕ) → ((i : ℕ) → i < n → f (s + i) ≡ g (t + i)) → stored f s n ≡ stored g t n
unfolding stored octet
stored_ext f g s t n same =
    listed_ext _ _ (size n) λ k _.
    number_ext _ _ 8 λ j _.
    part_same f g s t n n (k * 8 + j) (k * 8 + j) (λ within. (within, same (k * 8 + j) within)) (λ past. past)

-- a bit string's octets are what is stored of its first n bits, but for the spare bits of the last
pub stored_cleared : (f : ℕ → ℕ) (n m x : ℕ) (rest : List ℕ) → ((j : ℕ) → f j < 2) → 0 < n → m ≡ size n
    → x ≡ octet (part (bit_at 8 (octet f (m - 1))) 0 (n - (m - 1) * 8)) 0
    → set (listed (octet f) m ++ rest) (m - 1) x ≡ stored f 0 n ++ rest
unfolding size stored octet
stored_cleared f n m x rest bits some all cleared =
    let last : ℕ = m - 1 in
    ap (λ (k : ℕ). set (listed (octet f) k ++ rest) last x) {y = last + 1} (omega arith)
    ∙ listed_last (octet f) (octet (part f 0 n)) rest last x
    (λ k below. sym (octet_within f 0 n k (omega arith) ∙ number_ext _ _ 8 (λ j _. ap f (omega arith))))
    (cleared ∙ octet_first f 0 n last (octet f last) bits (number_ext _ _ 8 (λ j _. ap f (omega arith))))
    ∙ ap (λ (k : ℕ). listed (octet (part f 0 n)) k ++ rest) (omega arith)

-- bit i of what is stored is bit i of the part, spare bits among them, whatever octets stand after
pub part_of_stored : (f : ℕ → ℕ) (s n : ℕ) (rest : List ℕ) (i : ℕ) → i < 8 * size n → ((j : ℕ) → f j < 2) → bit_of (stored f s n ++ rest) i ≡ part f s n i
unfolding bit_of octet
part_of_stored f s n rest i below bits =
    ap (λ (x : ℕ). bit_at 8 x (i % 8)) (get_or-append (stored f s n) rest 0 (i / 8) (rw length-stored (omega arith)) ∙ get_or-stored f s n (i / 8) (omega arith))
    ∙ bit_number (λ j. part f s n (i / 8 * 8 + j)) 8 (i % 8) (mod-lt i (lit< tt)) (λ j. part_lt f s n bits (i / 8 * 8 + j))
    ∙ ap (part f s n) (div-add-mod' i 8)

-- so to cut a stored bit string is to cut the bit string itself
pub bit_of_stored_front : (f : ℕ → ℕ) (s n : ℕ) (rest : List ℕ) (i : ℕ) → i < n → ((j : ℕ) → f j < 2) → bit_of (stored f s n ++ rest) i ≡ f (s + i)
unfolding size
bit_of_stored_front f s n rest i below bits = part_of_stored f s n rest i (omega arith) bits ∙ part_in f s n i below

-- what is cut out of a stored bit string is stored of the bit string itself
pub stored_cut : (f : ℕ → ℕ) (s n : ℕ) (rest : List ℕ) (start count : ℕ) → start + count ≤ n → ((j : ℕ) → f j < 2)
    → stored (bit_of (stored f s n ++ rest)) start count ≡ stored f (s + start) count
stored_cut f s n rest start count within bits =
    stored_ext (bit_of (stored f s n ++ rest)) f start (s + start) count λ i below.
    bit_of_stored_front f s n rest (start + i) (omega arith) bits ∙ ap f (omega arith)

-- ---- octets with zeros after them

-- every bit of an octet 0 is 0
no_bit : (i : ℕ) → bit_at 8 0 i ≡ 0
unfolding bit_at
no_bit i = ap (λ (x : ℕ). x % 2) (div-eq_of_lt (pow_pos (8 - 1 - i)))

-- octets that hold n bits, and zero octets after these, have those n bits and zeros
pub zeros_after_lem : (f : ℕ → ℕ) (s n room : ℕ) → ((j : ℕ) → f j < 2) → (j : ℕ) → bit_of (stored f s n ++ drop (size n) (replicate room 0)) j ≡ part f s n j
unfolding bit_of size
zeros_after_lem f s n room bits j =
    let held : List ℕ = stored f s n in
    let after : List ℕ = drop (size n) (replicate room 0) in
    elim (dec_lt j (8 * size n)) [
      | yes h ↦ part_of_stored f s n after j h bits
      | no h ↦
          ap (λ (x : ℕ). bit_at 8 x (j % 8))
          (ap (λ (k : ℕ). get_or (held ++ after) k 0) {y = size n + (j / 8 - size n)} (omega arith)
          ∙ get_d_past held after (size n) (j / 8 - size n) (length-stored f s n)
          ∙ get_or-drop (size n) (replicate room 0) (j / 8 - size n) 0
          ∙ get_or-zeros room (size n + (j / 8 - size n)))
          ∙ no_bit (j % 8)
          ∙ sym (part_out f s n j (omega arith))
    ]
