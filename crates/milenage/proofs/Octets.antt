-- The strings of MILENAGE by their octets.
-- Assumes nothing.
use Prim.Native.Nat.{ℕ, ◌+◌, ◌*◌, ◌/◌, ◌%◌, ◌^◌, ◌<◌}
use native.Mathlib.Omega.{arith}
use mathlib.Core.Path.{◌≡◌, sym, ap, ap₂, ◌∙◌}
use mathlib.Core.List.{List, ◌++◌, append_assoc}
use lib.ListN.{length, get_or, length-append}
use Rattle.octets.specs.Bits.{bit_of, part, octet, listed, size, stored}
use Rattle.octets.proofs.Number.{number_ext}
use Rattle.octets.proofs.Listed.{listed_ext, listed_self, listed_add}
use Rattle.octets.proofs.Stored.{octet_within, octet_bit_of}
use Rattle.milenage.specs.Milenage.{in1, turned}

-- octet k of a string that is turned by whole octets
pub turned_octet : (r : ℕ) (string : List ℕ) (k : ℕ) → r % 8 ≡ 0 → k < 16 → get_or string ((k + r / 8) % 16) 0 < 2 ^ 8
    → get_or string ((k + r / 8) % 16) 0 ≡ octet (part (λ i. bit_of string ((r + i) % 128)) 0 128) k
unfolding octet
turned_octet r string k whole below fits =
    sym
    (octet_within (λ i. bit_of string ((r + i) % 128)) 0 128 k (omega arith)
    ∙ number_ext _ (λ j. bit_of string ((k + r / 8) % 16 * 8 + j)) 8 (λ j inside. ap (bit_of string) (omega arith))
    ∙ octet_bit_of string ((k + r / 8) % 16) fits)

-- and all 16 of them
pub turned_octets : (r : ℕ) (string : List ℕ) → r < 128 → r % 8 ≡ 0 → ((i : ℕ) → get_or string i 0 < 2 ^ 8)
    → listed (λ i. get_or string ((i + r / 8) % 16) 0) 16 ≡ turned r string
unfolding turned stored size
turned_octets r string below whole fits =
    listed_ext _ _ 16 (λ i within. turned_octet r string i whole within (fits ((i + r / 8) % 16)))

-- SQN and AMF, and both once more, octet by octet
pub in1_octets : (sqn amf : List ℕ) → length sqn ≡ 6 → length amf ≡ 2 → listed (λ i. get_or (sqn ++ amf) (i % 8) 0) 16 ≡ in1 sqn amf
unfolding in1
in1_octets sqn amf six two =
    let both : List ℕ = sqn ++ amf in
    let eight : length both ≡ 8 = length-append sqn amf ∙ omega arith in
    let once : listed (λ i. get_or both (i % 8) 0) 8 ≡ both =
    listed_ext _ (λ i. get_or both i 0) 8 (λ i below. ap (λ (k : ℕ). get_or both k 0) (omega arith))
    ∙ ap (listed (λ i. get_or both i 0)) (sym eight)
    ∙ listed_self both in
    listed_add (λ i. get_or both (i % 8) 0) 8 8
    ∙ ap₂ ◌++◌ once (listed_ext _ (λ i. get_or both (i % 8) 0) 8 (λ i below. ap (λ (k : ℕ). get_or both k 0) (omega arith)) ∙ once)
    ∙ sym (append_assoc both sqn amf)
