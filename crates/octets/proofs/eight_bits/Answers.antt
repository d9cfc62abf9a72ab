-- `octets::eight_bits` meets its contract: the eight bits are a field of the number that the bits of the two octets write.
-- Assumes nothing.
use mathlib.Core.Path.{◌≡◌, sym, ap, ap₂, ◌∙◌}
use mathlib.Core.List.{List}
use Prim.Native.Nat.{ℕ, ◌+◌, ◌-◌, ◌*◌, ◌/◌, ◌%◌, ◌^◌, ◌<◌}
use native.Mathlib.Omega.{arith}
use lib.ListN.{get_or}
use Rattle.octets.specs.Bits.{bit_at, bit_of, octet, number}
use Rattle.octets.proofs.Number.{number_add, number_bits, number_ext, bit_number}
use Rattle.octets.proofs.Stored.{bit_of_lt, octet_bit_of}
use Rattle.octets.proofs.eight_bits.Goals as goal

-- two octets that follow one another, as one number
two_octets : (octets : List ℕ) (k : ℕ) → ((i : ℕ) → get_or octets i 0 < 2 ^ 8)
    → number (λ j. bit_of octets (k * 8 + j)) 16 ≡ get_or octets k 0 * 256 + get_or octets (k + 1) 0
unfolding octet
two_octets octets k fits =
    number_add (λ j. bit_of octets (k * 8 + j)) 8 8
    ∙ ap₂ (λ (high low : ℕ). high * 256 + low)
    (octet_bit_of octets k (fits k))
    (number_ext _ _ 8 (λ j _. ap (bit_of octets) (omega arith)) ∙ octet_bit_of octets (k + 1) (fits (k + 1)))

-- the eight bits from bit `at` on are a field of them
field : (octets : List ℕ) (at : ℕ) → ((i : ℕ) → get_or octets i 0 < 2 ^ 8)
    → number (λ j. bit_of octets (at + j)) 8 ≡ (get_or octets (at / 8) 0 * 256 + get_or octets (at / 8 + 1) 0) / 2 ^ (8 - at % 8) % 256
field octets at fits =
    let bit : ℕ → ℕ = λ j. bit_of octets (at / 8 * 8 + j) in
    number_ext _ (λ j. bit_at 16 (number bit 16) (at % 8 + j)) 8
    (λ j below. ap (bit_of octets) (omega arith) ∙ sym (bit_number bit 16 (at % 8 + j) (omega arith) (λ i. bit_of_lt octets (at / 8 * 8 + i))))
    ∙ number_bits 16 (number bit 16) (at % 8) 8 (omega arith)
    ∙ ap₂ (λ (x k : ℕ). x / 2 ^ k % 256) (two_octets octets (at / 8) fits) (omega arith)

pub returns : goal.returns
returns c =
    let at : ℕ = c.args.at in
    let joined = ap₂ (λ (high low : ℕ). high * 256 + low) c.octet_or_zero-high.ensures c.octet_or_zero-low.ensures in
    ap (λ (two : ℕ). two / 2 ^ (8 - at % 8) % 256) (omega (arith, c.from_be_bytes.ensures, joined))
    ∙ sym (field c.args.source.now at (λ i. (c.type_inv.source i).fits))
