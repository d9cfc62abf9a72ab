-- `octets::first_bits` meets its contract: to shift the spare bits out and back clears them.
-- Assumes nothing.
use mathlib.Core.Path.{◌≡◌, sym, ap, ◌∙◌}
use Prim.Native.Nat.{ℕ, min, ◌-◌, ◌*◌, ◌/◌, ◌^◌, ◌<◌}
use native.Mathlib.Nat.{sub-zero, zero-add, div-mul-le_self, div-one, mul-one, mod-eq_of_lt, lt_trans, lt_of_le_of_lt}
use native.Mathlib.Omega.{arith}
use lib.Dec.{lit<}
use Rattle.octets.specs.Bits.{bit_at, part, octet}
use Rattle.octets.proofs.Number.{number_first}
use Rattle.octets.proofs.Stored.{octet_part}
use Rattle.octets.proofs.first_bits.Goals as goal

-- where `count` bits are asked, the others are shifted out and back
cleared : (whole count : ℕ) → whole < 2 ^ 8 → octet (part (bit_at 8 whole) 0 count) 0 ≡ whole / 2 ^ (8 - count) * 2 ^ (8 - count)
cleared whole count fits =
    let kept : ℕ = min 8 count in
    simp (octet_part, sub-zero, zero-add)
    (ap (λ (x : ℕ). x * 2 ^ (8 - kept)) (number_first 8 whole kept (omega arith) fits)
    ∙ ap (λ (k : ℕ). whole / 2 ^ k * 2 ^ k) (omega arith))

cleared_lt : (whole k : ℕ) → whole < 2 ^ 8 → whole / 2 ^ k * 2 ^ k < 2 ^ 8
cleared_lt whole k fits = lt_of_le_of_lt (div-mul-le_self whole (2 ^ k)) fits

pub returns-then-count-ge8 : goal.returns-then-count-ge8
returns-then-count-ge8 c =
    let whole : ℕ = c.args.whole in
    let count : ℕ = c.args.count in
    sym
    (cleared whole count c.ranges.whole.fits
    ∙ ap (λ (k : ℕ). whole / 2 ^ k * 2 ^ k) {y = 0} (omega arith)
    ∙ mul-one (whole / 1)
    ∙ div-one whole)

pub returns : goal.returns
returns c =
    let whole : ℕ = c.args.whole in
    let count : ℕ = c.args.count in
    let fits : whole < 2 ^ 8 = c.ranges.whole.fits in
    mod-eq_of_lt (lt_trans (cleared_lt whole (8 - count) fits) (lit< tt)) ∙ sym (cleared whole count fits)
