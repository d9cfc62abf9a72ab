-- `lines::put_digits` meets its contract: the digits of a tenth, and the last digit.
-- Assumes nothing.
use Prim.Native.Nat.{ℕ, ◌%◌, ◌/◌, ◌^◌, ◌≤◌, ◌<◌}
use mathlib.Core.List.{[], ◌∷◌}
use mathlib.Core.Path.{◌≡◌, refl, ap, ◌∙◌}
use native.Mathlib.Omega.{arith}
use lib.ListN.{length}
use Rattle.lines.specs.Text.{glyph_of}
use Rattle.lines.proofs.Placed.{at_front_stored, at_front_octet}
use Rattle.lines.proofs.InDecimal.{decimal_one, decimal_more, length-decimal_text, length_more}
use Rattle.lines.proofs.+put_digits.Goals as goal

pub put_digits-count-requires : goal.put_digits-count-requires
put_digits-count-requires t c = (omega arith, omega (arith, c.requires, length_more c.args.number (omega arith) (omega arith)))

pub bounds-output-count : goal.bounds-output-count
bounds-output-count t c =
    omega (
      arith,
      c.requires,
      c.put_digits-count.ensures.written_is,
      c.put_digits-count.auto.output,
      length_more c.args.number (omega arith) (omega arith),
    )

pub overflow_add-result : goal.overflow_add-result
overflow_add-result t c = omega (arith, c.put_digits-count.ensures.written_is, length-decimal_text (c.args.number / 10))

pub returns-then-number-gt9 : goal.returns-then-number-gt9
returns-then-number-gt9 t c =
    let number : ℕ = c.args.number in
    let large : 10 ≤ number = omega arith in
    let below : number < 10 ^ 10 = omega arith in
    rw (decimal_more number large below, ← c.glyph-last.ensures)
    (at_front_octet c.glyph-last.result c.put_digits-count.ensures (omega (arith, c.requires, length_more number large below)))

pub bounds-output-0 : goal.bounds-output-0
bounds-output-0 t c =
    let small : c.args.number < 10 = omega arith in
    omega (arith, c.requires, ap length (decimal_one c.args.number small))

pub returns : goal.returns
returns t c =
    let number : ℕ = c.args.number in
    let small : number < 10 = omega arith in
    let same : number % 10 ≡ number = omega arith in
    rw (decimal_one number small, c.glyph-last.ensures ∙ ap glyph_of same)
    (at_front_stored (glyph_of number ∷ []) c.args.output.now 1 refl (omega (arith, c.requires, ap length (decimal_one number small))))
