-- `walk::walks::sent_of` meets its contract: each test picks its case.
-- Assumes nothing.
use mathlib.Core.Path.{refl, ap, ◌∙◌}
use Prim.Native.Nat.{ℕ}
use native.Mathlib.Omega.{arith}
use Rattle.std.specs.Prelude.{Some}
use Rattle.refusals.proofs.Number.{number_some}
use Rattle.lines.proofs.Callers.{number_none, number_read}
use Rattle.walk.proofs.Answers.{sent_long, sent_none, sent_above, sent_good}
use Rattle.walk.proofs.walks.sent_of.Goals as goal

pub returns-then-line-gt3 : goal.returns-then-line-gt3
returns-then-line-gt3 c = sent_long _ c.if-line-gt3.true

pub returns-in_default : goal.returns-in_default
returns-in_default c = sent_none _ c.if-line-gt3.false (number_none 10 10 _ c.in_default.ensures (number_some c.in_default.field-0))

pub returns-then-number-gt-LARGEST : goal.returns-then-number-gt-LARGEST
returns-then-number-gt-LARGEST c =
    let read = number_read 10 10 _ c.in-Ok.ensures refl in
    sent_above _ c.if-line-gt3.false read.0 (omega (arith, read.1))

pub returns : goal.returns
returns c =
    let read = number_read 10 10 _ c.in-Ok.ensures refl in
    ap (λ (n : ℕ). Some n) read.1 ∙ sent_good _ c.if-line-gt3.false read.0 (omega (arith, read.1))
