-- `script::asked` meets its contract: each test decides.
-- Assumes nothing.
use borrow.Author.Tests.{eqb-true, eqb-false}
use lib.ListN.{length}
use mathlib.Core.Bool.{true}
use mathlib.Core.Path.{◌≡◌, sym, ◌∙◌}
use Rattle.script.specs.Script.{all_printable}
use Rattle.script.proofs.Lines.{begun, is_long, is_empty, is_octet, is_remark, is_command}
use Rattle.script.proofs.asked.Goals.{Else-is_empty, Else-not-all_printable}
use Rattle.script.proofs.asked.Goals as goal

some : (c : Else-is_empty) → length c.args.line.now ≡ 0 → ⊥
some c = eqb-false _ 0 (sym c.is_empty.ensures ∙ c.if-is_empty.false)

printable : (c : Else-not-all_printable) → all_printable c.args.line.now ≡ true
printable c = sym c.all_printable.ensures ∙ c.if-not-all_printable.false

pub returns-then-line-gt-LONGEST : goal.returns-then-line-gt-LONGEST
returns-then-line-gt-LONGEST c = is_long c.args.line.now c.if-line-gt-LONGEST.true

pub returns-then-is_empty : goal.returns-then-is_empty
returns-then-is_empty c = is_empty c.args.line.now c.if-line-gt-LONGEST.false (eqb-true _ 0 (sym c.is_empty.ensures ∙ c.if-is_empty.true))

pub returns-then-not-all_printable : goal.returns-then-not-all_printable
returns-then-not-all_printable c =
    is_octet c.args.line.now c.if-line-gt-LONGEST.false (some (goal.at.returns-then-not-all_printable c).Else-is_empty) (sym c.all_printable.ensures ∙ c.if-not-all_printable.true)

pub returns-then-starts_with : goal.returns-then-starts_with
returns-then-starts_with c =
    is_remark c.args.line.now c.if-line-gt-LONGEST.false (some (goal.at.returns-then-starts_with c).Else-is_empty)
    (printable (goal.at.returns-then-starts_with c).Else-not-all_printable) (begun _ _ c.starts_with.ensures.value ∙ c.if-starts_with.true)

pub returns : goal.returns
returns c =
    c.asked_command.ensures
    ∙ is_command c.args.line.now c.if-line-gt-LONGEST.false (some (goal.at.returns c).Else-is_empty)
    (printable (goal.at.returns c).Else-not-all_printable) (begun _ _ c.starts_with.ensures.value ∙ c.if-starts_with.false)
