-- `script::asked_lose` meets its contract: the count decides.
-- Assumes nothing.
use mathlib.Core.Path.{sym, ◌∙◌}
use Rattle.std.proofs.lemmas.Result.{err_from_is_err_and}
use Rattle.script.proofs.Lines.{refused, lose_none, lose_zero, lose_some}
use Rattle.script.proofs.asked_lose.Goals as goal

pub returns-in_err-count : goal.returns-in_err-count
returns-in_err-count c =
    let none = c.in_err-count.ensures.ok_part in
    let p = err_from_is_err_and c.from_residual.result c.from_residual.ensures.1 in
    rw (p.1, p.2) (refused c.in_err-count.ensures.value none ∙ lose_none _ (sym c.count_of.ensures ∙ none))

pub returns-then-count-eq0 : goal.returns-then-count-eq0
returns-then-count-eq0 c = lose_zero _ (sym c.count_of.ensures ∙ c.in_ok-count.ensures.ok_part) c.if-count-eq0.true

pub returns : goal.returns
returns c = lose_some _ (sym c.count_of.ensures ∙ c.in_ok-count.ensures.ok_part) c.if-count-eq0.false
