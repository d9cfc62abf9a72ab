-- `script::asked_give` meets its contract: the length and the place decide.
-- Assumes nothing.
use native.Mathlib.Omega.{arith}
use mathlib.Core.Path.{sym, ◌∙◌}
use Rattle.std.proofs.lemmas.Result.{err_from_is_err_and}
use Rattle.script.proofs.Lines.{refused, give_nowhere, give_there, give_other}
use Rattle.script.proofs.asked_give.Goals as goal

pub returns-in_default : goal.returns-in_default
returns-in_default c = give_other _ (omega arith)

pub returns-in_default-2 : goal.returns-in_default-2
returns-in_default-2 c = give_other _ (omega arith)

pub returns-in_err-ok_or-in-len1 : goal.returns-in_err-ok_or-in-len1
returns-in_err-ok_or-in-len1 c =
    let none = c.in_err-ok_or-in-len1.ensures.ok_part in
    let p = err_from_is_err_and c.from_residual.result c.from_residual.ensures.1 in
    rw (p.1, p.2) (refused c.in_err-ok_or-in-len1.ensures.value none ∙ give_nowhere _ (omega arith) (sym c.place_of.ensures ∙ none))

pub returns-in_ok-ok_or-in-len1 : goal.returns-in_ok-ok_or-in-len1
returns-in_ok-ok_or-in-len1 c = give_there _ (omega arith) (sym c.place_of.ensures ∙ c.in_ok-ok_or-in-len1.ensures.ok_part)
