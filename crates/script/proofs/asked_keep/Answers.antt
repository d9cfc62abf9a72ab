-- `script::asked_keep` meets its contract: the length, the place and the space decide.
-- Assumes nothing.
use native.Mathlib.Omega.{arith}
use mathlib.Core.Path.{sym, ◌∙◌}
use Rattle.std.proofs.lemmas.Result.{err_from_is_err_and}
use Rattle.script.proofs.Lines.{refused, keep_short, keep_nowhere, keep_there, keep_unspaced}
use Rattle.script.proofs.asked_keep.Goals as goal

pub returns-in_default : goal.returns-in_default
returns-in_default c = keep_short _ c.in_default.len_below

pub returns-in_default-2 : goal.returns-in_default-2
returns-in_default-2 c = keep_unspaced _ c.in_default.len_at_least (omega arith)

pub returns-in_err-ok_or-in-32 : goal.returns-in_err-ok_or-in-32
returns-in_err-ok_or-in-32 c =
    let none = c.in_err-ok_or-in-32.ensures.ok_part in
    let p = err_from_is_err_and c.from_residual.result c.from_residual.ensures.1 in
    rw (p.1, p.2) (refused c.in_err-ok_or-in-32.ensures.value none ∙ keep_nowhere _ c.in-32.len_at_least (sym c.place_of.ensures ∙ none))

pub returns-in_ok-ok_or-in-32 : goal.returns-in_ok-ok_or-in-32
returns-in_ok-ok_or-in-32 c = keep_there _ c.in-32.len_at_least (sym c.place_of.ensures ∙ c.in_ok-ok_or-in-32.ensures.ok_part) (omega arith)
