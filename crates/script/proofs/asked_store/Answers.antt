-- `script::asked_store` meets its contract: the count decides.
-- Assumes nothing.
use mathlib.Core.Path.{sym, ◌∙◌}
use Rattle.std.proofs.lemmas.Result.{err_from_is_err_and}
use Rattle.script.proofs.Lines.{refused, store_none, store_some}
use Rattle.script.proofs.asked_store.Goals as goal

pub returns-in_err-ok_or : goal.returns-in_err-ok_or
returns-in_err-ok_or c =
    let none = c.in_err-ok_or.ensures.ok_part in
    let p = err_from_is_err_and c.from_residual.result c.from_residual.ensures.1 in
    rw (p.1, p.2) (refused c.in_err-ok_or.ensures.value none ∙ store_none _ (sym c.count_of.ensures ∙ none))

pub returns : goal.returns
returns c = store_some _ (sym c.count_of.ensures ∙ c.in_ok-ok_or.ensures.ok_part)
