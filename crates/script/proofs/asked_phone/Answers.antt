-- `script::asked_phone` meets its contract: the words of the line decide.
-- Assumes nothing.
use mathlib.Core.Path.{ap, ◌∙◌}
use Rattle.script.specs.Quoted.{quoted}
use Rattle.script.specs.Script.{asked_store}
use Rattle.script.proofs.Lines.{stripped, same, is_store_phone, is_tell_phone, is_cut_phone, is_restart_phone, is_no_phone}
use Rattle.script.proofs.asked_phone.Goals as goal

pub returns-in-Some : goal.returns-in-Some
returns-in-Some c =
    c.asked_store.ensures ∙ ap asked_store c.in-Some.ensures.cases.1
    ∙ is_store_phone c.args.line.now (stripped (quoted "store phone ") _ c.in-Some.ensures.cases.0)

pub returns-then-eq : goal.returns-then-eq
returns-then-eq c =
    is_tell_phone c.args.line.now (stripped (quoted "store phone ") _ c.in_default.ensures.cases) (same _ _ c.eq.ensures c.as_slice.ensures ∙ c.if-eq.true)

pub returns-then-eq-2 : goal.returns-then-eq-2
returns-then-eq-2 c =
    is_cut_phone c.args.line.now (stripped (quoted "store phone ") _ c.in_default.ensures.cases)
    (same (quoted "tell phone") _ c.eq.ensures c.as_slice.ensures ∙ c.if-eq.false) (same _ _ c.eq-2.ensures c.as_slice-2.ensures ∙ c.if-eq-2.true)

pub returns-then-eq-3 : goal.returns-then-eq-3
returns-then-eq-3 c =
    is_restart_phone c.args.line.now (stripped (quoted "store phone ") _ c.in_default.ensures.cases)
    (same (quoted "tell phone") _ c.eq.ensures c.as_slice.ensures ∙ c.if-eq.false)
    (same (quoted "cut phone") _ c.eq-2.ensures c.as_slice-2.ensures ∙ c.if-eq-2.false) (same _ _ c.eq-3.ensures c.as_slice-3.ensures ∙ c.if-eq-3.true)

pub returns : goal.returns
returns c =
    c.asked_cell.ensures
    ∙ is_no_phone c.args.line.now (stripped (quoted "store phone ") _ c.in_default.ensures.cases)
    (same (quoted "tell phone") _ c.eq.ensures c.as_slice.ensures ∙ c.if-eq.false)
    (same (quoted "cut phone") _ c.eq-2.ensures c.as_slice-2.ensures ∙ c.if-eq-2.false)
    (same (quoted "restart phone") _ c.eq-3.ensures c.as_slice-3.ensures ∙ c.if-eq-3.false)
