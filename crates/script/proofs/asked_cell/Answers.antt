-- `script::asked_cell` meets its contract: the words of the line decide.
-- Assumes nothing.
use mathlib.Core.Bool.{false}
use mathlib.Core.Path.{◌≡◌, ◌∙◌}
use Rattle.script.specs.Quoted.{quoted}
use Rattle.script.specs.Script.{is}
use Rattle.script.proofs.Lines.{same, is_store_cell, is_cut_cell, is_restart_cell, is_no_cell}
use Rattle.script.proofs.asked_cell.Goals.{Else-eq, Else-eq-2}
use Rattle.script.proofs.asked_cell.Goals as goal

-- past each test the line is not its words
no_store : (c : Else-eq) → is (quoted "store cell") c.args.line.now ≡ false
no_store c = same _ _ c.eq.ensures c.as_slice.ensures ∙ c.if-eq.false

no_cut : (c : Else-eq-2) → is (quoted "cut cell") c.args.line.now ≡ false
no_cut c = same _ _ c.eq-2.ensures c.as_slice-2.ensures ∙ c.if-eq-2.false

pub returns-then-eq : goal.returns-then-eq
returns-then-eq c = is_store_cell c.args.line.now (same _ _ c.eq.ensures c.as_slice.ensures ∙ c.if-eq.true)

pub returns-then-eq-2 : goal.returns-then-eq-2
returns-then-eq-2 c =
    is_cut_cell c.args.line.now (no_store (goal.at.returns-then-eq-2 c).Else-eq) (same _ _ c.eq-2.ensures c.as_slice-2.ensures ∙ c.if-eq-2.true)

pub returns-then-eq-3 : goal.returns-then-eq-3
returns-then-eq-3 c =
    is_restart_cell c.args.line.now (no_store (goal.at.returns-then-eq-3 c).Else-eq) (no_cut (goal.at.returns-then-eq-3 c).Else-eq-2) (same _ _ c.eq-3.ensures c.as_slice-3.ensures ∙ c.if-eq-3.true)

pub returns : goal.returns
returns c =
    is_no_cell c.args.line.now (no_store (goal.at.returns c).Else-eq) (no_cut (goal.at.returns c).Else-eq-2) (same _ _ c.eq-3.ensures c.as_slice-3.ensures ∙ c.if-eq-3.false)
