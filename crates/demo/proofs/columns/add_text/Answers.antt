-- `demo::columns::add_text` meets its contract: a hyphen, or the text as it is shown.
-- Assumes nothing.
use Prim.Native.Nat.{ℕ, ◌+◌}
use lib.ListN.{length, set, take-append-drop}
use mathlib.Core.List.{List, [], ◌∷◌}
use mathlib.Core.Path.{◌≡◌, refl, sym, ap₂, subst, ◌∙◌}
use native.Mathlib.Omega.{arith}
use borrow.Author.Tests.{eqb-true, eqb-false}
use Rattle.lines.specs.Text.{Added}
use Rattle.lines.proofs.Placed.{added_octet}
use Rattle.demo.specs.Columns.{shown_text}
use Rattle.demo.proofs.Texts.{shown_none, shown_turn, shown_put, text_none, text_some}
use Rattle.demo.proofs.columns.add_text.Goals as goal

pub returns-then-is_empty : goal.returns-then-is_empty
returns-then-is_empty c =
    let none : length c.args.text.now ≡ 0 = eqb-true _ 0 (sym c.is_empty.ensures ∙ c.if-is_empty.true) in
    rw (sym (text_none c.args.text.now none))
    (added_octet {text = 45 ∷ []} 10 (added_octet {text = []} 45 (record { end_is = refl; output_is = sym (take-append-drop 66 c.args.output.now) }) (omega arith)) (omega arith))

pub loop-place-init : goal.loop-place-init
loop-place-init c = shown_none c.args.text.now c.args.output.now 66

pub loop-place-preserved : goal.loop-place-preserved
loop-place-preserved c =
    let given = c.args in
    let i : ℕ = c.loop-place.place in
    ap₂ (λ (l : List ℕ) (x : ℕ). set l (66 + i) x) c.loop-place.invariant c.shown.ensures
    ∙ shown_turn given.text.now given.output.now 66 i (omega (arith, c.requires)) (omega arith)

pub returns : goal.returns
returns c =
    let given = c.args in
    let text : List ℕ = given.text.now in
    let some = eqb-false _ 0 (sym c.is_empty.ensures ∙ c.if-is_empty.false) in
    let all : c.loop-place.place ≡ length text = omega arith in
    let put : Added (shown_text text) given.output.now 66 (66 + length text) c.loop-place.output =
    subst (λ (n : ℕ). Added (shown_text text) given.output.now 66 (66 + n) c.loop-place.output) all
    (subst (Added (shown_text text) given.output.now 66 (66 + c.loop-place.place)) (sym c.loop-place.invariant)
    (shown_put text given.output.now 66 c.loop-place.place (omega (arith, c.requires)) all)) in
    rw (sym (text_some text some)) (added_octet 10 put (omega (arith, c.requires)))
