-- `challenge::form::field_end` meets its contract: the first space from the place on ends the field.
-- Assumes nothing.
use Prim.Native.Nat.{ℕ, ◌+◌, ◌-◌}
use borrow.Author.Tests.{tests}
use lib.Dec.{eqb}
use lib.ListN.{length, take, drop, length-drop}
use lib.Seq.{take-length}
use mathlib.Core.List.{List}
use mathlib.Core.Path.{◌≡◌, sym, ap, ◌∙◌}
use Rattle.std.proofs.Common.{rules}
use Rattle.std.proofs.lemmas.Iterator.{YieldsList-from_slice}
use Rattle.std.proofs.lemmas.Iterator.Search.{position_from_yields_List}
use Rattle.challenge.proofs.Fields.{size_position}
use Rattle.challenge.proofs.form.field_end.Goals as goal

pub returns : goal.returns
returns c =
    let from : ℕ = c.args.from in
    let rest : List ℕ = drop from c.args.line.now in
    let left : length rest ≡ length c.args.line.now - from = length-drop from c.args.line.now in
    let whole : take (length c.args.line.now - from) rest ≡ rest = ap (λ (n : ℕ). take n rest) (sym left) ∙ take-length rest in
    ap (λ (n : ℕ). from + n)
    (size_position rest
    (position_from_yields_List (λ (octet : ℕ). eqb octet 32) _ _ c.position-size.result c.position-size.ensures.ran (YieldsList-from_slice rest (c.iter.ensures.rest ∙ whole)) (λ x b q k. search (rules, tests)))
    (sym left) c.unwrap_or.ensures)
