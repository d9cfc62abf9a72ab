-- `challenge::form::field` meets its contract: it lies between its place and its end.
-- Assumes nothing.
use mathlib.Core.Path.{ap, sym, ◌∙◌}
use Prim.Native.Nat.{ℕ, ◌-◌}
use lib.ListN.{take, drop}
use native.Mathlib.Omega.{arith}
use Rattle.challenge.proofs.Fields.{end_within, field_here}
use Rattle.challenge.proofs.form.field.Goals as goal

pub slice_bounds-result-end : goal.slice_bounds-result-end
slice_bounds-result-end c = omega (arith, c.field_end-end.ensures, end_within c.args.line.now c.field_place-from.result c.field_place-from.ensures.0)

pub returns : goal.returns
returns c =
    let line = c.args.line.now in
    let from : ℕ = c.field_place-from.result in
    ap (λ (n : ℕ). take (n - from) (drop from line)) c.field_end-end.ensures
    ∙ field_here line from c.field_place-from.ensures.0
    ∙ sym c.field_place-from.ensures.1
