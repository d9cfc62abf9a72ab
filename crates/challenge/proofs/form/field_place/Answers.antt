-- `challenge::form::field_place` meets its contract. The loop's invariant: field k of the line is field k - i of what lies from the place on. The
-- measure is how many fields are left to pass.
-- Assumes nothing.
use Prim.Native.Nat.{ℕ, suc, ◌+◌, ◌-◌, ◌≤◌}
use lib.ListN.{length, drop}
use mathlib.Core.List.{List}
use mathlib.Core.Path.{◌≡◌, sym, ap, ◌∙◌}
use native.Mathlib.Omega.{arith}
use Rattle.challenge.specs.Form.{field_of}
use Rattle.challenge.proofs.Fields.{end_of, end_within, field_next, field_none}
use Rattle.challenge.proofs.form.field_place.Goals.{After-field_end-end}
use Rattle.challenge.proofs.form.field_place.Goals as goal

-- where the field at the place has been passed: its end, and what field k then is
module _ (c : After-field_end-end) where
  abbrev line : List ℕ
  line = c.args.line.now

  abbrev from : ℕ
  from = c.loop.from

  abbrev left : ℕ
  left = c.args.k - (c.loop.counter + 1)

  within : end_of line from ≤ length line
  within = end_within line from c.loop.invariant.0

  one_left : field_of c.args.k line ≡ field_of (suc left) (drop from line)
  one_left =
      let more : c.args.k - c.loop.counter ≡ suc left = omega arith in
      c.loop.invariant.1 ∙ ap (λ (n : ℕ). field_of n (drop from line)) more

pub returns-then-end-line : goal.returns-then-end-line
returns-then-end-line c =
    let end_is = c.field_end-end.ensures in (
      omega (arith, end_is, within (goal.at.returns-then-end-line c).After-field_end-end),
      one_left (goal.at.returns-then-end-line c).After-field_end-end
          ∙ field_none (line (goal.at.returns-then-end-line c).After-field_end-end) (from (goal.at.returns-then-end-line c).After-field_end-end) c.loop.invariant.0 (left (goal.at.returns-then-end-line c).After-field_end-end) (omega (arith, end_is))
          ∙ ap (λ (n : ℕ). field_of 0 (drop n (line (goal.at.returns-then-end-line c).After-field_end-end))) (sym end_is),
    )

pub overflow_add-from : goal.overflow_add-from
overflow_add-from c = omega (arith, c.field_end-end.ensures, within (goal.at.overflow_add-from c).After-field_end-end)

pub loop-preserved : goal.loop-preserved
loop-preserved c =
    let end_is = c.field_end-end.ensures in (
      omega (arith, end_is, within (goal.at.loop-preserved c).After-field_end-end),
      one_left (goal.at.loop-preserved c).After-field_end-end
          ∙ field_next (line (goal.at.loop-preserved c).After-field_end-end) (from (goal.at.loop-preserved c).After-field_end-end) c.loop.invariant.0 (left (goal.at.loop-preserved c).After-field_end-end) (omega (arith, end_is, within (goal.at.loop-preserved c).After-field_end-end))
          ∙ ap (λ (n : ℕ). field_of (left (goal.at.loop-preserved c).After-field_end-end) (drop (n + 1) (line (goal.at.loop-preserved c).After-field_end-end))) (sym end_is),
    )
