-- `challenge::form::field_place` meets its contract. The loop's invariant: field k of the line is the field so many later of what lies from the
-- place on, as are left to pass.
-- Assumes nothing.
use Prim.Native.Nat.{◌-◌, ◌≤◌}
use lib.ListN.{length, drop}
use mathlib.Core.Path.{◌≡◌}
use Rattle.challenge.specs.Form.{field_of}
use Rattle.challenge.proofs.form.field_place.Given as goal

abbrev pub invariant-loop : goal.invariant-loop
invariant-loop l = (l.from ≤ length l.line) × (field_of l.k l.line ≡ field_of (l.k - l.counter) (drop l.from l.line))
