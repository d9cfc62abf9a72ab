-- `challenge::form::has_value` meets its contract: where no octet has room, a value is refused for want of it, and nothing else is.
-- Assumes nothing.
use Prim.Native.Nat.{ℕ}
use borrow.Author.Tests.{ne_eqb}
use lib.Dec.{eqb}
use mathlib.Core.Bool.{false}
use mathlib.Core.Path.{◌≡◌, sym, ap, ◌∙◌}
use Rattle.std.specs.Prelude.{Result, Err}
use Rattle.refusals.specs.declared.Refusal.{Refusal}
use Rattle.refusals.specs.declared.Refusal.TheVariants.{Room}
use Rattle.refusals.specs.Number.{number_of, refusal_of}
use Rattle.refusals.proofs.Number.{number_own}
use Rattle.challenge.specs.Form.{field_of, is_value}
use Rattle.challenge.proofs.Values.{value_alone}
use Rattle.challenge.proofs.form.has_value.Goals.{After-octets_of_hex}
use Rattle.challenge.proofs.form.has_value.Goals as goal

told : (c : After-octets_of_hex) (answer : Result ℕ Refusal) → c.octets_of_hex.result ≡ answer → eqb (refusal_of answer) 4 ≡ is_value (field_of c.args.k c.args.line.now)
told c answer is =
    ap (λ (r : Result ℕ Refusal). eqb (refusal_of r) 4) (sym is) ∙ value_alone _ c.octets_of_hex.ensures ∙ ap is_value c.field.ensures

pub returns-in-Ok : goal.returns-in-Ok
returns-in-Ok c = told (goal.at.returns-in-Ok c).After-octets_of_hex _ c.in-Ok.is

pub returns-in-Room : goal.returns-in-Room
returns-in-Room c = told (goal.at.returns-in-Room c).After-octets_of_hex _ (c.in-Err.is ∙ ap (λ (r : Refusal). Err r) c.in-Room.is)

pub returns-in_default : goal.returns-in_default
returns-in_default c =
    let other : eqb (number_of c.in-Err.refusal) 4 ≡ false = ne_eqb _ 4 (λ same. c.in_default.not-Room (number_own c.in-Err.refusal Room same)) in
    sym other ∙ told (goal.at.returns-in_default c).After-octets_of_hex _ c.in-Err.is
