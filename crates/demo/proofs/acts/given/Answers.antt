-- `demo::acts::given` meets its contract: the number is given with 11 and 4, and with no other refusal.
-- Assumes nothing.
use Prim.Native.Nat.{ℕ}
use mathlib.Core.Bool.{Bool, true}
use mathlib.Core.Logic.{inl, inr}
use mathlib.Core.Path.{◌≡◌, sym, ap, ◌∙◌}
use Rattle.refusals.specs.declared.Refusal.{Refusal}
use Rattle.refusals.specs.Number.{number_of, candidate_of}
use Rattle.lines.specs.Text.{decimal_text}
use Rattle.demo.specs.Columns.{column, number_text}
use Rattle.demo.specs.Acts.{is_given}
use Rattle.demo.proofs.Steps.{not_given}
use Rattle.demo.proofs.acts.given.Goals as goal

pub returns-in-Repeat : goal.returns-in-Repeat
unfolding number_text
returns-in-Repeat c =
    let refused = c.args.refused in
    let is : is_given (number_of refused.refusal) ≡ true =
    elim c.in-Repeat.is [
      | inl repeat ↦ ap (λ (r : Refusal). is_given (number_of r)) repeat
      | inr room ↦ ap (λ (r : Refusal). is_given (number_of r)) room
    ] in
    c.numbered.ensures
    ∙ ap (λ (n : ℕ). column (decimal_text n)) c.unwrap_or.ensures
    ∙ sym (ap (λ (b : Bool). column (number_text b (candidate_of refused))) is)

pub returns-in_default : goal.returns-in_default
unfolding number_text column
returns-in_default c =
    let refused = c.args.refused in
    sym (ap (λ (b : Bool). column (number_text b (candidate_of refused))) (not_given refused.refusal c.in_default.not-Repeat c.in_default.not-Room))
