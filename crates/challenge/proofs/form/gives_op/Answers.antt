-- `challenge::form::gives_op` meets its contract: the second field is the word.
-- Assumes nothing.
use mathlib.Core.Path.{ap₂, ◌∙◌}
use mathlib.Core.List.{List}
use Prim.Native.Nat.{ℕ}
use lib.Dec.{eqb}
use lib.Pointwise.{pointwise}
use Rattle.challenge.specs.Form.{is_op}
use Rattle.challenge.proofs.Values.{equal}
use Rattle.challenge.proofs.form.gives_op.Goals as goal

pub returns : goal.returns
unfolding is_op
returns c = c.eq.ensures ∙ ap₂ (λ (a b : List ℕ). pointwise eqb a b) c.field.ensures c.as_slice.ensures ∙ equal _ _
