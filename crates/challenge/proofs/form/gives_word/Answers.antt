-- `challenge::form::gives_word` meets its contract: the second field is one of the two words.
-- Assumes nothing.
use mathlib.Core.Path.{sym, ap₂, ◌∙◌}
use mathlib.Core.List.{List}
use lib.Dec.{eqb}
use lib.Pointwise.{pointwise}
use Prim.Native.Nat.{ℕ}
use Rattle.challenge.specs.Form.{is_word}
use Rattle.challenge.proofs.Values.{equal}
use Rattle.challenge.proofs.form.gives_word.Goals as goal

pub returns-then-gives_op : goal.returns-then-gives_op
unfolding is_word
returns-then-gives_op c = rw (sym c.gives_op.ensures ∙ c.if-gives_op.true)

pub returns : goal.returns
unfolding is_word
returns c =
    rw (sym c.gives_op.ensures ∙ c.if-gives_op.false)
    (c.eq.ensures ∙ ap₂ (λ (a b : List ℕ). pointwise eqb a b) c.field.ensures c.as_slice.ensures ∙ equal _ _)
