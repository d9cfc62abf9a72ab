-- `demo::acts::nothing` meets its contract: a question mark, why, and the columns of a cell that is handed nothing.
-- Assumes nothing.
use mathlib.Core.List.{List}
use mathlib.Core.Path.{ap, ap₂, subst, ◌∙◌}
use Prim.Native.Nat.{ℕ}
use Rattle.lines.specs.Text.{AtFront}
use Rattle.demo.specs.Columns.{column, phone_columns}
use Rattle.demo.specs.Acts.{nothing}
use Rattle.demo.specs.Rows.{silent_line}
use Rattle.demo.proofs.acts.nothing.Goals as goal

pub returns : goal.returns
unfolding nothing phone_columns
returns c =
    subst (λ (l : List ℕ). AtFront l c.args.output.now c.show_silent.result c.show_silent.new.output)
    (ap₂ (silent_line c.args.stage.now) c.column.ensures (c.column-2.ensures ∙ ap column c.word_for.ensures)) c.show_silent.ensures
