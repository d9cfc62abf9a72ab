-- `demo::plugs::show_cell` meets its contract: a hyphen, what was done, and the cell's columns.
-- Assumes nothing.
use Prim.Native.Nat.{ℕ}
use mathlib.Core.List.{List, []}
use mathlib.Core.Path.{subst}
use Rattle.lines.specs.Text.{AtFront}
use Rattle.script.specs.Quoted.{quoted}
use Rattle.demo.specs.Columns.{column, phone_columns, cell_columns, number_text, text_column}
use Rattle.demo.specs.Plugs.{cell_shown}
use Rattle.demo.specs.Rows.{line_of}
use Rattle.demo.proofs.plugs.show_cell.Goals as goal

pub returns : goal.returns
unfolding cell_shown phone_columns cell_columns number_text text_column column
returns c =
    subst (λ (l : List ℕ). AtFront l c.args.output.now c.show.result c.show.new.output)
    (λ i. line_of c.args.stage.now (record { phone = column (quoted "-"); done = c.column.ensures i; number = column (quoted "-"); answer = c.answered.ensures i }) []) c.show.ensures
