-- `demo::columns::show_silent` meets its contract: the cell's columns have nothing to show.
-- Assumes nothing.
use Rattle.demo.specs.Columns.{column, text_column, silent_columns}
use Rattle.demo.proofs.columns.show_silent.Goals as goal

pub returns : goal.returns
unfolding silent_columns text_column column
returns c = c.show.ensures
