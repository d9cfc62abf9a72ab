-- `demo::plugs::cut_cell` meets its contract: the cell is cut, and this is shown.
-- Assumes nothing.
use mathlib.Core.Path.{refl}
use Rattle.script.specs.Quoted.{quoted}
use Rattle.demo.specs.Columns.{column, phone_columns}
use Rattle.demo.specs.Ends.{cut_cell}
use Rattle.demo.specs.Plugs.{with_cell, cut_shown, cutting_cell}
use Rattle.demo.proofs.Steps.{silent}
use Rattle.demo.proofs.plugs.cut_cell.Goals as goal

pub returns : goal.returns
unfolding cutting_cell cut_cell cut_shown phone_columns column
returns c =
    let stage = c.args.stage.now in
    silent {stage' = with_cell stage (cut_cell stage.cell)} {phone' = column (quoted "-")} refl refl c.column.ensures c.show_silent.ensures
