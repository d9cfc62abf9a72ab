-- `demo::plugs::store_cell` meets its contract: what the cell answers is shown.
-- Assumes nothing.
use mathlib.Core.Path.{ap}
use Rattle.demo.specs.Plugs.{with_cell, storing_cell}
use Rattle.demo.proofs.Steps.{cell_step}
use Rattle.demo.proofs.plugs.store_cell.Goals as goal

pub returns : goal.returns
unfolding storing_cell
returns c =
    cell_step _ (ap (with_cell c.args.stage.now) c.store-answer.ensures.cell) c.store-answer.ensures.answered c.show_cell.ensures
