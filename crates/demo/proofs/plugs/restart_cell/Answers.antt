-- `demo::plugs::restart_cell` meets its contract: what the cell answers is shown.
-- Assumes nothing.
use mathlib.Core.Path.{ap}
use Rattle.demo.specs.Plugs.{with_cell, restarting_cell}
use Rattle.demo.proofs.Steps.{cell_step}
use Rattle.demo.proofs.plugs.restart_cell.Goals as goal

pub returns : goal.returns
unfolding restarting_cell
returns c =
    cell_step _ (ap (with_cell c.args.stage.now) c.restart-answer.ensures.cell) c.restart-answer.ensures.answered c.show_cell.ensures
