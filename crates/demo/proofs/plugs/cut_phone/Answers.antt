-- `demo::plugs::cut_phone` meets its contract: the phone is cut, and this is shown.
-- Assumes nothing.
use mathlib.Core.Path.{refl}
use Rattle.script.specs.Quoted.{quoted}
use Rattle.demo.specs.Columns.{column, phone_columns}
use Rattle.demo.specs.Ends.{cut_phone}
use Rattle.demo.specs.Plugs.{with_phone, cut_shown, cutting_phone}
use Rattle.demo.proofs.Steps.{silent}
use Rattle.demo.proofs.plugs.cut_phone.Goals as goal

pub returns : goal.returns
unfolding cutting_phone cut_phone cut_shown phone_columns column
returns c =
    let stage = c.args.stage.now in
    silent {stage' = with_phone stage (cut_phone stage.phone)} {phone' = column (quoted "-")} refl refl c.column.ensures c.show_silent.ensures
