-- `demo::acts::give` meets its contract: the frame kept at the place is the one handed.
-- Assumes nothing.
use Rattle.script.specs.Quoted.{quoted}
use Rattle.demo.specs.Columns.{column, phone_columns}
use Rattle.demo.specs.Ends.{frame_kept}
use Rattle.demo.specs.Acts.{handed_with, giving}
use Rattle.demo.proofs.Steps.{stepped_as}
use Rattle.demo.proofs.acts.give.Goals as goal

pub returns : goal.returns
unfolding giving frame_kept phone_columns column
returns c =
    stepped_as (λ i. handed_with c.args.stage.now (column (quoted "-")) (c.counted.ensures i) (c.octets_kept.ensures i)) c.hand.ensures
