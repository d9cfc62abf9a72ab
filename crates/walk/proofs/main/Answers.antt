-- `walk::main` is safe and ends: the header is within the output.
-- Assumes nothing.
use native.Mathlib.Omega.{arith}
use mathlib.Core.Path.{◌∙◌}
use Rattle.refusals.proofs.Number.{is_ok}
use Rattle.refusals.proofs.Within.{front_within}
use Rattle.lines.proofs.Text.{room_enough}
use Rattle.walk.specs.Walk.{header}
use Rattle.walk.proofs.main.Goals as goal

pub slice_bounds-output-end : goal.slice_bounds-output-end
slice_bounds-output-end c = (front_within header _ c.put_header-size.ensures.written_is c.put_header-size.ensures.output_is).0

pub slice_bounds-write_all-end : goal.slice_bounds-write_all-end
slice_bounds-write_all-end c = (front_within header _ c.put_header-size.ensures.written_is c.put_header-size.ensures.output_is).1

-- and what is lent has room for the longest answer
pub unwrap-requires : goal.unwrap-requires
unwrap-requires c = is_ok _ (c.answer_input.ensures.room ∙ room_enough _ _ (omega arith))
