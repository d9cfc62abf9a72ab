-- `demo::main` is safe and ends: what `put_heading` writes is within the output.
-- Assumes nothing.
use lib.Seq.{length-take-le}
use mathlib.Core.Path.{sym, ◌∙◌}
use native.Mathlib.Omega.{arith}
use Rattle.refusals.proofs.Number.{is_ok}
use Rattle.lines.proofs.Text.{room_enough}
use Rattle.demo.proofs.Texts.{front_within}
use Rattle.demo.proofs.main.Goals as goal

pub slice_bounds-output-end : goal.slice_bounds-output-end
slice_bounds-output-end c = front_within c.put_heading-size.ensures

pub slice_bounds-write_all-end : goal.slice_bounds-write_all-end
slice_bounds-write_all-end c = sym (length-take-le c.put_heading-size.result c.put_heading-size.new.output (front_within c.put_heading-size.ensures))

-- and what is lent has room for the longest answer
pub unwrap-requires : goal.unwrap-requires
unwrap-requires c = is_ok _ (c.answer_input.ensures.room ∙ room_enough _ _ (omega arith))
