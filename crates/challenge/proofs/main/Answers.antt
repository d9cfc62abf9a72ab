-- `challenge::main` is safe: what it lends has room for the longest answer.
-- Assumes nothing.
use native.Mathlib.Omega.{arith}
use mathlib.Core.Path.{◌∙◌}
use Rattle.refusals.proofs.Number.{is_ok}
use Rattle.lines.proofs.Text.{room_enough}
use Rattle.challenge.proofs.main.Goals as goal

pub unwrap-requires : goal.unwrap-requires
unwrap-requires c = is_ok _ (c.answer_input.ensures.room ∙ room_enough _ _ (omega arith))
