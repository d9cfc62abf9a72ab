-- `numbering::can_arise` meets its contract: below the width a mark that is left by a shift by V is a mark below number 0.
-- Assumes nothing.
use Rattle.std.proofs.lemmas.Grind.{common_steps}
use native.Mathlib.Omega.{arith}
use Rattle.numbering.specs.Numbering.{end, marks_of, can_arise}
use Rattle.numbering.proofs.Masks.{past_shift}
use Rattle.numbering.proofs.can_arise.Goals.{then-next-le-END+then-next-ge-WIDTH, then-next-le-END+else-next-ge-WIDTH, else-next-le-END}
use Rattle.numbering.proofs.can_arise.Goals as goal

pub returns-else-marks-next-eq0 : goal.returns-else-marks-next-eq0
unfolding marks_of can_arise end
returns-else-marks-next-eq0 c =
    elim c.if-next-le-END.branch [
      | then-next-le-END+then-next-ge-WIDTH w ↦ grind (arith, common_steps)
      | then-next-le-END+else-next-ge-WIDTH w ↦ grind (arith, common_steps, past_shift)
      | else-next-le-END w ↦ grind (arith, common_steps)
    ]
