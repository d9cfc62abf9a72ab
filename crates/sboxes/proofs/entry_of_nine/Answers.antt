-- `sboxes::entry_of_nine` meets its contract: an entry of S9 is below 512, so that the two parts join.
-- Assumes nothing.
use Prim.Native.Nat.{◌<◌}
use native.Mathlib.Omega.{arith}
use Rattle.sboxes.specs.FiTable.{entry_of_nine}
use Rattle.sboxes.proofs.SBoxes.{s9_lt}
use Rattle.sboxes.proofs.entry_of_nine.Goals.{After-s9-nine}
use Rattle.sboxes.proofs.entry_of_nine.Goals as goal

below : (c : After-s9-nine) → c.s9-nine.result < 512
below c = rw c.s9-nine.ensures (s9_lt c.args.a)

pub overflow_mul-result : goal.overflow_mul-result
overflow_mul-result c = omega (arith, below c)

pub overflow_add-result : goal.overflow_add-result
overflow_add-result c = omega (arith, below c)

pub returns : goal.returns
unfolding entry_of_nine
returns c = cc
