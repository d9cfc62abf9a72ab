-- `kasumi::rounds::Prepared::fi` meets its contract, half by half.
-- Assumes nothing.
use native.Mathlib.Omega.{arith}
use lib.Dec.{lit≤}
use Rattle.kasumi.specs.Lent.{fi_by}
use Rattle.kasumi.proofs.Words.{rotated}
use Rattle.kasumi.proofs.rounds.Prepared.fi.Goals as goal

pub returns : goal.returns
unfolding fi_by
returns c =
    cc (
      rotated 7 c.args.ki c.rotate_left.ensures (lit≤ tt) (omega arith),
      rotated 9 c.half-2.result c.rotate_left-2.ensures (lit≤ tt) (omega arith),
    )
