-- `kasumi::schedule::keys_of_round` meets its contract, key by key from what the words and rotations ensure.
-- Assumes nothing.
use native.Mathlib.Omega.{arith}
use lib.Dec.{lit≤}
use Rattle.kasumi.specs.Kasumi.{round_keys}
use Rattle.kasumi.proofs.Words.{rotated}
use Rattle.kasumi.proofs.schedule.keys_of_round.Goals as goal

pub returns : goal.returns
unfolding round_keys
returns c =
    cc (
      rotated 1 c.word.result c.rotate_left.ensures (lit≤ tt) (omega arith),
      rotated 5 c.word-2.result c.rotate_left-2.ensures (lit≤ tt) (omega arith),
      rotated 8 c.word-3.result c.rotate_left-3.ensures (lit≤ tt) (omega arith),
      rotated 13 c.word-4.result c.rotate_left-4.ensures (lit≤ tt) (omega arith),
    )
