-- `walk::walks::put_header` meets its contract: there is room for the header.
-- Assumes nothing.
use native.Mathlib.Omega.{arith}
use mathlib.Core.Path.{refl}
use Rattle.lines.proofs.Callers.{unwrapped, room_ok}
use Rattle.lines.proofs.Placed.{at_front_put}
use Rattle.walk.specs.Walk.{header}
use Rattle.walk.proofs.walks.put_header.Goals as goal

pub unwrap-requires : goal.unwrap-requires
unfolding header
unwrap-requires c = room_ok 21 _ _ _ c.put_text.ensures (omega (arith, c.requires))

pub returns : goal.returns
unfolding header
returns c = at_front_put header _ (unwrapped c.put_text.ensures c.unwrap.ensures) (omega (arith, c.requires)) refl
