-- `milenage::kinds::Output::octets` meets its contract: 15 zeros stand before the constant.
-- Assumes nothing.
use mathlib.Core.Path.{refl}
use Rattle.milenage.specs.Milenage.{constant_octets}
use Rattle.milenage.proofs.kinds.Output.octets.Goals as goal

pub returns : goal.returns
unfolding constant_octets
returns c = refl
