-- `call::handed`: what stands for a refused Link is no link.
-- Assumes nothing.
use mathlib.Core.Path.{refl}
use Rattle.link.specs.Link.{no_link}
use Rattle.call.proofs.handed.LinkHanded.NONE.Goals as goal

pub returns : goal.returns
unfolding no_link
returns c = refl
