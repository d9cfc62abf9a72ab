-- `milenage::f5_star` meets its contract: the first six octets of OUT5.
-- Assumes nothing.
use Rattle.milenage.specs.Milenage.{fixed5, f5_star_output}
use Rattle.milenage.proofs.f5_star.Goals as goal

pub returns : goal.returns
unfolding fixed5 f5_star_output
returns c = c.result.ensures
