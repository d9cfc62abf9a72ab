-- `milenage::f5` meets its contract: the first six octets of OUT2.
-- Assumes nothing.
use Rattle.milenage.specs.Milenage.{fixed2, f5_output}
use Rattle.milenage.proofs.f5.Goals as goal

pub returns : goal.returns
unfolding fixed2 f5_output
returns c = c.result.ensures
