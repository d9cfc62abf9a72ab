-- `milenage::f1` meets its contract: the first eight octets of OUT1.
-- Assumes nothing.
use Rattle.milenage.specs.Milenage.{f1_output}
use Rattle.milenage.proofs.f1.Goals as goal

pub returns : goal.returns
unfolding f1_output
returns c = c.code.ensures
