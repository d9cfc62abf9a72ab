-- `milenage::f4` meets its contract: 16 octets are all of OUT4.
-- Assumes nothing.
use Rattle.milenage.specs.Milenage.{fixed4, f4_output}
use Rattle.milenage.proofs.Parts.{length-out, to_the_end, answered_same}
use Rattle.milenage.proofs.f4.Goals as goal

pub returns : goal.returns
unfolding fixed4 f4_output
returns c = answered_same (to_the_end 0 16 _ (length-out _ _ _ _)) c.result.ensures
