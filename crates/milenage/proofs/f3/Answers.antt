-- `milenage::f3` meets its contract: 16 octets are all of OUT3.
-- Assumes nothing.
use Rattle.milenage.specs.Milenage.{fixed3, f3_output}
use Rattle.milenage.proofs.Parts.{length-out, to_the_end, answered_same}
use Rattle.milenage.proofs.f3.Goals as goal

pub returns : goal.returns
unfolding fixed3 f3_output
returns c = answered_same (to_the_end 0 16 _ (length-out _ _ _ _)) c.result.ensures
