-- `using::seal` meets its contract: the frame lies within the buffer.
-- Assumes nothing.
use Rattle.sender.proofs.Within.{sealed_fits}
use Rattle.using.proofs.seal.Goals as goal

pub returns : goal.returns
returns c = sealed_fits _ _ _ _ c.seal.ensures
