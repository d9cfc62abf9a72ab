-- `using::open` meets its contract: the text lies within the buffer.
-- Assumes nothing.
use Rattle.numbering.specs.Numbering.{width}
use Rattle.receiver.proofs.Within.{opened_fits}
use Rattle.using.proofs.open.Goals as goal

pub returns : goal.returns
returns c = opened_fits width _ _ _ _ c.open.ensures.answer
