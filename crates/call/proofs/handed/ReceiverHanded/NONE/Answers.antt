-- `call::handed`: what stands for a refused Receiver is a new receiver of no link.
-- Assumes nothing.
use mathlib.Core.Path.{refl}
use Rattle.link.specs.Link.{no_link}
use Rattle.receiver.specs.Receiver.{new_receiver}
use Rattle.call.proofs.handed.ReceiverHanded.NONE.Goals as goal

pub returns : goal.returns
unfolding no_link new_receiver
returns c = refl
