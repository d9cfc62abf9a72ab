-- `call::handed`: what stands for a refused Sender is a new sender of no link.
-- Assumes nothing.
use mathlib.Core.Path.{refl}
use Rattle.link.specs.Link.{no_link}
use Rattle.sender.specs.Sender.{new_sender}
use Rattle.call.proofs.handed.SenderHanded.NONE.Goals as goal

pub returns : goal.returns
unfolding no_link new_sender
returns c = refl
