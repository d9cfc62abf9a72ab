-- `sender::open_sender` meets its contract: a new sender on the link that was opened, or on no link.
-- Assumes nothing.
use Rattle.refusals.proofs.Calls.{made_of}
use Rattle.link.specs.Link.{link_order, no_link, link_of}
use Rattle.sender.specs.Sender.{new_sender}
use Rattle.sender.proofs.open_sender.Goals as goal

pub returns : goal.returns
unfolding new_sender
returns c =
    let given = c.args in
    let opened = rw c.in_ok-link.was at c.open_link.ensures in
    made_of new_sender (link_order given.key.now given.sapi given.direction) no_link (link_of given.key.now given.iov given.sapi given.direction) opened
