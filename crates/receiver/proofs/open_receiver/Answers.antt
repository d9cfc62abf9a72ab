-- `receiver::open_receiver` meets its contract: a new receiver on the link that was opened, or on no link.
-- Assumes nothing.
use Rattle.refusals.proofs.Calls.{made_of}
use Rattle.link.specs.Link.{link_order, no_link, link_of}
use Rattle.receiver.specs.Receiver.{new_receiver}
use Rattle.receiver.proofs.open_receiver.Goals as goal

pub returns : goal.returns
unfolding new_receiver
returns c =
    let given = c.args in
    let opened = rw c.in_ok-link.was at c.open_link.ensures in
    rw c.start-numbering.ensures
    (made_of new_receiver (link_order given.key.now given.sapi given.direction) no_link (link_of given.key.now given.iov given.sapi given.direction) opened)
