-- Promise 1. Assumes nothing.
use mathlib.Core.Path.{ap, ◌∙◌}
use Rattle.refusals.proofs.Calls.{refused_keeps}
use Rattle.numbering.specs.Numbering.{width}
use Rattle.link.specs.Link.{link_can_arise, open_link_call}
use Rattle.link.proofs.Links.{no_link_lem}
use Rattle.sender.specs.Sender.{new_sender, open_sender_call, sender_can_arise}
use Rattle.receiver.specs.Receiver.{new_receiver, open_receiver_call, receiver_can_arise}
use Rattle.stored.specs.Ends.{restore_sender_call, restore_receiver_call}
use Rattle.promises.specs.Promise1.{Promise1}
use Rattle.promises.proofs.Calls.{all_answer}

pub promise_1 : Promise1
unfolding sender_can_arise new_sender receiver_can_arise new_receiver
promise_1 = record {
  calls = all_answer;
  no_link_lem = λ key iov sapi direction answered some.
      let none = refused_keeps (open_link_call key iov sapi direction) answered some in
      (none, ap link_can_arise none ∙ no_link_lem);
  no_sender = λ key iov sapi direction answered some.
      let none = refused_keeps (open_sender_call key iov sapi direction) answered some in
      (none, ap sender_can_arise none ∙ rw no_link_lem);
  no_receiver = λ key iov sapi direction answered some.
      let none = refused_keeps (open_receiver_call key iov sapi direction) answered some in
      (none, ap (receiver_can_arise width) none ∙ rw no_link_lem);
  no_restored_sender = λ octets answered some.
      let none = refused_keeps (restore_sender_call octets) answered some in
      (none, ap sender_can_arise none ∙ rw no_link_lem);
  no_restored_receiver = λ octets answered some.
      let none = refused_keeps (restore_receiver_call width octets) answered some in
      (none, ap (receiver_can_arise width) none ∙ rw no_link_lem);
}
