-- The stored forms (document 02, item 4): what is written is read back, and what is read is what would be written. Assumes nothing.
use Rattle.std.specs.Prelude.{ℕ, ◌^◌, ◌≤◌, ◌<◌, ◌≡◌, true, List, [], length}
use Rattle.refusals.specs.Call.{Answered}
use Rattle.octets.specs.Octets.{AreOctets}
use Rattle.numbering.specs.Numbering.{end, width}
use Rattle.link.specs.declared.Link.{Link}
use Rattle.link.specs.Link.{link_can_arise}
use Rattle.sender.specs.declared.Sender.{Sender}
use Rattle.sender.specs.Sender.{sender_of, sender_can_arise}
use Rattle.receiver.specs.declared.Receiver.{Receiver}
use Rattle.receiver.specs.Receiver.{receiver_can_arise}
use Rattle.stored.specs.Ends.{sender_form, receiver_form, restore_sender_call, restore_receiver_call}

-- a link as its types have it: a key of 16 octets, and an offset of 32 bits
pub record IsTyped (link : Link) : Type 0 where
  pub sixteen : length link.key ≡ 16
  pub iov_fits : link.iov < 2 ^ 32

pub record StoredForms : Type 0 where
  -- a form of a sender has 29 octets, and one of a receiver 33
  pub sender_long : (link : Link) (reserved : ℕ) → IsTyped link → length (sender_form link reserved) ≡ 29
  pub receiver_long : (receiver : Receiver) → IsTyped receiver.link → length (receiver_form receiver) ≡ 33
  -- reading what was written gives it back: a sender, which then stands at its reservation, and a receiver as it was
  pub sender_back : (link : Link) (reserved : ℕ) → IsTyped link → link_can_arise link ≡ true → reserved ≤ end
      → Answered (restore_sender_call (sender_form link reserved)) 0 [] (sender_of link reserved reserved)
  pub receiver_back : (receiver : Receiver) → IsTyped receiver.link → receiver_can_arise width receiver ≡ true
      → Answered (restore_receiver_call width (receiver_form receiver)) 0 [] receiver
  -- and octets from which an end is made are the form of that end, so that no two forms make one; and the end can arise
  pub sender_written : {octets : List ℕ} {sender : Sender} → AreOctets octets → Answered (restore_sender_call octets) 0 [] sender
      → (octets ≡ sender_form sender.link sender.reserved) × (sender.next ≡ sender.reserved) × (sender_can_arise sender ≡ true)
  pub receiver_written : {octets : List ℕ} {receiver : Receiver} → AreOctets octets → Answered (restore_receiver_call width octets) 0 [] receiver
      → (octets ≡ receiver_form receiver) × (receiver_can_arise width receiver ≡ true)
