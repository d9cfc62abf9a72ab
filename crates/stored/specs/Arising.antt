-- Which ends arise: by opening one, and by every call that leaves another, stores and restores among them. Assumes nothing.
use Rattle.std.specs.Prelude.{ℕ, List, [], ◌∷◌, take}
use Rattle.refusals.specs.Call.{Answered}
use Rattle.frames.specs.Frame.{AreOctets}
use Rattle.sender.specs.declared.Sender.{Sender}
use Rattle.sender.specs.Sender.{open_sender_call, reserve_call, seal_call}
use Rattle.receiver.specs.declared.Receiver.{Receiver}
use Rattle.receiver.specs.Receiver.{open_receiver_call, open_call}
use Rattle.stored.specs.Form.{form_size}
use Rattle.stored.specs.Ends.{store_sender_call, restore_sender_call, store_receiver_call, restore_receiver_call}

-- the senders that arise: one that was opened; what a seal or a reservation leaves of one that arises; and what is restored from the form that was
-- stored of one that arises
pub data SenderArises : Sender → Type 0 where
  opened : (key : List ℕ) (iov sapi direction : ℕ) {sender : Sender} → Answered (open_sender_call key iov sapi direction) 0 [] sender → SenderArises sender
  sealed : (payload before : List ℕ) {sender later : Sender} {number size : ℕ} {after : List ℕ} → SenderArises sender
      → Answered (seal_call sender payload before) 0 (number ∷ size ∷ []) (record { sender = later; output = after }) → SenderArises later
  told : (reserved : ℕ) {sender later : Sender} → SenderArises sender → Answered (reserve_call sender reserved) 0 [] later → SenderArises later
  restored : (reserved : ℕ) (before : List ℕ) {sender later : Sender} {after : List ℕ} → SenderArises sender
      → Answered (store_sender_call sender reserved before) 0 [] after → Answered (restore_sender_call (take (form_size 1) after)) 0 [] later → SenderArises later

-- the receivers that arise: one that was opened; what opening a frame leaves of one that arises; and what is restored from the form that was stored of
-- one that arises
pub data ReceiverArises (w : ℕ) : Receiver → Type 0 where
  opened : (key : List ℕ) (iov sapi direction : ℕ) {receiver : Receiver} → Answered (open_receiver_call key iov sapi direction) 0 [] receiver → ReceiverArises w receiver
  accepted_frame : (octets before : List ℕ) {receiver later : Receiver} {number size : ℕ} {after : List ℕ} → AreOctets octets → ReceiverArises w receiver
      → Answered (open_call w receiver octets before) 0 (number ∷ size ∷ []) (record { receiver = later; output = after }) → ReceiverArises w later
  restored : (before : List ℕ) {receiver later : Receiver} {after : List ℕ} → ReceiverArises w receiver
      → Answered (store_receiver_call w receiver before) 0 [] after → Answered (restore_receiver_call w (take (form_size 2) after)) 0 [] later → ReceiverArises w later
