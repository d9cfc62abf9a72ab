-- The stored forms of a sender and of a receiver, what storing writes and what restoring makes of it. The width w of the window is a number; the
-- link's is `width`. Assumes nothing.
use Rattle.std.specs.Prelude.{ℕ, not, List, [], ◌∷◌, ◌++◌, ltb, length}
use Rattle.refusals.specs.Refusal.{Row}
use Rattle.refusals.specs.Call.{Call, puts, makes}
use Rattle.numbering.specs.Numbering.{numbering_of, marks_of}
use Rattle.link.specs.declared.Link.{Link}
use Rattle.link.specs.Link.{no_link}
use Rattle.sender.specs.declared.Sender.{Sender}
use Rattle.sender.specs.Sender.{sender_of, new_sender, sender_can_arise, reserve_order}
use Rattle.receiver.specs.declared.Receiver.{Receiver}
use Rattle.receiver.specs.Receiver.{receiver_of, new_receiver, receiver_can_arise}
use Rattle.stored.specs.Form.{form, form_size, link_in, word_in, form_order}

-- ---- the sender, whose one word is the reserved number

-- the stored form of a sender of this link with this reservation, version 1: 29 octets
unfoldable pub sender_form : Link → ℕ → List ℕ
sender_form link reserved = form 1 link (reserved ∷ [])

-- the sender that a form holds: it stands at its reservation
unfoldable pub sender_in : List ℕ → Sender
sender_in octets = sender_of (link_in octets) (word_in octets 0) (word_in octets 0)

-- the refusals of storing a sender with a new reservation, in their order: those of telling it that reservation, 12 and 2, and then the room
unfoldable pub store_sender_order : Sender → ℕ → List ℕ → List Row
store_sender_order sender reserved output =
    reserve_order sender reserved ++ (record { number = 4; holds = ltb (length output) (form_size 1) } ∷ [])

-- stored::store_sender
abbrev pub store_sender_call : Sender → ℕ → List ℕ → Call (List ℕ)
store_sender_call sender reserved output = puts (store_sender_order sender reserved output) (sender_form sender.link reserved) output

-- the refusals of making a sender from a form, in their order
unfoldable pub restore_sender_order : List ℕ → List Row
restore_sender_order octets = form_order 1 1 octets ++ (record { number = 12; holds = not (sender_can_arise (sender_in octets)) } ∷ [])

-- stored::restore_sender
abbrev pub restore_sender_call : List ℕ → Call Sender
restore_sender_call octets = makes (restore_sender_order octets) (new_sender no_link) (sender_in octets)

-- ---- the receiver, whose two words are V and the marks, that of V - 1 in the lowest bit

-- the stored form of a receiver, version 1: 33 octets
unfoldable pub receiver_form : Receiver → List ℕ
receiver_form receiver = form 1 receiver.link (receiver.numbering.next ∷ marks_of receiver.numbering ∷ [])

-- the receiver that a form holds
unfoldable pub receiver_in : List ℕ → Receiver
receiver_in octets = receiver_of (link_in octets) (numbering_of (word_in octets 0) (word_in octets 1))

-- the refusals of storing a receiver, in their order
unfoldable pub store_receiver_order : ℕ → Receiver → List ℕ → List Row
store_receiver_order w receiver output =
    record { number = 12; holds = not (receiver_can_arise w receiver) } ∷
    record { number = 4; holds = ltb (length output) (form_size 2) } ∷ []

-- stored::store_receiver
abbrev pub store_receiver_call : ℕ → Receiver → List ℕ → Call (List ℕ)
store_receiver_call w receiver output = puts (store_receiver_order w receiver output) (receiver_form receiver) output

-- the refusals of making a receiver from a form, in their order
unfoldable pub restore_receiver_order : ℕ → List ℕ → List Row
restore_receiver_order w octets = form_order 1 2 octets ++ (record { number = 12; holds = not (receiver_can_arise w (receiver_in octets)) } ∷ [])

-- stored::restore_receiver
abbrev pub restore_receiver_call : ℕ → List ℕ → Call Receiver
restore_receiver_call w octets = makes (restore_receiver_order w octets) (new_receiver no_link) (receiver_in octets)
