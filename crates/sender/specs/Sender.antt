-- The sender: opening it, telling it a reservation, and sealing a payload into the frame of its next number, which is below the reservation.
-- Assumes nothing.
use Rattle.std.specs.Prelude.{ℕ, ◌+◌, ◌<◌, ◌≡◌, Bool, false, not, ◌&&◌, List, [], ◌∷◌, eqb, leb, ltb, length}
use Rattle.refusals.specs.Refusal.{Row}
use Rattle.refusals.specs.Call.{Call, front, makes, changes, no_candidate}
use Rattle.numbering.specs.Numbering.{end}
use Rattle.link.specs.declared.Link.{Link}
use Rattle.link.specs.Link.{is_service, is_direction, link_can_arise, link_order, no_link, link_of, is_payload, frame_at}
use Rattle.sender.specs.declared.Sender.{Sender}

-- how far above its next number a sender's reservation may lie
abbrev pub ahead : ℕ
ahead = 64

-- the sender of a link with this next number and this reservation
abbrev pub sender_of : Link → ℕ → ℕ → Sender
sender_of link next reserved = record { link = link; next = next; reserved = reserved }

-- a new sender on a link: its next number is 0, and so is its reservation
unfoldable pub new_sender : Link → Sender
new_sender link = sender_of link 0 0

-- the sender after one frame: the next number is one more
unfoldable pub after_frame : Sender → Sender
after_frame sender = sender_of sender.link (sender.next + 1) sender.reserved

-- the sender that was told a reservation
unfoldable pub with_reservation : Sender → ℕ → Sender
with_reservation sender reserved = sender_of sender.link sender.next reserved

-- sender::open_sender
abbrev pub open_sender_call : List ℕ → ℕ → ℕ → ℕ → Call Sender
open_sender_call key iov sapi direction = makes (link_order key sapi direction) (new_sender no_link) (new_sender (link_of key iov sapi direction))

-- sender::can_arise: a sender that can arise: its link can; its reservation is at most 2^27; and its next number is not above the reservation and at
-- most 64 below it
unfoldable pub sender_can_arise : Sender → Bool
sender_can_arise sender =
    link_can_arise sender.link
    && (leb sender.reserved end
    && (leb sender.next sender.reserved
    && leb sender.reserved (sender.next + ahead)))

-- the table's causes of refusal 12 for a sender, one by one: `sender_can_arise` fails exactly where one of them holds
pub data SenderCannotArise (sender : Sender) : Type 0 where
  -- next above 2^27, or the reservation is
  next_past_end : end < sender.next → SenderCannotArise sender
  reserved_past_end : end < sender.reserved → SenderCannotArise sender
  -- next above the reservation, or more than 64 below it
  next_past_reserved : sender.reserved < sender.next → SenderCannotArise sender
  reserved_too_far : sender.next + ahead < sender.reserved → SenderCannotArise sender
  -- a service number that is not assigned, or a direction out of range
  no_service : is_service sender.link.sapi ≡ false → SenderCannotArise sender
  no_direction : is_direction sender.link.direction ≡ false → SenderCannotArise sender

-- ---- a reservation (document 02, item 4)

-- a reservation that a sender may be given: not lower than the present one, at most 64 above the next number, and at most 2^27
unfoldable pub is_reservation : Sender → ℕ → Bool
is_reservation sender reserved = leb sender.reserved reserved && (leb reserved (sender.next + ahead) && leb reserved end)

-- the refusals of telling a sender a reservation, in their order
unfoldable pub reserve_order : Sender → ℕ → List Row
reserve_order sender reserved =
    record { number = 12; holds = not (sender_can_arise sender) } ∷
    record { number = 2; holds = not (is_reservation sender reserved) } ∷ []

-- sender::reserve
abbrev pub reserve_call : Sender → ℕ → Call Sender
reserve_call sender reserved = changes (reserve_order sender reserved) sender (with_reservation sender reserved)

-- ---- sealing

-- the refusals of sealing, in their order
unfoldable pub seal_order : Sender → List ℕ → List ℕ → List Row
seal_order sender payload output =
    record { number = 12; holds = not (sender_can_arise sender) } ∷
    record { number = 3; holds = not (is_payload payload) } ∷
    record { number = 10; holds = eqb sender.next end } ∷
    record { number = 13; holds = leb sender.reserved sender.next } ∷
    record { number = 4; holds = ltb (length output) (length payload + 6) } ∷ []

-- what a seal call is lent: the sender and an output
pub record Sealing : Type 0 where
  pub sender : Sender
  pub output : List ℕ

-- sender::seal hands out the number and the frame's length, and puts the frame of that number to the front of the output
abbrev pub seal_call : Sender → List ℕ → List ℕ → Call Sealing
seal_call sender payload output = record {
  order = seal_order sender payload output;
  numbers = sender.next ∷ (length payload + 6) ∷ [];
  candidate_with = no_candidate;
  before = record { sender = sender; output = output };
  after = record { sender = after_frame sender; output = front (frame_at sender.link sender.next payload) output };
}
