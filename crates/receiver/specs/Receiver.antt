-- The receiver: opening it, and opening a frame. The width w of the window is a number; the link's is `width`. Assumes nothing.
use Rattle.std.specs.Prelude.{ℕ, ◌≡◌, Bool, false, not, ◌&&◌, ◌||◌, List, [], ◌∷◌, ◌++◌, eqb, ltb, length}
use Rattle.refusals.specs.Refusal.{Row}
use Rattle.refusals.specs.Call.{Call, front, makes}
use Rattle.frames.specs.Frame.{header_of, payload_of, look_order}
use Rattle.numbering.specs.declared.Numbering.{Numbering}
use Rattle.numbering.specs.Numbering.{start, can_arise, CannotArise, candidate, candidate_order, accepted}
use Rattle.link.specs.declared.Link.{Link}
use Rattle.link.specs.Link.{is_service, is_direction, link_can_arise, link_order, no_link, link_of, ciphered}
use Rattle.receiver.specs.declared.Receiver.{Receiver}

-- the receiver of a link with this numbering
abbrev pub receiver_of : Link → Numbering → Receiver
receiver_of link numbering = record { link = link; numbering = numbering }

-- a new receiver on a link: it has accepted nothing
unfoldable pub new_receiver : Link → Receiver
new_receiver link = receiver_of link start

-- the receiver after accepting number n
unfoldable pub after_accepting : ℕ → Receiver → ℕ → Receiver
after_accepting w receiver n = receiver_of receiver.link (accepted w receiver.numbering n)

-- receiver::open_receiver
abbrev pub open_receiver_call : List ℕ → ℕ → ℕ → ℕ → Call Receiver
open_receiver_call key iov sapi direction = makes (link_order key sapi direction) (new_receiver no_link) (new_receiver (link_of key iov sapi direction))

-- receiver::can_arise: a receiver that can arise: its link can, and its numbering can
unfoldable pub receiver_can_arise : ℕ → Receiver → Bool
receiver_can_arise w receiver = link_can_arise receiver.link && can_arise w receiver.numbering

-- the table's causes of refusal 12 for a receiver, one by one: `receiver_can_arise` fails exactly where one of them holds
pub data ReceiverCannotArise (w : ℕ) (receiver : Receiver) : Type 0 where
  -- a service number that is not assigned, or a direction out of range
  no_service : is_service receiver.link.sapi ≡ false → ReceiverCannotArise w receiver
  no_direction : is_direction receiver.link.direction ≡ false → ReceiverCannotArise w receiver
  -- next above 2^27, or a mark that cannot be or is missing
  no_numbering : CannotArise w receiver.numbering → ReceiverCannotArise w receiver

-- a frame of this link, by its header
unfoldable pub is_of_link : Link → List ℕ → Bool
is_of_link link octets = eqb (header_of octets).sapi link.sapi && eqb (header_of octets).direction link.direction

-- the full number that a receiver works out for a frame
unfoldable pub candidate_of : ℕ → Receiver → List ℕ → ℕ
candidate_of w receiver octets = candidate w receiver.numbering.next (header_of octets).sent

-- the refusals of opening a frame, in their order: 12, 5, 6, 7, 8, 9, 10, 11, 4
unfoldable pub open_order : ℕ → Receiver → List ℕ → List ℕ → List Row
open_order w receiver octets output =
    record { number = 12; holds = not (receiver_can_arise w receiver) } ∷
    (look_order octets
    ++ (record { number = 8; holds = not (is_of_link receiver.link octets) } ∷
    (candidate_order w receiver.numbering (header_of octets).sent
    ++ (record { number = 4; holds = ltb (length output) (length (payload_of octets)) } ∷ []))))

-- what an open call is lent: the receiver and an output
pub record Opening : Type 0 where
  pub receiver : Receiver
  pub output : List ℕ

-- receiver::open hands out the number, which is given with 11 and 4 too, and the payload's length, and puts the deciphered payload to the front of
-- the output
abbrev pub open_call : ℕ → Receiver → List ℕ → List ℕ → Call Opening
open_call w receiver octets output = record {
  order = open_order w receiver octets output;
  numbers = candidate_of w receiver octets ∷ length (payload_of octets) ∷ [];
  candidate_with = λ (refusal : ℕ). eqb refusal 11 || eqb refusal 4;
  before = record { receiver = receiver; output = output };
  after = record {
    receiver = after_accepting w receiver (candidate_of w receiver octets);
    output = front (ciphered receiver.link (candidate_of w receiver octets) (payload_of octets)) output;
  };
}
