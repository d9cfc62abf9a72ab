-- The second sentence of promise 2 in the paper's own words: sealing and opening do what the frame layout and the numbering rule say. The candidate
-- here is the paper's: the one number with N on the air in the window (document 01, "The link"). Assumes nothing.
use Rattle.std.specs.Prelude.{ℕ, ◌+◌, ◌≤◌, ◌<◌, ◌≡◌, ◌↔◌, ◌⊎◌, true, false, ◌&&◌, ◌||◌, List, [], ◌∷◌, eqb, leb, length, take, drop}
use Rattle.refusals.specs.Refusal.{first}
use Rattle.refusals.specs.Call.{Answered}
use Rattle.numbering.specs.Numbering.{end, is_accepted, Candidate, ByThePaper}
use Rattle.octets.specs.Xor.{xored}
use Rattle.keystreams.specs.Key.{prepared}
use Rattle.keystreams.specs.Gea4.{gea4_output}
use Rattle.frames.specs.Frame.{AreOctets, header_of, payload_of, look_order, looked}
use Rattle.link.specs.declared.Link.{Link}
use Rattle.link.specs.Input.{input_of}
use Rattle.link.specs.Link.{ciphered, frame_at}
use Rattle.sender.specs.declared.Sender.{Sender}
use Rattle.sender.specs.Sender.{Sealing, SenderCannotArise, open_sender_call, reserve_call, seal_call}
use Rattle.receiver.specs.declared.Receiver.{Receiver}
use Rattle.receiver.specs.Receiver.{Opening, ReceiverCannotArise, receiver_can_arise, is_of_link, open_receiver_call, open_call}
use Rattle.stored.specs.Form.{form_order}
use Rattle.stored.specs.Ends.{sender_in, receiver_in, store_sender_call, restore_sender_call, store_receiver_call, restore_receiver_call}
use Rattle.stored.specs.Arising.{SenderArises, ReceiverArises}

-- the link of an end that was opened: it holds the prepared key, and the rest as it was given. So what it ciphers under number n, it ciphers with the
-- GEA4 octets of the key that it was opened with; these are GEA3's where the key has 8 octets
pub record HoldsLink (key : List ℕ) (iov sapi direction : ℕ) (link : Link) : Type 0 where
  pub key_is : link.key ≡ prepared key
  pub iov_is : link.iov ≡ iov
  pub sapi_is : link.sapi ≡ sapi
  pub direction_is : link.direction ≡ direction
  pub ciphers : (n : ℕ) (payload : List ℕ) → ciphered link n payload ≡ xored payload (gea4_output key (input_of iov sapi n) direction (length payload))

-- a payload that was sealed: under the next number, which is below the reservation and below 2^27, so that 2^27 - 1 is the last; the whole frame of that
-- number stands at the front of the output, p + 6 octets; the octets past it are kept; and the next number is one more
pub record SealedByTheRule (sender : Sender) (payload before : List ℕ) (number size : ℕ) (later : Sender) (after : List ℕ) : Type 0 where
  pub number_is : number ≡ sender.next
  pub before_end : number < end
  pub reserved_above : number < sender.reserved
  pub size_is : size ≡ length payload + 6
  pub frame_is : take size after ≡ frame_at sender.link number payload
  pub past : drop size after ≡ drop size before
  pub next_is : later.next ≡ number + 1
  pub reserved_is : later.reserved ≡ sender.reserved
  pub link_is : later.link ≡ sender.link

-- a frame that was opened: its number is the candidate, below 2^27, and was not accepted before; the frame is the frame of that number with the
-- payload that then stands at the front of the output; the octets past it are kept; a new number moves V past it, and a late one leaves V; and what
-- is accepted afterwards is what was accepted before and this number, cut to the window
pub record OpenedByTheRule (w : ℕ) (receiver : Receiver) (octets before : List ℕ) (number size : ℕ) (later : Receiver) (after : List ℕ) : Type 0 where
  pub is_candidate : Candidate w receiver.numbering.next (header_of octets).sent number
  pub before_end : number < end
  pub not_repeat : is_accepted receiver.numbering number ≡ false
  pub size_is : size + 6 ≡ length octets
  pub frame_is : octets ≡ frame_at receiver.link number (take size after)
  pub past : drop size after ≡ drop size before
  pub new : receiver.numbering.next ≤ number → later.numbering.next ≡ number + 1
  pub late : number < receiver.numbering.next → later.numbering.next ≡ receiver.numbering.next
  pub marks : (m : ℕ) → is_accepted later.numbering m ≡ ((eqb m number || is_accepted receiver.numbering m) && leb later.numbering.next (m + w))
  pub link_is : later.link ≡ receiver.link

-- a frame comes to be numbered: 12, 5, 6, 7 and 8 do not apply
pub record IsNumbered (w : ℕ) (receiver : Receiver) (octets : List ℕ) : Type 0 where
  pub can_arise_lem : receiver_can_arise w receiver ≡ true
  pub passes_look : first (look_order octets) ≡ 0
  pub of_link : is_of_link receiver.link octets ≡ true

-- a frame comes to be numbered, and n is its candidate, below 2^27
pub record IsNumberedAs (w : ℕ) (receiver : Receiver) (octets : List ℕ) (n : ℕ) : Type 0 where
  pub numbered : IsNumbered w receiver octets
  pub is_candidate : Candidate w receiver.numbering.next (header_of octets).sent n
  pub before_end : n < end

-- refusal 12 of either end: sealing and opening, telling a reservation and storing answer it exactly where one of the table's causes holds, and restoring
-- exactly where 5 and 6 do not apply and one holds of the end that the form says; and of the ends that hold the 16 octets of a key these are exactly the ones
-- that never arise, by whatever calls: of receivers at a width up to 256, and the link's is 32
pub record StateRefusal (w : ℕ) : Type 0 where
  pub sealing : (sender : Sender) (payload before : List ℕ) {refusal number size : ℕ} {lent : Sealing}
      → Answered (seal_call sender payload before) refusal (number ∷ size ∷ []) lent → (refusal ≡ 12) ↔ SenderCannotArise sender
  pub opening : (receiver : Receiver) (octets before : List ℕ) {refusal number size : ℕ} {lent : Opening}
      → Answered (open_call w receiver octets before) refusal (number ∷ size ∷ []) lent → (refusal ≡ 12) ↔ ReceiverCannotArise w receiver
  pub telling : (sender : Sender) (reserved : ℕ) {refusal : ℕ} {later : Sender} → Answered (reserve_call sender reserved) refusal [] later
      → (refusal ≡ 12) ↔ SenderCannotArise sender
  pub storing_sender : (sender : Sender) (reserved : ℕ) (before : List ℕ) {refusal : ℕ} {after : List ℕ} → Answered (store_sender_call sender reserved before) refusal [] after
      → (refusal ≡ 12) ↔ SenderCannotArise sender
  pub storing_receiver : (receiver : Receiver) (before : List ℕ) {refusal : ℕ} {after : List ℕ} → Answered (store_receiver_call w receiver before) refusal [] after
      → (refusal ≡ 12) ↔ ReceiverCannotArise w receiver
  pub restoring_sender : (octets : List ℕ) {refusal : ℕ} {sender : Sender} → Answered (restore_sender_call octets) refusal [] sender
      → (refusal ≡ 12) ↔ ((first (form_order 1 1 octets) ≡ 0) × SenderCannotArise (sender_in octets))
  pub restoring_receiver : (octets : List ℕ) {refusal : ℕ} {receiver : Receiver} → Answered (restore_receiver_call w octets) refusal [] receiver
      → (refusal ≡ 12) ↔ ((first (form_order 1 2 octets) ≡ 0) × ReceiverCannotArise w (receiver_in octets))
  pub senders : (sender : Sender) → length sender.link.key ≡ 16 → SenderCannotArise sender ↔ (SenderArises sender → ⊥)
  pub receivers : w ≤ 256 → (receiver : Receiver) → length receiver.link.key ≡ 16 → ReceiverCannotArise w receiver ↔ (ReceiverArises w receiver → ⊥)

-- which of 9, 10, 11 and 4 an open call answers, exactly when
pub record OpenRefusals (w : ℕ) (receiver : Receiver) (octets before : List ℕ) (refusal number : ℕ) : Type 0 where
  -- 9 START: no number is the candidate, since it would be below 0
  pub start_when : (refusal ≡ 9) ↔ (IsNumbered w receiver octets × ((n : ℕ) → Candidate w receiver.numbering.next (header_of octets).sent n → ⊥))
  -- 10 END: the candidate is 2^27 or more
  pub end_when : (refusal ≡ 10) ↔ (IsNumbered w receiver octets × ((n : ℕ) × Candidate w receiver.numbering.next (header_of octets).sent n × (end ≤ n)))
  -- 11 REPEAT: the candidate was accepted already
  pub repeat_when : (refusal ≡ 11) ↔ ((n : ℕ) × IsNumberedAs w receiver octets n × (is_accepted receiver.numbering n ≡ true))
  -- 4 ROOM: it was not, and the output is shorter than the payload
  pub room_when : (refusal ≡ 4) ↔ ((n : ℕ) × IsNumberedAs w receiver octets n × (is_accepted receiver.numbering n ≡ false) × (length before < length (payload_of octets)))
  -- the number that is given with 11 and 4 is the candidate
  pub given : (refusal ≡ 11) ⊎ (refusal ≡ 4) → Candidate w receiver.numbering.next (header_of octets).sent number

-- sealing and opening by the paper's rules, for a window of width w
pub record ByTheRule (w : ℕ) : Type 0 where
  -- the link whose frames are sealed and opened below is the one that the end was opened with
  pub sender_opened : (key : List ℕ) (iov sapi direction : ℕ) {sender : Sender} → Answered (open_sender_call key iov sapi direction) 0 [] sender
      → HoldsLink key iov sapi direction sender.link
  pub receiver_opened : (key : List ℕ) (iov sapi direction : ℕ) {receiver : Receiver} → Answered (open_receiver_call key iov sapi direction) 0 [] receiver
      → HoldsLink key iov sapi direction receiver.link
  pub sealed : (sender : Sender) (payload before : List ℕ) {number size : ℕ} {later : Sender} {after : List ℕ}
      → Answered (seal_call sender payload before) 0 (number ∷ size ∷ []) (record { sender = later; output = after })
      → SealedByTheRule sender payload before number size later after
  pub opened : (receiver : Receiver) (octets before : List ℕ) {number size : ℕ} {later : Receiver} {after : List ℕ}
      → AreOctets octets → Answered (open_call w receiver octets before) 0 (number ∷ size ∷ []) (record { receiver = later; output = after })
      → OpenedByTheRule w receiver octets before number size later after
  pub refused : (receiver : Receiver) (octets before : List ℕ) {refusal number size : ℕ} {lent : Opening}
      → AreOctets octets → Answered (open_call w receiver octets before) refusal (number ∷ size ∷ []) lent
      → OpenRefusals w receiver octets before refusal number
  -- 12 is for the states that cannot arise
  pub state : StateRefusal w
  -- the candidate that is computed is the paper's: the one number with N on the air in the window
  pub candidate : ByThePaper w
  -- a look's stretch is empty exactly when 5, 6 or 7 applies
  pub look : (octets : List ℕ) → (length (looked octets) ≡ 0) ↔ (first (look_order octets) ≡ 0 → ⊥)
