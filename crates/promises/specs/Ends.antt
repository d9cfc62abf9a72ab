-- The ends that promise 3 speaks of: a sender's calls, one after the other, and a receiver's, each given the state that the last one returned, or one that
-- was restored. A call is whatever its contract allows. What promise 3 needs of a frame format and of the two ends is said as records; the bench frame and
-- its ends are their first use. Assumes nothing.
use Rattle.std.specs.Prelude.{ℕ, ◌^◌, ◌≤◌, ◌<◌, ◌≡◌, cond, List, [], ◌∷◌, eqb, length, take}
use Rattle.refusals.specs.Call.{Answered}
use Rattle.octets.specs.Octets.{AreOctets}
use Rattle.keystreams.specs.Key.{prepared}
use Rattle.numbering.specs.Numbering.{end, InWindow}
use Rattle.link.specs.declared.Link.{Link}
use Rattle.link.specs.Link.{frame_at}
use Rattle.sender.specs.declared.Sender.{Sender}
use Rattle.sender.specs.Sender.{open_sender_call, reserve_call, seal_call}
use Rattle.receiver.specs.declared.Receiver.{Receiver}
use Rattle.receiver.specs.Receiver.{open_receiver_call, open_call}
use Rattle.stored.specs.Form.{form_size}
use Rattle.stored.specs.Ends.{store_receiver_call, restore_receiver_call}

-- one seal call: the payload, the output before, and what came back
pub record SealCall : Type 0 where
  pub payload : List ℕ
  pub before : List ℕ
  pub refusal : ℕ
  pub number : ℕ
  pub size : ℕ
  pub after : List ℕ

-- one open call: the octets that were presented, the output before, and what came back
pub record OpenCall : Type 0 where
  pub presented : List ℕ
  pub before : List ℕ
  pub refusal : ℕ
  pub number : ℕ
  pub size : ℕ
  pub after : List ℕ

-- a sending end: its states; the link of a state; what a seal call may do; and the other steps that it may take between its calls
pub record Sending : Type 1 where
  pub State : Type 0
  pub link : State → Link
  pub Seals : State → SealCall → State → Type 0
  pub Steps : State → State → Type 0

-- a receiving end: its states; the link of a state, and its next number V; what an open call may do; and what may come back where a state is stored and
-- then restored
pub record Receiving : Type 1 where
  pub State : Type 0
  pub link : State → Link
  pub next : State → ℕ
  pub Opens : State → OpenCall → State → Type 0
  pub Restores : State → State → Type 0

-- a frame format, two ends that use it, where a sender may begin, a new receiver, and two ends that were opened alike
pub record Ends : Type 1 where
  pub frame_of : Link → ℕ → List ℕ → List ℕ
  pub sending : Sending
  pub receiving : Receiving
  pub Begins : sending.State → Type 0
  pub IsNew : receiving.State → Type 0
  pub OpenedAlike : sending.State → receiving.State → Type 0

-- ---- what is sent

-- a frame of a sender: the number that sealing handed out, the payload that was sealed, and the octets that go on the air
pub record SentFrame : Type 0 where
  pub number : ℕ
  pub payload : List ℕ
  pub octets : List ℕ

-- the frame of a seal call: as many octets of the output as the call says
unfoldable pub frame_sealed : SealCall → SentFrame
frame_sealed call = record { number = call.number; payload = call.payload; octets = take call.size call.after }

-- one more frame, where sealing was not refused
unfoldable pub with_sealed : SealCall → List SentFrame → List SentFrame
with_sealed call rest = cond (eqb call.refusal 0) (frame_sealed call ∷ rest) rest

-- a sender's calls from a state on, any payloads, any outputs, refused ones too, and its other steps: the frames that they sealed in their order, and
-- the state at the end
pub data Sends (sending : Sending) : sending.State → List SentFrame → sending.State → Type 0 where
  no_more : {state : sending.State} → Sends sending state [] state
  seal : {state later last : sending.State} {rest : List SentFrame} (call : SealCall)
      → sending.Seals state call later
      → Sends sending later rest last
      → Sends sending state (with_sealed call rest) last
  step : {state later last : sending.State} {frames : List SentFrame}
      → sending.Steps state later
      → Sends sending later frames last
      → Sends sending state frames last

-- a frame is one of these
pub data IsOneOf {A : Type 0} (frame : A) : List A → Type 0 where
  here : {rest : List A} → IsOneOf frame (frame ∷ rest)
  there : {other : A} {rest : List A} → IsOneOf frame rest → IsOneOf frame (other ∷ rest)

-- where the two halves of promise 3 meet: this is the frame of its number with its payload on this link, a number below 2^27 and 1 to 1,520 octets
pub record IsFrame (frame_of : Link → ℕ → List ℕ → List ℕ) (link : Link) (frame : SentFrame) : Type 0 where
  pub before_end : frame.number < end
  pub some : 1 ≤ length frame.payload
  pub most : length frame.payload ≤ 1520
  pub octets_are : frame.octets ≡ frame_of link frame.number frame.payload

-- ---- what arrives

-- a receiver's calls from a state on, and the state at the end. An event is the arrival of one of the sender's frames, with an output that has room
-- for its payload, or the presentation of any octets, with any output, that is refused. A frame presented without room is an event of the second kind.
-- Which frames arrive, how often and in which order is free: a frame that never arrives is lost. The two ends share no state, so that nothing is lost
-- by telling all that is sent first
pub data Events (receiving : Receiving) (frames : List SentFrame) : receiving.State → receiving.State → Type 0 where
  no_more : {state : receiving.State} → Events receiving frames state state
  arrival : {state later last : receiving.State} (frame : SentFrame) (call : OpenCall)
      → IsOneOf frame frames
      → call.presented ≡ frame.octets
      → length frame.payload ≤ length call.before
      → receiving.Opens state call later
      → Events receiving frames later last
      → Events receiving frames state last
  refused : {state later last : receiving.State} (call : OpenCall)
      → (call.refusal ≡ 0 → ⊥)
      → receiving.Opens state call later
      → Events receiving frames later last
      → Events receiving frames state last

-- the numbers that arrived, in their order
abbrev pub arrivals : {receiving : Receiving} {frames : List SentFrame} {state last : receiving.State} → Events receiving frames state last → List ℕ
arrivals no_more = []
arrivals (arrival frame call one presented room opens rest) = frame.number ∷ arrivals rest
arrivals (refused call not_done opens rest) = arrivals rest

-- the numbers that have arrived then, the last one first, after those earlier
abbrev pub arrived_after : {receiving : Receiving} {frames : List SentFrame} {state last : receiving.State} → List ℕ → Events receiving frames state last → List ℕ
arrived_after earlier no_more = earlier
arrived_after earlier (arrival frame call one presented room opens rest) = arrived_after (frame.number ∷ earlier) rest
arrived_after earlier (refused call not_done opens rest) = arrived_after earlier rest

-- at each arrival the frame's number is in the window of the next number V of that moment: at most w below it and at most 511 - w above it
abbrev pub AllInWindow : (w : ℕ) {receiving : Receiving} {frames : List SentFrame} {state last : receiving.State} → Events receiving frames state last → Type 0
AllInWindow w no_more = Unit {0}
AllInWindow w {receiving} (arrival {state = state} frame call one presented room opens rest) = InWindow w (receiving.next state) frame.number × AllInWindow w rest
AllInWindow w (refused call not_done opens rest) = AllInWindow w rest

-- one more number, where an open call was not refused
abbrev pub with_accepted : OpenCall → List ℕ → List ℕ
with_accepted call earlier = cond (eqb call.refusal 0) (call.number ∷ earlier) earlier

-- what became of a new receiver, and the numbers that it accepted and that count as arrived there, the last one first. It was presented any octets, the
-- sender's or not, and opened them or refused them; and it was stored, and restored from that. What it accepted before that store counts; what it accepted
-- since then, when it is restored, does not
pub data Since (receiving : Receiving) (first : receiving.State) : receiving.State → List ℕ → Type 0 where
  nothing : Since receiving first first []
  called : {state later : receiving.State} {earlier : List ℕ} (call : OpenCall)
      → Since receiving first state earlier
      → AreOctets call.presented
      → receiving.Opens state call later
      → Since receiving first later (with_accepted call earlier)
  restored : {state later : receiving.State} {earlier : List ℕ}
      → Since receiving first state earlier
      → receiving.Restores state later
      → Since receiving first later earlier

-- ---- the bench frame, its sender and its receiver, whose window has the width w

-- a sender and a receiver newly opened with these keys, and with the same offset, service number and direction. Each is handed a key of its own, of 8
-- octets or of 16; it is the same key where both yield the same 16 octets
pub record OpenedWith (sender_key receiver_key : List ℕ) (iov sapi direction : ℕ) (sender : Sender) (receiver : Receiver) : Type 0 where
  pub same_key : prepared sender_key ≡ prepared receiver_key
  pub sender_opened : Answered (open_sender_call sender_key iov sapi direction) 0 [] sender
  pub receiver_opened : Answered (open_receiver_call receiver_key iov sapi direction) 0 [] receiver

-- a sender and a receiver newly opened with the same prepared key, offset, service number and direction, whichever these are
pub record NewlyOpenedEnds (sender : Sender) (receiver : Receiver) : Type 0 where
  pub sender_key : List ℕ
  pub receiver_key : List ℕ
  pub iov : ℕ
  pub sapi : ℕ
  pub direction : ℕ
  pub opened : OpenedWith sender_key receiver_key iov sapi direction sender receiver

-- a newly opened receiver, with whatever key, offset, service number and direction
pub record NewlyOpenedReceiver (receiver : Receiver) : Type 0 where
  pub key : List ℕ
  pub iov : ℕ
  pub sapi : ℕ
  pub direction : ℕ
  pub receiver_opened : Answered (open_receiver_call key iov sapi direction) 0 [] receiver

-- a sender is told a reservation, any one, and refuses it or not
pub record Told (sender later : Sender) : Type 0 where
  pub reserved : ℕ
  pub refusal : ℕ
  pub answered : Answered (reserve_call sender reserved) refusal [] later

-- a receiver is stored, and another made from what was stored, as the calls say. A form has 32 marks, so that the window may be no wider; and the offset has
-- 32 bits, as its type has
pub record StoredAndRestored (w : ℕ) (receiver later : Receiver) : Type 0 where
  pub marks_fit : w ≤ 32
  pub iov_fits : receiver.link.iov < 2 ^ 32
  pub before : List ℕ
  pub after : List ℕ
  pub refusal : ℕ
  pub stored : Answered (store_receiver_call w receiver before) 0 [] after
  pub restored : Answered (restore_receiver_call w (take (form_size 2) after)) refusal [] later

-- the sender of the bench: it seals as `seal_call` says, and between its calls it is told reservations
abbrev pub bench_sending : Sending
bench_sending = record {
  State = Sender;
  link = λ sender. sender.link;
  Seals = λ sender call later.
      Answered (seal_call sender call.payload call.before) call.refusal (call.number ∷ call.size ∷ []) (record { sender = later; output = call.after });
  Steps = Told;
}

-- the receiver of the bench: it opens as `open_call` says, and may be stored and restored
abbrev pub bench_receiving : ℕ → Receiving
bench_receiving w = record {
  State = Receiver;
  link = λ receiver. receiver.link;
  next = λ receiver. receiver.numbering.next;
  Opens = λ receiver call later.
      Answered (open_call w receiver call.presented call.before) call.refusal (call.number ∷ call.size ∷ []) (record { receiver = later; output = call.after });
  Restores = StoredAndRestored w;
}

-- the ends of the bench, which use the bench frame; of a sender it does not matter where it begins
abbrev pub bench_ends : ℕ → Ends
bench_ends w = record {
  frame_of = frame_at;
  sending = bench_sending;
  receiving = bench_receiving w;
  Begins = λ sender. Unit {0};
  IsNew = NewlyOpenedReceiver;
  OpenedAlike = NewlyOpenedEnds;
}
