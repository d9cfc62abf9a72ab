-- Promise 3 in full, for a window of any width w, a frame format and its two ends; the link's are `width` and the bench's. Assumes nothing.
use Rattle.std.specs.Prelude.{ℕ, ◌<◌, ◌≡◌, true, false, List, [], ◌∷◌, length}
use Rattle.refusals.specs.Call.{front}
use Rattle.numbering.specs.Numbering.{width}
use Rattle.numbering.specs.History.{is_among, above_all}
use Rattle.link.specs.declared.Link.{Link}
use Rattle.promises.specs.Ends.{OpenCall, Receiving, Ends, SentFrame, Sends, IsOneOf, IsFrame, Events, no_more, arrival, refused, arrived_after, AllInWindow, Since, bench_ends}

-- the receiver hands out a frame: no refusal, its true number, and the sender's payload, which then stands at the front of the output; the octets
-- past it are kept
pub record HandedOut (frame : SentFrame) (call : OpenCall) : Type 0 where
  pub refusal_is : call.refusal ≡ 0
  pub number_is : call.number ≡ frame.number
  pub size_is : call.size ≡ length frame.payload
  pub output_is : call.after ≡ front frame.payload call.before

-- the receiver refuses a frame as a repeat of its true number, and changes no octet of the output
pub record RefusedAsRepeat (frame : SentFrame) (call : OpenCall) : Type 0 where
  pub refusal_is : call.refusal ≡ 11
  pub number_is : call.number ≡ frame.number
  pub size_is : call.size ≡ 0
  pub output_is : call.after ≡ call.before

-- the answer to an arrival, after those earlier: at the first arrival of a number its frame is handed out; at each later one it is refused, and the
-- receiver stays as it was; and the next number is one above the highest that arrived so far
pub record AnsweredAs (receiving : Receiving) (earlier : List ℕ) (frame : SentFrame) (call : OpenCall) (state later : receiving.State) : Type 0 where
  pub first_time : is_among frame.number earlier ≡ false → HandedOut frame call
  pub again : is_among frame.number earlier ≡ true → RefusedAsRepeat frame call × (later ≡ state)
  pub next_is : receiving.next later ≡ above_all (frame.number ∷ earlier)

-- every event gets such an answer; one that is not an arrival leaves the receiver and the output as they were
abbrev pub AsPromised : {receiving : Receiving} {frames : List SentFrame} {state last : receiving.State} → List ℕ → Events receiving frames state last → Type 0
AsPromised earlier no_more = Unit {0}
AsPromised {receiving} earlier (arrival {state = state} {later = later} frame call one presented room opens rest) =
    AnsweredAs receiving earlier frame call state later × AsPromised (frame.number ∷ earlier) rest
AsPromised earlier (refused {state = state} {later = later} call not_done opens rest) =
    (later ≡ state) × (call.after ≡ call.before) × AsPromised earlier rest

-- what the events keep, after those that arrived earlier: every answer, and at the end the next number, which is one above the highest that arrived, or 0
pub record KeptBy (earlier : List ℕ) {receiving : Receiving} {frames : List SentFrame} {state last : receiving.State} (events : Events receiving frames state last) : Type 0 where
  pub answered : AsPromised earlier events
  pub next_is : receiving.next last ≡ above_all (arrived_after earlier events)

-- the frames have numbers above n
abbrev pub AllAbove : ℕ → List SentFrame → Type 0
AllAbove n [] = Unit {0}
AllAbove n (frame ∷ rest) = (n < frame.number) × AllAbove n rest

-- the numbers of a sender's frames only rise
abbrev pub Rising : List SentFrame → Type 0
Rising [] = Unit {0}
Rising (frame ∷ rest) = AllAbove frame.number rest × Rising rest

-- the sender's half: each frame is the frame of its number with its payload on this link, and the numbers only rise
pub record SendersHalf (frame_of : Link → ℕ → List ℕ → List ℕ) (link : Link) (frames : List SentFrame) : Type 0 where
  pub each_is : (frame : SentFrame) → IsOneOf frame frames → IsFrame frame_of link frame
  pub rising : Rising frames

-- promise 3, of a window of width w and two ends: whatever the sender seals and whatever of it arrives, within the window, every event gets the answer
-- that was promised. It begins with a new receiver, to which nothing has arrived (`nothing`), and it begins anew with each that is restored, and wherever
-- one likes: the numbers that were accepted, of a restored one before its store, count as arrived
pub record Promise3 (w : ℕ) (ends : Ends) : Type 0 where
  -- two ends opened alike, and what became of the receiver until now; any calls of the sender; any events within the window
  pub kept : {sender sender_last : ends.sending.State} {receiver state receiver_last : ends.receiving.State} {earlier : List ℕ} {frames : List SentFrame}
      → ends.OpenedAlike sender receiver
      → Since ends.receiving receiver state earlier
      → Sends ends.sending sender frames sender_last
      → (events : Events ends.receiving frames state receiver_last)
      → AllInWindow w events
      → KeptBy earlier events
  -- two frames of a sender with one number are one frame, so that an arrival is told by its number
  pub told_by_number : {sender sender_last : ends.sending.State} {frames : List SentFrame} → ends.Begins sender → Sends ends.sending sender frames sender_last
      → {one other : SentFrame} → IsOneOf one frames → IsOneOf other frames → one.number ≡ other.number → one ≡ other
  -- the halves of which it is made: what a sender seals,
  pub senders_half : {sender sender_last : ends.sending.State} {frames : List SentFrame} → ends.Begins sender → Sends ends.sending sender frames sender_last
      → SendersHalf ends.frame_of (ends.sending.link sender) frames
  -- and what a receiver does with frames of its link, whatever sender made them, lost and skipped numbers included
  pub receivers_half : {receiver state receiver_last : ends.receiving.State} {earlier : List ℕ} {frames : List SentFrame}
      → ends.IsNew receiver
      → Since ends.receiving receiver state earlier
      → ((frame : SentFrame) → IsOneOf frame frames → IsFrame ends.frame_of (ends.receiving.link receiver) frame)
      → (events : Events ends.receiving frames state receiver_last)
      → AllInWindow w events
      → KeptBy earlier events

-- promise 3 of the bench: the window is 32 behind and 479 ahead
abbrev pub BenchPromise3 : Type 0
BenchPromise3 = Promise3 width (bench_ends width)
