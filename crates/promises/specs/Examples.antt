-- That promise 3 is not empty, and that its bound is the true one: what a run that meets its hypotheses is, and what a misread frame is.
-- Assumes nothing.
use Rattle.std.specs.Prelude.{ℕ, ◌≤◌, ◌≡◌, true, List, [], ◌∷◌, length}
use Rattle.keystreams.specs.Key.{is_key, prepared}
use Rattle.numbering.specs.Numbering.{width, InWindow}
use Rattle.link.specs.Link.{is_service, is_direction, frame_at}
use Rattle.sender.specs.declared.Sender.{Sender}
use Rattle.receiver.specs.declared.Receiver.{Receiver}
use Rattle.promises.specs.Ends.{OpenCall, SentFrame, Sends, IsOneOf, Events, arrivals, AllInWindow, OpenedWith, bench_sending, bench_receiving}

-- a run of two ends of the bench, newly opened on one link with these two keys, that meets the hypotheses of promise 3, in which these numbers arrive, in
-- this order
pub record RunOf (w : ℕ) (sender_key receiver_key : List ℕ) (iov sapi direction : ℕ) (numbers : List ℕ) : Type 0 where
  pub sender : Sender
  pub sender_last : Sender
  pub receiver : Receiver
  pub receiver_last : Receiver
  pub frames : List SentFrame
  pub opened : OpenedWith sender_key receiver_key iov sapi direction sender receiver
  pub sent : Sends bench_sending sender frames sender_last
  pub events : Events (bench_receiving w) frames receiver receiver_last
  pub in_window : AllInWindow w events
  pub arrived : arrivals events ≡ numbers

-- after a run the next number is v; one of the sender's frames, of number n, then arrives, and is handed out under another number
pub record Misread {w : ℕ} {sender_key receiver_key : List ℕ} {iov sapi direction : ℕ} {numbers : List ℕ} (run : RunOf w sender_key receiver_key iov sapi direction numbers) (v n number : ℕ) : Type 0 where
  pub frame : SentFrame
  pub call : OpenCall
  pub later : Receiver
  pub next_is : run.receiver_last.numbering.next ≡ v
  pub number_is : frame.number ≡ n
  pub one : IsOneOf frame run.frames
  pub presented : call.presented ≡ frame.octets
  pub room : length frame.payload ≤ length call.before
  pub opens : (bench_receiving w).Opens run.receiver_last call later
  pub handed_out : call.refusal ≡ 0
  pub under : call.number ≡ number
  pub not_its_own : number ≡ frame.number → ⊥

-- what is shown of a link, at its width of 32, with these two keys
pub record Shown (sender_key receiver_key : List ℕ) (iov sapi direction : ℕ) : Type 0 where
  -- a run over a rollover. 0 arrives; 480 is 479 above the next number 1; 478 comes late, and again; 481 to 959 are lost, a stretch of 479 over the
  -- rollover at 512, and 960 is 479 above the next number 481; 929 is 32 below the next number 961. Seals and presentations are refused in between
  pub over_a_rollover : RunOf width sender_key receiver_key iov sapi direction (0 ∷ 480 ∷ 478 ∷ 478 ∷ 960 ∷ 929 ∷ [])
  -- one past the upper edge: after 0 and 480 the next number is 481, and 961, which is 480 above it, is read as 449, one turn behind
  pub up_to_481 : RunOf width sender_key receiver_key iov sapi direction (0 ∷ 480 ∷ [])
  pub above : Misread up_to_481 481 961 449
  -- one past the lower edge: after 0 and 33 the next number is 34, and 1, which is 33 below it, is read as 513, one turn ahead
  pub up_to_34 : RunOf width sender_key receiver_key iov sapi direction (0 ∷ 33 ∷ [])
  pub below : Misread up_to_34 34 1 513

-- a frame outside the window is never handed out under its own number: whatever the receiver's link and its next number, whichever number the frame has,
-- and whatever its payload, it is refused or misread
abbrev pub OutsideMisread : ℕ → Type 0
OutsideMisread w =
    (receiver later : Receiver) (n : ℕ) (payload : List ℕ) (call : OpenCall) → (InWindow w receiver.numbering.next n → ⊥)
    → call.presented ≡ frame_at receiver.link n payload
    → (bench_receiving w).Opens receiver call later
    → call.refusal ≡ 0
    → call.number ≡ n → ⊥

-- what is shown of promise 3: it is not empty, whatever the link, and its bound is the true one
pub record AlwaysShown : Type 0 where
  -- of every link, and any two keys that yield the same 16 octets
  pub each_link : (sender_key receiver_key : List ℕ) (iov sapi direction : ℕ) → is_key sender_key ≡ true → is_key receiver_key ≡ true
      → prepared sender_key ≡ prepared receiver_key → is_service sapi ≡ true → is_direction direction ≡ true
      → Shown sender_key receiver_key iov sapi direction
  -- and of every width, every next number, and every frame outside the window
  pub outside : (w : ℕ) → w ≤ 512 → OutsideMisread w
