-- No INPUT used twice (document 02, item 11): of the formula, and of whatever senders of one prepared key, offset and direction seal. Assumes nothing.
use Rattle.std.specs.Prelude.{ℕ, suc, ◌^◌, ◌≤◌, ◌<◌, ◌≡◌, ◌⊎◌, true, List, [], length}
use Rattle.refusals.specs.Call.{Answered}
use Rattle.octets.specs.Xor.{xored}
use Rattle.keystreams.specs.Key.{is_key, prepared}
use Rattle.keystreams.specs.Gea4.{gea4_output}
use Rattle.frames.specs.Frame.{payload_of}
use Rattle.link.specs.Input.{input_of}
use Rattle.link.specs.Link.{is_service, is_direction}
use Rattle.sender.specs.declared.Sender.{Sender}
use Rattle.sender.specs.Sender.{open_sender_call}
use Rattle.promises.specs.Ends.{Sending, SentFrame, Sends, IsOneOf, here, there, bench_sending}
use Rattle.promises.specs.Hosts.{Host, NewHost, careful_sending}

-- ---- of the formula

-- under one offset, two frames with different service or number have different INPUT: of all assigned services s and t, and all numbers m and n from
-- 0 to 2^27 - 1. Key and direction do not go into INPUT
abbrev pub DifferentInputs : Type 0
DifferentInputs = (iov s t m n : ℕ) → is_service s ≡ true → is_service t ≡ true → m < 2 ^ 27 → n < 2 ^ 27
    → (s ≡ t → ⊥) ⊎ (m ≡ n → ⊥)
    → input_of iov s m ≡ input_of iov t n → ⊥

-- ---- of what is sealed

-- the frames that a sender sealed since it was opened, in their order, by any calls, refused ones too, each given the state that its last call returned
-- or, of a host, one that was restored; none where no sender was opened
pub data SealedSince (sending : Sending) (Opened : sending.State → Type 0) : List SentFrame → Type 0 where
  not_opened : SealedSince sending Opened []
  opened : {state last : sending.State} {frames : List SentFrame} → Opened state → Sends sending state frames last → SealedSince sending Opened frames

-- any senders, each of its own service: for each service number what its sender sealed. They share no state, so that nothing is lost by telling the
-- calls of each by themselves
pub record Senders (sending : Sending) (Opened : ℕ → sending.State → Type 0) : Type 0 where
  pub frames : ℕ → List SentFrame
  pub sealed : (sapi : ℕ) → SealedSince sending (Opened sapi) (frames sapi)

-- a sender newly opened under a prepared key: it was handed a key, of 8 octets or of 16, that yields these 16 octets. So a key of 8 octets and its
-- doubled form are one key here
pub record OpenedUnder (prepared_key : List ℕ) (iov direction sapi : ℕ) (sender : Sender) : Type 0 where
  pub key : List ℕ
  pub yields : prepared key ≡ prepared_key
  pub sender_opened : Answered (open_sender_call key iov sapi direction) 0 [] sender

-- the senders of the bench, newly opened under one prepared key, with one offset and direction
abbrev pub BenchSenders : List ℕ → ℕ → ℕ → Type 0
BenchSenders prepared_key iov direction = Senders bench_sending (OpenedUnder prepared_key iov direction)

-- a new host with a sender newly opened under a prepared key
pub record HostUnder (prepared_key : List ℕ) (iov direction sapi : ℕ) (host : Host) : Type 0 where
  pub new : NewHost host
  pub under : OpenedUnder prepared_key iov direction sapi host.sender

-- careful hosts, newly opened under one prepared key, with one offset and direction
abbrev pub HostSenders : List ℕ → ℕ → ℕ → Type 0
HostSenders prepared_key iov direction = Senders careful_sending (HostUnder prepared_key iov direction)

-- a frame that one of the senders sealed: its service, and which of that sender's frames it is
pub record SealedFrame (frames : ℕ → List SentFrame) : Type 0 where
  pub sapi : ℕ
  pub frame : SentFrame
  pub one : IsOneOf frame (frames sapi)

-- how many frames stand before this one
abbrev pub place : {frame : SentFrame} {frames : List SentFrame} → IsOneOf frame frames → ℕ
place here = 0
place (there later) = suc (place later)

-- two sealed frames are of the same seal call: one sender sealed both, and as many frames before either
abbrev pub SameCall : {frames : ℕ → List SentFrame} → SealedFrame frames → SealedFrame frames → Type 0
SameCall one other = (one.sapi ≡ other.sapi) × (place one.one ≡ place other.one)

-- the INPUT of a sealed frame: of the offset, its service and the number that its seal call handed out
abbrev pub input_used : {frames : ℕ → List SentFrame} → ℕ → SealedFrame frames → ℕ
input_used iov sealed = input_of iov sealed.sapi sealed.frame.number

-- two sealed frames that are not of the same seal call have different INPUT
abbrev pub TwoCallsTwoInputs : ℕ → (ℕ → List SentFrame) → Type 0
TwoCallsTwoInputs iov frames =
    (one other : SealedFrame frames)
    → (SameCall one other → ⊥)
    → input_used iov one ≡ input_used iov other → ⊥

-- and this is the INPUT that was used: what stands after a frame's header is its payload xor the GEA4 octets of this INPUT
abbrev pub CipheredUnderInput : List ℕ → ℕ → ℕ → (ℕ → List SentFrame) → Type 0
CipheredUnderInput prepared_key iov direction frames =
    (one : SealedFrame frames)
    → payload_of one.frame.octets ≡ xored one.frame.payload (gea4_output prepared_key (input_used iov one) direction (length one.frame.payload))

-- senders of all assigned services, each of which has sealed so many frames
pub record AllHaveSealed (sending : Sending) (Opened : ℕ → sending.State → Type 0) (count : ℕ) : Type 0 where
  pub senders : Senders sending Opened
  pub each_has : (sapi : ℕ) → is_service sapi ≡ true → length (senders.frames sapi) ≡ count

-- the theorem: of the formula, of what is sealed, that it is about the INPUT that ciphers, and that there is such a thing
pub record NoInputTwice : Type 0 where
  pub formula : DifferentInputs
  -- of the senders of the bench
  pub sealed : (prepared_key : List ℕ) (iov direction : ℕ) (senders : BenchSenders prepared_key iov direction) → TwoCallsTwoInputs iov senders.frames
  pub used : (prepared_key : List ℕ) (iov direction : ℕ) (senders : BenchSenders prepared_key iov direction) → CipheredUnderInput prepared_key iov direction senders.frames
  -- and of careful hosts, over all their restarts
  pub hosts_sealed : (prepared_key : List ℕ) (iov direction : ℕ) (senders : HostSenders prepared_key iov direction) → TwoCallsTwoInputs iov senders.frames
  pub hosts_used : (prepared_key : List ℕ) (iov direction : ℕ) (senders : HostSenders prepared_key iov direction) → CipheredUnderInput prepared_key iov direction senders.frames
  -- there are such senders, of every key, offset and direction, with as many frames as one likes, up to all 2^27 of each service
  pub some : (key : List ℕ) (iov direction count : ℕ) → is_key key ≡ true → is_direction direction ≡ true → count ≤ 2 ^ 27
      → AllHaveSealed bench_sending (OpenedUnder (prepared key) iov direction) count
