-- Where "no INPUT used twice" ends (document 02, item 11): what meets at 2^27, under two offsets, and when a sender is opened twice. Assumes nothing.
use Rattle.std.specs.Prelude.{ℕ, ◌^◌, ◌≡◌, ◌⊎◌, true, List, [], ◌∷◌, length}
use Rattle.refusals.specs.Call.{Answered}
use Rattle.octets.specs.Xor.{xored}
use Rattle.keystreams.specs.Key.{prepared}
use Rattle.frames.specs.Frame.{payload_of}
use Rattle.link.specs.Input.{input_of}
use Rattle.link.specs.Link.{is_service}
use Rattle.sender.specs.declared.Sender.{Sender}
use Rattle.sender.specs.Sender.{open_sender_call, seal_call}
use Rattle.promises.specs.NoInputTwice.{BenchSenders, SealedFrame, input_used}

-- frame m of service s under one offset and frame n of service t under another, or the same, share their INPUT; both services are assigned
pub record Meet (iov s m other_iov t n : ℕ) : Type 0 where
  pub one_assigned : is_service s ≡ true
  pub other_assigned : is_service t ≡ true
  pub same : input_of iov s m ≡ input_of other_iov t n

-- where the theorem ends: past the last number, with two offsets, and with a sender or a state that is used twice; and what a repeated INPUT tells
pub record WhereItEnds : Type 0 where
  -- at 2^27: if service 1 went on to number 2^27, it would meet number 0 of service 2, under offset 01234567
  pub at_the_end : Meet 0x01234567 1 (2 ^ 27) 0x01234567 2 0
  -- and no offset keeps all services apart there: 2 meets 3, or 3 meets 2
  pub under_every_offset : (iov : ℕ) → Meet iov 2 (2 ^ 27) iov 3 0 ⊎ Meet iov 3 (2 ^ 27) iov 2 0
  -- two offsets under one key: number 1 under offset 0 meets number 0 under offset 1
  pub two_offsets : Meet 0 3 1 1 3 0
  -- a sender opened twice, with one key or with two that yield the same, has the same state,
  pub opened_twice : (one_key other_key : List ℕ) (iov sapi direction : ℕ) {one other : Sender}
      → prepared one_key ≡ prepared other_key
      → Answered (open_sender_call one_key iov sapi direction) 0 [] one
      → Answered (open_sender_call other_key iov sapi direction) 0 [] other
      → one ≡ other
  -- and a state that two seal calls are given seals two frames of one number, so of one INPUT, and leaves one state, so that what follows repeats too
  pub state_twice : (sender : Sender) (one_payload other_payload one_before other_before : List ℕ) {m n one_size other_size : ℕ} {one_later other_later : Sender} {one_after other_after : List ℕ}
      → Answered (seal_call sender one_payload one_before) 0 (m ∷ one_size ∷ []) (record { sender = one_later; output = one_after })
      → Answered (seal_call sender other_payload other_before) 0 (n ∷ other_size ∷ []) (record { sender = other_later; output = other_after })
      → (m ≡ n) × (one_later ≡ other_later)
  -- what a repeated INPUT tells everybody who listens: of two sealed frames of one prepared key and direction that share it, with payloads of one length,
  -- the xor of what is on the air is the xor of the payloads
  pub tells : (prepared_key : List ℕ) (iov other_iov direction : ℕ) (senders : BenchSenders prepared_key iov direction) (others : BenchSenders prepared_key other_iov direction)
      (one : SealedFrame senders.frames) (other : SealedFrame others.frames)
      → input_used iov one ≡ input_used other_iov other
      → length one.frame.payload ≡ length other.frame.payload
      → xored (payload_of one.frame.octets) (payload_of other.frame.octets) ≡ xored one.frame.payload other.frame.payload
