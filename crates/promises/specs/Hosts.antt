-- A host whose plug may be pulled at any moment (document 02, item 4): a sender in its memory, which a cut takes away, and the form that it stored last,
-- which a cut leaves. Each step is whatever the call's contract allows. Assumes nothing.
use Rattle.std.specs.Prelude.{ℕ, ◌+◌, ◌^◌, ◌<◌, ◌≡◌, cond, List, [], ◌∷◌, eqb, take}
use Rattle.refusals.specs.Call.{Answered}
use Rattle.link.specs.Link.{frame_at}
use Rattle.sender.specs.declared.Sender.{Sender}
use Rattle.sender.specs.Sender.{open_sender_call, reserve_call}
use Rattle.receiver.specs.declared.Receiver.{Receiver}
use Rattle.stored.specs.Form.{form_size}
use Rattle.stored.specs.Ends.{store_sender_call, restore_sender_call}
use Rattle.promises.specs.Ends.{SealCall, Sending, SentFrame, Sends, no_more, seal, step, Ends, NewlyOpenedEnds, NewlyOpenedReceiver, bench_sending, bench_receiving}

-- what a host opens its sender with
pub record Setting : Type 0 where
  pub key : List ℕ
  pub iov : ℕ
  pub sapi : ℕ
  pub direction : ℕ

-- what is stored: nothing yet, or the octets of a form and the reservation that it was written with
pub data Stored : Type 0 where
  nothing_yet : Stored
  form_with : (octets : List ℕ) (reserved : ℕ) → Stored

-- a host
pub record Host : Type 0 where
  pub setting : Setting
  pub sender : Sender
  pub stored : Stored

-- the host with another sender, and with something else stored
abbrev pub with_sender : Host → Sender → Host
with_sender host sender = record { setting = host.setting; sender = sender; stored = host.stored }

abbrev pub with_stored : Host → Stored → Host
with_stored host stored = record { setting = host.setting; sender = host.sender; stored = stored }

-- a sender is opened with a setting
abbrev pub OpensWith : Setting → ℕ → Sender → Type 0
OpensWith setting refusal sender = Answered (open_sender_call setting.key setting.iov setting.sapi setting.direction) refusal [] sender

-- what a restart may make of what is stored: a sender from the last form, or a new opening where none ever was
abbrev pub RestartsWith : Setting → Stored → ℕ → Sender → Type 0
RestartsWith setting nothing_yet refusal sender = OpensWith setting refusal sender
RestartsWith setting (form_with octets reserved) refusal sender = Answered (restore_sender_call octets) refusal [] sender

-- the steps of a host beside its seals. Which reservations it tells its sender is for the host to say, `Tells`
pub data HostStep (Tells : Stored → ℕ → Type 0) : Host → Host → Type 0 where
  -- a form with a reservation is written, and stored whole, in the place of what was stored. What it says is the link and the reservation, so that frames
  -- sealed between writing it and storing it change nothing
  store : {host : Host} {after : List ℕ} (reserved : ℕ) (before : List ℕ)
      → Answered (store_sender_call host.sender reserved before) 0 [] after
      → HostStep Tells host (with_stored host (form_with (take (form_size 1) after) reserved))
  -- a form is written, or refused, and not stored
  no_store : {host : Host} {after : List ℕ} {refusal : ℕ} (reserved : ℕ) (before : List ℕ)
      → Answered (store_sender_call host.sender reserved before) refusal [] after
      → HostStep Tells host host
  -- the sender is told a reservation, and takes it or refuses it
  tell : {host : Host} {later : Sender} {refusal : ℕ} (reserved : ℕ)
      → Tells host.stored reserved
      → Answered (reserve_call host.sender reserved) refusal [] later
      → HostStep Tells host (with_sender host later)
  -- the plug is pulled, and the host restarts
  restart : {host : Host} {later : Sender} (refusal : ℕ)
      → RestartsWith host.setting host.stored refusal later
      → HostStep Tells host (with_sender host later)

-- a careful host tells its sender the reservation that it stored last, and no other. It may store another without having told the one before; then it may no
-- longer tell that one
abbrev pub StoredLast : Stored → ℕ → Type 0
StoredLast nothing_yet reserved = ⊥
StoredLast (form_with octets last) reserved = reserved ≡ last

-- a hasty host tells any, stored or not
abbrev pub Anything : Stored → ℕ → Type 0
Anything stored reserved = Unit {0}

-- what a seal call may do at a host: what it may do at its sender
pub record HostSeals (host : Host) (call : SealCall) (later : Host) : Type 0 where
  pub sender : Sender
  pub seals : bench_sending.Seals host.sender call sender
  pub later_is : later ≡ with_sender host sender

-- a host as a sending end: its history is all that its senders sealed, over all restarts
abbrev pub hosting : (Stored → ℕ → Type 0) → Sending
hosting Tells = record { State = Host; link = λ host. host.sender.link; Seals = HostSeals; Steps = HostStep Tells }

abbrev pub careful_sending : Sending
careful_sending = hosting StoredLast

-- a new host: its sender was opened with its setting, and nothing is stored. The offset has 32 bits, as its type has
pub record NewHost (host : Host) : Type 0 where
  pub opened : OpensWith host.setting 0 host.sender
  pub empty : host.stored ≡ nothing_yet
  pub iov_fits : host.setting.iov < 2 ^ 32

-- a new host and a receiver that were opened alike
pub record NewHostAndReceiver (host : Host) (receiver : Receiver) : Type 0 where
  pub new : NewHost host
  pub alike : NewlyOpenedEnds host.sender receiver

-- the ends of the bench with a careful host for the sender
abbrev pub host_ends : ℕ → Ends
host_ends w = record {
  frame_of = frame_at;
  sending = careful_sending;
  receiving = bench_receiving w;
  Begins = NewHost;
  IsNew = NewlyOpenedReceiver;
  OpenedAlike = NewHostAndReceiver;
}

-- ---- what happened, to be read

-- what a step came to
pub data Event : Type 0 where
  sealed : (number : ℕ) → Event
  stored : (reserved : ℕ) → Event
  told : (reserved : ℕ) → Event
  restarted : (next : ℕ) → Event
  nothing_done : Event

-- what a step beside the seals came to: a store, a reservation told, a restart and where the sender then stands
abbrev pub event_of : {Tells : Stored → ℕ → Type 0} {host later : Host} → HostStep Tells host later → Event
event_of (store reserved before answered) = stored reserved
event_of (no_store reserved before answered) = nothing_done
event_of (tell {refusal = refusal} reserved may answered) = cond (eqb refusal 0) (told reserved) nothing_done
event_of (restart {later = later} refusal answered) = restarted later.next

-- the history of a host, in its order
abbrev pub history : {Tells : Stored → ℕ → Type 0} {host last : Host} {frames : List SentFrame} → Sends (hosting Tells) host frames last → List Event
history no_more = []
history (seal call seals rest) = cond (eqb call.refusal 0) (sealed call.number) nothing_done ∷ history rest
history (step one rest) = event_of one ∷ history rest

-- how many restarts there were
abbrev pub restarts : List Event → ℕ
restarts [] = 0
restarts (restarted next ∷ rest) = 1 + restarts rest
restarts (sealed number ∷ rest) = restarts rest
restarts (stored reserved ∷ rest) = restarts rest
restarts (told reserved ∷ rest) = restarts rest
restarts (nothing_done ∷ rest) = restarts rest
