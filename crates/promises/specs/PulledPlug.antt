-- The theorem of a sender that survives the pulled plug (document 02, item 4), over every moment at which it can be pulled. Assumes nothing.
use Rattle.std.specs.Prelude.{ℕ, ◌+◌, ◌*◌, ◌^◌, ◌≤◌, ◌<◌, ◌≡◌, true, List, [], ◌∷◌, length}
use Rattle.refusals.specs.Call.{Answered}
use Rattle.numbering.specs.Numbering.{width}
use Rattle.keystreams.specs.Key.{is_key, prepared}
use Rattle.link.specs.Link.{is_service, is_direction}
use Rattle.sender.specs.declared.Sender.{Sender}
use Rattle.sender.specs.Sender.{reserve_call}
use Rattle.receiver.specs.declared.Receiver.{Receiver}
use Rattle.promises.specs.Ends.{OpenCall, SentFrame, Sends, IsOneOf, Events, arrivals, AllInWindow, Since, OpenedWith, bench_sending, bench_receiving}
use Rattle.promises.specs.Promise3.{Promise3, Rising, HandedOut, AsPromised}
use Rattle.promises.specs.NoInputTwice.{place, HostUnder, AllHaveSealed}
use Rattle.promises.specs.Hosts.{Setting, form_with, Host, RestartsWith, Anything, hosting, careful_sending, NewHost, NewHostAndReceiver, host_ends, sealed, stored, told, restarted, history, restarts}

-- promise 3 with a careful host for the sender: the numbers that a restart skips count as lost frames, and the 479 includes them
abbrev pub HostPromise3 : Type 0
HostPromise3 = Promise3 width (host_ends width)

-- what a restart comes to: it is not refused; the sender is on the link of the one that was cut, at its reservation; it stands at the next number of the one
-- that was cut, or above it, and skips at most 64
pub record GoesOn (cut : Sender) (refusal : ℕ) (later : Sender) : Type 0 where
  pub not_refused : refusal ≡ 0
  pub same_link : later.link ≡ cut.link
  pub at_reservation : later.next ≡ later.reserved
  pub not_below : cut.next ≤ later.next
  pub skips_at_most : later.next ≤ cut.next + 64

-- a careful host with three cuts: the first after three frames, the second between store and tell, the third after one frame of two that were reserved; and
-- a receiver opened alike, to which 0, 2, 128 and 130 arrive within the window: 1 is lost, 3 to 127 and 129 were skipped
pub record ThreeCuts (setting : Setting) : Type 0 where
  pub host : Host
  pub last : Host
  pub receiver : Receiver
  pub receiver_last : Receiver
  pub frames : List SentFrame
  pub with_setting : host.setting ≡ setting
  pub alike : NewHostAndReceiver host receiver
  pub sends : Sends careful_sending host frames last
  pub history_is :
      history sends
      ≡ stored 64 ∷ told 64 ∷ sealed 0 ∷ sealed 1 ∷ sealed 2 ∷ restarted 64 ∷
      stored 128 ∷ restarted 128 ∷
      stored 130 ∷ told 130 ∷ sealed 128 ∷ restarted 130 ∷
      stored 131 ∷ told 131 ∷ sealed 130 ∷ []
  pub events : Events (bench_receiving width) frames receiver receiver_last
  pub in_window : AllInWindow width events
  pub arrived : arrivals events ≡ 0 ∷ 2 ∷ 128 ∷ 130 ∷ []

-- a host that tells before it stores: its last form has the reservation 1, and it told its sender 2 and sealed number 1. After the cut it stores and tells
-- 2, as it should, and seals number 1 again, with another payload, and so under one INPUT
pub record TellsFirst (setting : Setting) : Type 0 where
  pub host : Host
  pub last : Host
  pub zeroth : SentFrame
  pub one : SentFrame
  pub other : SentFrame
  pub with_setting : host.setting ≡ setting
  pub new : NewHost host
  pub sends : Sends (hosting Anything) host (zeroth ∷ one ∷ other ∷ []) last
  pub history_is : history sends ≡ stored 1 ∷ told 1 ∷ sealed 0 ∷ told 2 ∷ sealed 1 ∷ restarted 1 ∷ stored 2 ∷ told 2 ∷ sealed 1 ∷ []
  pub same_number : one.number ≡ other.number
  pub other_payload : one.payload ≡ other.payload → ⊥

-- a receiver restored from an older moment. 0 and 2 arrive, and it is stored; 3 arrives and is handed out. Restored from that store, it knows 0 and 2: when
-- 0, 3 and 1 arrive, 0 is refused as a repeat, 3 is handed out again, and 1 is handed out, late
pub record HandedOutAgain (setting : Setting) : Type 0 where
  pub sender : Sender
  pub sender_last : Sender
  pub receiver : Receiver
  pub stored_at : Receiver
  pub heard : Receiver
  pub restored : Receiver
  pub last : Receiver
  pub frames : List SentFrame
  pub three : SentFrame
  pub once : OpenCall
  pub opened : OpenedWith setting.key setting.key setting.iov setting.sapi setting.direction sender receiver
  pub sends : Sends bench_sending sender frames sender_last
  pub before : Events (bench_receiving width) frames receiver stored_at
  pub before_arrived : arrivals before ≡ 0 ∷ 2 ∷ []
  pub three_is : three.number ≡ 3
  pub three_sent : IsOneOf three frames
  pub once_presented : once.presented ≡ three.octets
  pub once_opens : (bench_receiving width).Opens stored_at once heard
  pub once_handed_out : HandedOut three once
  pub restores : (bench_receiving width).Restores stored_at restored
  pub since : Since (bench_receiving width) receiver restored (2 ∷ 0 ∷ [])
  pub after : Events (bench_receiving width) frames restored last
  pub after_arrived : arrivals after ≡ 0 ∷ 3 ∷ 1 ∷ []
  pub in_window : AllInWindow width after
  pub answered : AsPromised (2 ∷ 0 ∷ []) after

-- a setting that opens a sender
pub record Opens (setting : Setting) : Type 0 where
  pub a_key : is_key setting.key ≡ true
  pub a_service : is_service setting.sapi ≡ true
  pub a_direction : is_direction setting.direction ≡ true
  pub iov_fits : setting.iov < 2 ^ 32

-- the theorem: of every careful host, from its new sender on, over any seals, stores, reservations told and cuts, in whatever order
pub record PulledPlug : Type 0 where
  -- over the whole history, all restarts included, the numbers that are sealed only rise,
  pub rising : {host last : Host} {frames : List SentFrame} → NewHost host → Sends careful_sending host frames last → Rising frames
  -- so that none is sealed twice: two frames with one number are of one seal call
  pub once : {host last : Host} {frames : List SentFrame} → NewHost host → Sends careful_sending host frames last
      → {one other : SentFrame} (first : IsOneOf one frames) (second : IsOneOf other frames) → one.number ≡ other.number → place first ≡ place second
  -- whenever the plug is pulled, the restart goes on, and skips at most 64
  pub goes_on : {host last : Host} {frames : List SentFrame} → NewHost host → Sends careful_sending host frames last
      → (refusal : ℕ) (later : Sender) → RestartsWith last.setting last.stored refusal later → GoesOn last.sender refusal later
  -- and the reservation that was stored last is always taken
  pub takes : {host last : Host} {frames : List SentFrame} → NewHost host → Sends careful_sending host frames last
      → (octets : List ℕ) (reserved : ℕ) → last.stored ≡ form_with octets reserved
      → (refusal : ℕ) (later : Sender) → Answered (reserve_call last.sender reserved) refusal [] later → refusal ≡ 0
  -- in all no more numbers are gone than those that were sealed, and 64 for each restart
  pub accounted : {host last : Host} {frames : List SentFrame} → NewHost host → (sends : Sends careful_sending host frames last)
      → last.sender.next ≤ length frames + 64 * restarts (history sends)
  -- promise 3 holds over such a sender
  pub promise_3 : HostPromise3
  -- there are careful hosts of all services, of every key, offset and direction, with as many frames as one likes
  pub some : (key : List ℕ) (iov direction count : ℕ) → is_key key ≡ true → is_direction direction ≡ true → iov < 2 ^ 32 → count ≤ 2 ^ 27
      → AllHaveSealed careful_sending (HostUnder (prepared key) iov direction) count
  -- of every setting that opens there is a host that meets it; one that tells before it stores and repeats a number; and a receiver, restored from an older
  -- moment, that hands out a frame again
  pub three_cuts : (setting : Setting) → Opens setting → ThreeCuts setting
  pub tells_first : (setting : Setting) → Opens setting → TellsFirst setting
  pub handed_out_again : (setting : Setting) → Opens setting → HandedOutAgain setting
