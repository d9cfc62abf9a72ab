-- For every link and every payload: a run that meets the hypotheses of promise 3 to their edges and crosses a rollover with a lost stretch of 479,
-- with refused calls on both sides; and the frames one past the edges that are misread. Assumes nothing.
use Prim.Native.Nat.{ℕ, ◌+◌, ◌%◌, ◌≤◌, ◌<◌, zero-le}
use native.Mathlib.Omega.{arith}
use mathlib.Core.Path.{◌≡◌, refl, sym, ap, subst, ◌∙◌}
use mathlib.Core.Bool.{true, false}
use mathlib.Core.List.{List, [], ◌∷◌, ◌++◌}
use borrow.Author.Tests.{eqb-false}
use lib.Dec.{T, leb, ltb, lit<, lit≤}
use lib.ListN.{length}
use Rattle.refusals.specs.Refusal.{first}
use Rattle.refusals.specs.Call.{Call, Answered, front}
use Rattle.refusals.proofs.Calls.{done, refused as refused-with}
use Rattle.keystreams.specs.Key.{is_key, prepared}
use Rattle.frames.specs.Frame.{look_order, is_whole}
use Rattle.numbering.specs.declared.Numbering.{Numbering}
use Rattle.numbering.specs.Numbering.{width, numbering_of, start, end, InWindow, marks_of, mark, can_arise, is_accepted, accepted}
use Rattle.link.specs.declared.Link.{Link}
use Rattle.link.specs.Link.{is_service, is_direction, link_can_arise, link_order, link_of, frame_at, ciphered}
use Rattle.link.proofs.Links.{opened_link}
use Rattle.link.proofs.Frames.{length-ciphered}
use Rattle.sender.specs.declared.Sender.{Sender}
use Rattle.sender.specs.Sender.{sender_of, seal_call}
use Rattle.sender.proofs.Sealing.{seal_3_empty}
use Rattle.receiver.specs.declared.Receiver.{Receiver}
use Rattle.receiver.specs.Receiver.{receiver_of, new_receiver, after_accepting, open_receiver_call, receiver_can_arise, open_call}
use Rattle.receiver.proofs.Opening.{open_looked}
use Rattle.receiver.proofs.Laws.{open_new, open_repeat, open_no_room}
use Rattle.promises.specs.Ends.{SealCall, OpenCall, SentFrame, with_sealed, Sends, no_more, seal, IsOneOf, Events, arrival, refused, arrivals, AllInWindow, bench_sending, bench_receiving}
use Rattle.promises.specs.Examples.{RunOf, Misread, Shown, AlwaysShown}
use Rattle.promises.proofs.BenchLaws.{bench_half}
use Rattle.promises.proofs.ShortKeys.{receiver_same}
use Rattle.promises.proofs.SealingAgain.{opening_allowed, sender_opens, sent_at, sent_from, one_from, good_sender, sends_from}
use Rattle.promises.proofs.Misread.{turn_not_on_air, outside}

module _ (key : List ℕ) (iov sapi direction : ℕ) (valid : is_key key ≡ true) (service : is_service sapi ≡ true) (way : is_direction direction ≡ true)
    (payload : List ℕ) (some : 1 ≤ length payload) (most : length payload ≤ 1520) where
  -- the link that both ends are opened on
  abbrev link : Link
  link = link_of key iov sapi direction

  -- its sender with next number n, all that it was told used up, and its receiver with a numbering
  abbrev sender_at : ℕ → Sender
  sender_at n = sender_of link n n

  abbrev receiver_at : Numbering → Receiver
  receiver_at numbering = receiver_of link numbering

  allowed : first (link_order key sapi direction) ≡ 0
  allowed = opening_allowed key sapi direction valid service way

  link_good : link_can_arise link ≡ true
  link_good = opened_link key iov sapi direction allowed

  receiver_opens : Answered (open_receiver_call key iov sapi direction) 0 [] (receiver_at start)
  unfolding new_receiver
  receiver_opens = done (open_receiver_call key iov sapi direction) allowed

  -- ---- the sender

  -- the frame of number n
  abbrev sent_frame : ℕ → SentFrame
  sent_frame n = sent_at link payload n

  -- a seal of no payload is refused, and the sender goes on
  abbrev empty_call : SealCall
  empty_call = record { payload = []; before = []; refusal = 3; number = 0; size = 0; after = [] }

  seals_nothing : bench_sending.Seals (sender_at 0) empty_call (sender_at 0)
  seals_nothing =
      refused-with (seal_call (sender_at 0) [] []) 3 (seal_3_empty (sender_at 0) [] [] (good_sender link [] link_good 0 0 zero-le zero-le zero-le) refl) (eqb-false 3 0 refl)

  -- 962 frames, after a refused call
  abbrev frames : List SentFrame
  frames = sent_from link payload 0 962

  all_sent : Sends bench_sending (sender_at 0) frames (sender_at 962)
  unfolding with_sealed end
  all_sent = seal empty_call seals_nothing (sends_from link payload link_good some most 0 962 (lit≤ tt))

  one_of : (n : ℕ) → n < 962 → IsOneOf (sent_frame n) frames
  one_of n below = subst (λ (m : ℕ). IsOneOf (sent_frame m) frames) {x = 0 + n} (omega arith) (one_from link payload 0 962 n below)

  octets_are : (n : ℕ) → n < 962 → frame_at link n payload ≡ (sent_frame n).octets
  octets_are n below = sym ((bench_half all_sent).each_is (sent_frame n) (one_of n below)).octets_are

  -- ---- the receiver

  -- events from one numbering to another, within the window, in which these numbers arrive
  record Going (numbering last : Numbering) (numbers : List ℕ) : Type 0 where
    events : Events (bench_receiving width) frames (receiver_at numbering) (receiver_at last)
    in_window : AllInWindow width events
    arrived : arrivals events ≡ numbers

  -- at this numbering a frame of number n, which was sent, is in the window
  record Ready (numbering : Numbering) (n : ℕ) : Type 0 where
    good : can_arise width numbering ≡ true
    inside : InWindow width numbering.next n
    sent : n < 962

  below_end : {n : ℕ} → n < 962 → n < end
  unfolding end
  below_end sent = omega arith

  good_receiver : (numbering : Numbering) → can_arise width numbering ≡ true → receiver_can_arise width (receiver_at numbering) ≡ true
  unfolding receiver_can_arise
  good_receiver numbering good = simp (link_good, good)

  -- frame n presented, with an output, and its answer
  abbrev call_of : ℕ → List ℕ → ℕ → ℕ → List ℕ → OpenCall
  call_of n before refusal size after =
      record { presented = (sent_frame n).octets; before = before; refusal = refusal; number = n; size = size; after = after }

  new : {numbering last : Numbering} {numbers : List ℕ} (n : ℕ) → Ready numbering n → is_accepted numbering n ≡ false → Going (accepted width numbering n) last numbers
      → Going numbering last (n ∷ numbers)
  unfolding after_accepting
  new {numbering} n ready anew going = record {
    events =
        arrival (sent_frame n) (call_of n payload 0 (length payload) (front payload payload)) (one_of n ready.sent) refl (omega arith)
        (subst (λ (o : List ℕ). Answered (open_call width (receiver_at numbering) o payload) 0 (n ∷ length payload ∷ []) (record { receiver = receiver_at (accepted width numbering n); output = front payload payload }))
        (octets_are n ready.sent)
        (open_new width (lit≤ tt) (receiver_at numbering) (good_receiver numbering ready.good) n ready.inside (below_end ready.sent) payload some most payload anew (omega arith)))
        going.events;
    in_window = (ready.inside, going.in_window);
    arrived = ap (λ (l : List ℕ). n ∷ l) going.arrived;
  }

  again : {numbering last : Numbering} {numbers : List ℕ} (n : ℕ) → Ready numbering n → is_accepted numbering n ≡ true → Going numbering last numbers → Going numbering last (n ∷ numbers)
  again {numbering} n ready marked going = record {
    events =
        arrival (sent_frame n) (call_of n payload 11 0 payload) (one_of n ready.sent) refl (omega arith)
        (subst (λ (o : List ℕ). Answered (open_call width (receiver_at numbering) o payload) 11 (n ∷ 0 ∷ []) (record { receiver = receiver_at numbering; output = payload }))
        (octets_are n ready.sent)
        (open_repeat width (lit≤ tt) (receiver_at numbering) (good_receiver numbering ready.good) n ready.inside (below_end ready.sent) payload some most payload marked))
        going.events;
    in_window = (ready.inside, going.in_window);
    arrived = ap (λ (l : List ℕ). n ∷ l) going.arrived;
  }

  -- no octets at all are refused with 5
  silence : {numbering last : Numbering} {numbers : List ℕ} → can_arise width numbering ≡ true → Going numbering last numbers → Going numbering last numbers
  unfolding first look_order is_whole
  silence {numbering} good going = record {
    events =
        refused (record { presented = []; before = []; refusal = 5; number = 0; size = 0; after = [] }) (eqb-false 5 0 refl)
        (refused-with (open_call width (receiver_at numbering) [] []) 5
        (open_looked width (receiver_at numbering) [] [] (good_receiver numbering good) (eqb-false 5 0 refl))
        (eqb-false 5 0 refl))
        going.events;
    in_window = going.in_window;
    arrived = going.arrived;
  }

  stop : {numbering : Numbering} → Going numbering numbering []
  stop = record { events = no_more; in_window = tt; arrived = refl }

  -- a frame presented without room is refused with 4, and may be presented again
  no_room : {numbering last : Numbering} {numbers : List ℕ} (n : ℕ) → Ready numbering n → is_accepted numbering n ≡ false → Going numbering last numbers
      → Going numbering last numbers
  no_room {numbering} n ready anew going = record {
    events =
        refused (call_of n [] 4 0 []) (eqb-false 4 0 refl)
        (subst (λ (o : List ℕ). Answered (open_call width (receiver_at numbering) o []) 4 (n ∷ 0 ∷ []) (record { receiver = receiver_at numbering; output = [] }))
        (octets_are n ready.sent)
        (open_no_room width (lit≤ tt) (receiver_at numbering) (good_receiver numbering ready.good) n ready.inside (below_end ready.sent) payload some most [] anew some))
        going.events;
    in_window = going.in_window;
    arrived = going.arrived;
  }

  -- ---- the runs

  ready : {next marks n : ℕ} → can_arise width (numbering_of next marks) ≡ true → T (leb next (n + width)) → T (ltb (n + width) (next + 512)) → T (ltb n 962) → Ready (numbering_of next marks) n
  ready good low high sent = record { good = good; inside = record { not_below = lit≤ low; not_above = lit< high }; sent = lit< sent }

  -- what is left at each arrival
  from_961 : Going (numbering_of 961 1) (numbering_of 961 2147483649) (929 ∷ [])
  unfolding can_arise is_accepted marks_of mark accepted end
  from_961 = new 929 (ready refl tt tt tt) refl stop

  from_481 : Going (numbering_of 481 5) (numbering_of 961 2147483649) (478 ∷ 960 ∷ 929 ∷ [])
  unfolding can_arise is_accepted marks_of mark accepted end
  from_481 = again 478 (ready refl tt tt tt) refl (new 960 (ready refl tt tt tt) refl from_961)

  from_0 : Going start (numbering_of 961 2147483649) (0 ∷ 480 ∷ 478 ∷ 478 ∷ 960 ∷ 929 ∷ [])
  unfolding can_arise is_accepted marks_of mark accepted end
  from_0 = new 0 (ready refl tt tt tt) refl (silence refl (no_room 480 (ready refl tt tt tt) refl (new 480 (ready refl tt tt tt) refl (new 478 (ready refl tt tt tt) refl from_481))))

  -- a frame is handed out under the one number of the window with its nine bits
  garbled : ℕ → ℕ → List ℕ
  garbled m n = ciphered link n (ciphered link m payload)

  length_garbled : (m n : ℕ) → length (garbled m n) ≡ length payload
  unfolding garbled
  length_garbled m n = length-ciphered link n (ciphered link m payload) ∙ length-ciphered link m payload

  -- the open call that hands out frame m under number n
  abbrev garbled_call : ℕ → ℕ → OpenCall
  garbled_call m n = record {
    presented = (sent_frame m).octets;
    before = payload;
    refusal = 0;
    number = n;
    size = length (garbled m n);
    after = front (garbled m n) payload;
  }

  taken_for : {numbering : Numbering} (m n : ℕ) → m < 962 → m % 512 ≡ n % 512 → Ready numbering n → is_accepted numbering n ≡ false
      → (bench_receiving width).Opens (receiver_at numbering) (garbled_call m n) (receiver_at (accepted width numbering n))
  unfolding garbled after_accepting
  taken_for {numbering} m n sent same ready anew =
      let long = length_garbled m n in
      subst (λ (o : List ℕ). Answered (open_call width (receiver_at numbering) o payload) 0 (n ∷ length (garbled m n) ∷ []) (record { receiver = receiver_at (accepted width numbering n); output = front (garbled m n) payload }))
      (sym (turn_not_on_air link m n payload same) ∙ octets_are m sent)
      (open_new width (lit≤ tt) (receiver_at numbering) (good_receiver numbering ready.good) n ready.inside (below_end ready.sent) (garbled m n)
      (omega (arith, some, long)) (omega (arith, most, long)) payload anew (omega (arith, long)))

  up_to_481 : Going start (numbering_of 481 1) (0 ∷ 480 ∷ [])
  unfolding can_arise is_accepted marks_of mark accepted end
  up_to_481 = new 0 (ready refl tt tt tt) refl (new 480 (ready refl tt tt tt) refl stop)

  up_to_34 : Going start (numbering_of 34 1) (0 ∷ 33 ∷ [])
  unfolding can_arise is_accepted marks_of mark accepted end
  up_to_34 = new 0 (ready refl tt tt tt) refl (new 33 (ready refl tt tt tt) refl stop)

  -- ---- the receiver may have been handed another key that yields the same
  module _ (other : List ℕ) (other-valid : is_key other ≡ true) (same : prepared key ≡ prepared other) where
    other_opens : Answered (open_receiver_call other iov sapi direction) 0 [] (receiver_at start)
    other_opens =
        subst (λ (entry : Call Receiver). Answered entry 0 [] (receiver_at start)) (receiver_same key other (valid ∙ sym other-valid) same iov sapi direction)
        receiver_opens

    -- such events as a run
    abbrev run_of : {last : Numbering} {numbers : List ℕ} → Going start last numbers → RunOf width key other iov sapi direction numbers
    run_of {last} going = record {
      sender = sender_at 0;
      sender_last = sender_at 962;
      receiver = receiver_at start;
      receiver_last = receiver_at last;
      frames = frames;
      opened = record { same_key = same; sender_opened = sender_opens key iov sapi direction allowed; receiver_opened = other_opens };
      sent = all_sent;
      events = going.events;
      in_window = going.in_window;
      arrived = going.arrived;
    }

    -- after such events frame m is handed out under n, another number
    misread : {last : Numbering} {numbers : List ℕ} (going : Going start last numbers) (m n : ℕ) → m < 962 → m % 512 ≡ n % 512 → Ready last n → is_accepted last n ≡ false
        → (n ≡ m → ⊥) → Misread (run_of going) last.next m n
    misread {last} going m n sent same ready anew differ = record {
      frame = sent_frame m;
      call = garbled_call m n;
      later = receiver_at (accepted width last n);
      next_is = refl;
      number_is = refl;
      one = one_of m sent;
      presented = refl;
      room = omega arith;
      opens = taken_for m n sent same ready anew;
      handed_out = refl;
      under = refl;
      not_its_own = differ;
    }

    pub shown : Shown key other iov sapi direction
    unfolding can_arise is_accepted marks_of mark accepted end
    shown = record {
      over_a_rollover = run_of from_0;
      up_to_481 = run_of up_to_481;
      above = misread up_to_481 961 449 (lit< tt) refl (ready refl tt tt tt) refl (eqb-false 449 961 refl);
      up_to_34 = run_of up_to_34;
      below = misread up_to_34 1 513 (lit< tt) refl (ready refl tt tt tt) refl (eqb-false 513 1 refl);
    }

-- of every link, with a payload of one octet; and of every frame outside the window
pub always_shown : AlwaysShown
always_shown = record {
  each_link = λ sender_key receiver_key iov sapi direction sender-valid receiver-valid same service way.
      shown sender_key iov sapi direction sender-valid service way (7 ∷ []) (lit≤ tt) (lit≤ tt) receiver_key receiver-valid same;
  outside = outside;
}

-- and of one link in particular: the sender is handed a key of 8 octets, the receiver that key doubled
abbrev eight : List ℕ
eight = 1 ∷ 2 ∷ 3 ∷ 4 ∷ 5 ∷ 6 ∷ 7 ∷ 8 ∷ []

pub shown_once : Shown eight (eight ++ eight) 0x01234567 3 0
unfolding is_key prepared is_service is_direction
shown_once = always_shown.each_link eight (eight ++ eight) 0x01234567 3 0 refl refl refl refl refl
