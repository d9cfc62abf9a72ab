-- The ends of the bench keep the laws that the two halves of promise 3 ask, for every width up to 512. Assumes nothing.
use Prim.Native.Nat.{ℕ, ◌+◌, ◌≤◌, ◌<◌}
use native.Mathlib.Omega.{arith}
use mathlib.Core.Path.{◌≡◌, refl, sym, ap, ap₂, subst, ◌∙◌}
use mathlib.Core.Bool.{true, false}
use mathlib.Core.List.{List, [], ◌∷◌}
use borrow.Author.Tests.{eqb-true, eqb-false}
use lib.Dec.{eqb}
use lib.ListN.{length, take}
use lib.Seq.{take_at}
use Rattle.refusals.specs.Call.{Answered, front}
use Rattle.refusals.proofs.Calls.{one_outcome, answered_done, refused_keeps}
use Rattle.refusals.proofs.Tests.{by-test}
use Rattle.octets.specs.Octets.{AreOctets}
use Rattle.link.specs.Link.{link_can_arise, frame_at}
use Rattle.link.proofs.Frames.{length-frame_at}
use Rattle.sender.specs.declared.Sender.{Sender}
use Rattle.sender.specs.Sender.{after_frame, with_reservation, Sealing, reserve_call, seal_call}
use Rattle.sender.proofs.Laws.{FrameSealed, seal_done}
use Rattle.receiver.specs.declared.Receiver.{Receiver}
use Rattle.receiver.specs.Receiver.{after_accepting, receiver_can_arise, Opening, open_call}
use Rattle.receiver.proofs.Laws.{open_repeat, open_new}
use Rattle.stored.proofs.Receivers.{store_receiver_done, stored_receiver_restored}
use Rattle.numbering.specs.Numbering.{is_accepted, can_arise}
use Rattle.numbering.proofs.Means.{Means}
use Rattle.promises.specs.Ends.{SealCall, OpenCall, SentFrame, frame_sealed, Sends, Told, StoredAndRestored, bench_sending, bench_receiving}
use Rattle.promises.specs.Promise3.{RefusedAsRepeat, SendersHalf}
use Rattle.promises.proofs.Sending.{Sealed, SendingLaws, senders_half}
use Rattle.promises.proofs.ByTheRule.{opened_by_the_rule, moved}
use Rattle.promises.proofs.Receiving.{Arrives, Accepted, Taken, ReceivingLaws, Stands}

-- ---- the sender

module _ {sender later : Sender} (call : SealCall) (seals : bench_sending.Seals sender call later) (zero : call.refusal ≡ 0) where
  pub done : FrameSealed sender call.payload call.before call.number call.size later call.after
  done =
      seal_done sender call.payload call.before
      (subst (λ (r : ℕ). Answered (seal_call sender call.payload call.before) r (call.number ∷ call.size ∷ []) (record { sender = later; output = call.after })) zero seals)

  pub sealed : Sealed frame_at sender.link later.link sender.next later.next call
  unfolding frame_sealed front after_frame
  sealed = record {
    is_frame = record {
      before_end = omega (arith, done.number_is, done.before_end);
      some = done.some;
      most = done.most;
      octets_are =
          ap₂ take done.size_is done.output_is
          ∙ take_at (frame_at sender.link sender.next call.payload) _ (length call.payload + 6) (length-frame_at sender.link sender.next call.payload)
          ∙ ap (λ (n : ℕ). frame_at sender.link n call.payload) (sym done.number_is);
    };
    not_below = omega (arith, done.number_is);
    moved = omega (arith, done.number_is, ap (λ (s : Sender). s.next) done.later_is);
    link_is = ap (λ (s : Sender). s.link) done.later_is;
  }

-- a reservation that is told changes the reservation alone, and one that is refused nothing
module _ {sender later : Sender} (told : Told sender later) where
  pub told_keeps : (later.link ≡ sender.link) × (later.next ≡ sender.next)
  unfolding with_reservation
  told_keeps =
      by-test (eqb told.refusal 0) ((later.link ≡ sender.link) × (later.next ≡ sender.next))
      (λ zero.
      let is = (answered_done (reserve_call sender told.reserved) told.answered (sym told.answered.refusal_is ∙ eqb-true told.refusal 0 zero)).2 in
      (ap (λ (s : Sender). s.link) is, ap (λ (s : Sender). s.next) is))
      (λ other.
      let is = refused_keeps (reserve_call sender told.reserved) told.answered (eqb-false told.refusal 0 other) in
      (ap (λ (s : Sender). s.link) is, ap (λ (s : Sender). s.next) is))

bench_sending_lem : SendingLaws frame_at bench_sending
bench_sending_lem = record {
  next = λ sender. sender.next;
  IsGood = λ sender. Unit {0};
  sealed = λ call good seals zero. (sealed call seals zero, tt);
  refused = λ {state} call seals some. ap (λ (lent : Sealing). lent.sender) (refused_keeps (seal_call state call.payload call.before) seals some);
  stepped = λ good told.
      let kept = told_keeps told in
      (record { not_lower = omega (arith, kept.1); link_is = kept.0 }, tt);
}

-- the sender's half of promise 3, of the bench's sender
pub bench_half : {sender last : Sender} {frames : List SentFrame} → Sends bench_sending sender frames last → SendersHalf frame_at sender.link frames
unfolding bench_sending_lem
bench_half sends = senders_half frame_at bench_sending bench_sending_lem tt sends

-- ---- the receiver

-- a good receiver: its link can arise, and its key has 16 octets
pub record GoodReceiver (receiver : Receiver) : Type 0 where
  pub can_arise_lem : link_can_arise receiver.link ≡ true
  pub sixteen : length receiver.link.key ≡ 16

module _ (w : ℕ) (wide : 0 < w) (narrow : w ≤ 512) where
  module _ {receiver later : Receiver} (frame : SentFrame) (call : OpenCall) (good : GoodReceiver receiver)
      (arrives : Arrives w frame_at receiver.link receiver.numbering frame call) (opens : (bench_receiving w).Opens receiver call later) where
    can : receiver_can_arise w receiver ≡ true
    unfolding receiver_can_arise
    can = simp (good.can_arise_lem, arrives.can_arise_lem)

    -- the frame that was presented is the frame of its number
    its_call : Answered (open_call w receiver (frame_at receiver.link frame.number frame.payload) call.before) call.refusal (call.number ∷ call.size ∷ []) (record { receiver = later; output = call.after })
    its_call =
        subst (λ (o : List ℕ). Answered (open_call w receiver o call.before) call.refusal (call.number ∷ call.size ∷ []) (record { receiver = later; output = call.after }))
        (arrives.presented ∙ arrives.is_frame.octets_are) opens

    -- what it answers is what one answer to it is
    same : {refusal number size : ℕ} {lent : Opening} → Answered (open_call w receiver (frame_at receiver.link frame.number frame.payload) call.before) refusal (number ∷ size ∷ []) lent
        → (call.refusal ≡ refusal) × (call.number ≡ number) × (call.size ≡ size) × (later ≡ lent.receiver) × (call.after ≡ lent.output)
    same answer =
        let both = one_outcome (open_call w receiver (frame_at receiver.link frame.number frame.payload) call.before) its_call answer in
        let numbers = both.1 in
        (both.0, cc, cc, ap (λ (l : Opening). l.receiver) both.2, ap (λ (l : Opening). l.output) both.2)

    taken : is_accepted receiver.numbering frame.number ≡ false → Accepted w (bench_receiving w) (λ r. r.numbering) GoodReceiver frame call receiver later
    unfolding after_accepting
    taken anew =
        let is = same (open_new w narrow receiver can frame.number arrives.in_window arrives.is_frame.before_end frame.payload arrives.is_frame.some arrives.is_frame.most call.before anew arrives.room) in
        record {
          handed_out = record { refusal_is = is.0; number_is = is.1; size_is = is.2; output_is = is.4 };
          numbering_is = ap (λ (r : Receiver). r.numbering) is.3;
          link_is = ap (λ (r : Receiver). r.link) is.3;
          is_good = subst GoodReceiver (sym is.3) (record { can_arise_lem = good.can_arise_lem; sixteen = good.sixteen });
        }

    repeated : is_accepted receiver.numbering frame.number ≡ true → RefusedAsRepeat frame call × (later ≡ receiver)
    repeated marked =
        let is = same (open_repeat w narrow receiver can frame.number arrives.in_window arrives.is_frame.before_end frame.payload arrives.is_frame.some arrives.is_frame.most call.before marked) in
        (record { refusal_is = is.0; number_is = is.1; size_is = is.2; output_is = is.4 }, is.3)

  -- any octets that are opened
  took : {receiver later : Receiver} (call : OpenCall) → GoodReceiver receiver → AreOctets call.presented → (bench_receiving w).Opens receiver call later → call.refusal ≡ 0
      → Taken w (bench_receiving w) (λ r. r.numbering) GoodReceiver call receiver later
  unfolding after_accepting
  took {receiver} {later} call good each opens zero =
      let answered : Answered (open_call w receiver call.presented call.before) 0 (call.number ∷ call.size ∷ []) (record { receiver = later; output = call.after }) =
      subst (λ (r : ℕ). Answered (open_call w receiver call.presented call.before) r (call.number ∷ call.size ∷ []) (record { receiver = later; output = call.after })) zero opens in
      let rule = opened_by_the_rule w wide narrow receiver call.presented call.before each answered in
      let is = moved w wide narrow receiver call.presented call.before each answered in
      record {
        in_window = rule.is_candidate.in_window;
        before_end = rule.before_end;
        numbering_is = ap (λ (r : Receiver). r.numbering) is;
        link_is = rule.link_is;
        is_good = subst GoodReceiver (sym is) (record { can_arise_lem = good.can_arise_lem; sixteen = good.sixteen });
      }

  -- what is stored of a good receiver comes back
  comes_back : {receiver later : Receiver} → GoodReceiver receiver → can_arise w receiver.numbering ≡ true → StoredAndRestored w receiver later → later ≡ receiver
  comes_back {receiver} good can both =
      (stored_receiver_restored (store_receiver_done w receiver both.before both.stored) good.sixteen both.marks_fit both.iov_fits both.restored).1

  pub bench_receiving_lem : ReceivingLaws w frame_at (bench_receiving w)
  bench_receiving_lem = record {
    numbering = λ receiver. receiver.numbering;
    next_is = λ receiver. refl;
    IsGood = GoodReceiver;
    new = λ frame call good arrives opens anew. taken frame call good arrives opens anew;
    repeat = λ frame call good arrives opens marked. repeated frame call good arrives opens marked;
    refused = λ {state} call opens some.
        let kept = refused_keeps (open_call w state call.presented call.before) opens some in
        (ap (λ (l : Opening). l.receiver) kept, ap (λ (l : Opening). l.output) kept);
    opened = λ call good each opens zero. took call good each opens zero;
    restored = λ good can restores. comes_back good can restores;
  }

  -- a good receiver that means what arrived earlier stands on its link
  pub bench_stands : {receiver : Receiver} {earlier : List ℕ} → GoodReceiver receiver → Means w receiver.numbering earlier
      → Stands w wide frame_at (bench_receiving w) bench_receiving_lem receiver.link receiver earlier
  unfolding bench_receiving_lem
  bench_stands good means = record { link_is = refl; is_good = good; means = means }
