-- Refusal 12 is given for exactly the ends that cannot arise. Each sender that passes arises: it is opened, told number by number and sealed up to its next
-- number, and then told its reservation. Each receiver that passes arises, by opening it and the frames that its numbering accepted, for each width from
-- 1 to 256. And what was stored and restored can arise, as every other end that arises.
-- Assumes nothing.
use Prim.Native.Nat.{ℕ, zero, suc, ◌+◌, ◌≤◌, ◌<◌}
use native.Mathlib.Omega.{arith}
use native.Mathlib.Numerals.{add-one}
use mathlib.Core.Path.{◌≡◌, refl, sym, ap, subst, ◌∙◌}
use mathlib.Core.Logic.{◌↔◌}
use mathlib.Core.Bool.{true, false}
use mathlib.Core.List.{List, [], ◌∷◌}
use borrow.Author.Tests.{eq-eqb, leb-false, not-false}
use lib.Dec.{lit<, lit≤}
use lib.ListN.{length, replicate}
use Rattle.refusals.specs.Refusal.{first, row_at}
use Rattle.refusals.specs.Call.{Answered}
use Rattle.refusals.proofs.Calls.{done, determined}
use Rattle.keystreams.proofs.Keys.{whole_is_key, prepared_whole}
use Rattle.frames.specs.declared.Header.{Header}
use Rattle.frames.specs.Frame.{AreOctets, frame, header_of, payload_of, look_order}
use Rattle.frames.proofs.Tests.{InRange}
use Rattle.frames.proofs.ReadBack.{header_of_frame, payload_of_frame, frame_looked, frame_octets, header_of_range}
use Rattle.numbering.specs.declared.Numbering.{Numbering}
use Rattle.numbering.specs.Numbering.{end, start, can_arise, InWindow, is_past_end, accepted, candidate, candidate_order, number_call, Arises, at_start, by_step}
use Rattle.numbering.proofs.Arising.{can_arise_iff, accepted_can_arise}
use Rattle.numbering.proofs.Candidate.{in_window}
use Rattle.numbering.proofs.Step.{Passed, step_passed, candidate_decides}
use Rattle.link.specs.declared.Link.{Link}
use Rattle.link.specs.Link.{link_can_arise, link_order, link_of}
use Rattle.link.proofs.Links.{link_says, service_most, direction_most}
use Rattle.sender.specs.declared.Sender.{Sender}
use Rattle.sender.specs.Sender.{sender_of, new_sender, after_frame, with_reservation, open_sender_call, sender_can_arise, reserve_call, seal_call}
use Rattle.sender.proofs.Sealing.{sender_says, says_sender, seal_0}
use Rattle.sender.proofs.Laws as sender-laws
use Rattle.receiver.specs.declared.Receiver.{Receiver}
use Rattle.receiver.specs.Receiver.{receiver_of, new_receiver, after_accepting, Opening, open_receiver_call, receiver_can_arise, is_of_link, candidate_of, open_order, open_call}
use Rattle.receiver.proofs.Opening.{receiver_says, open_0}
use Rattle.receiver.proofs.Laws as receiver-laws
use Rattle.stored.specs.Arising.{SenderArises, ReceiverArises}
use Rattle.stored.proofs.Senders.{restore_sender_done}
use Rattle.stored.proofs.Receivers.{restore_receiver_done}

-- a link of 16 octets that can arise is opened by itself
module _ (link : Link) (good : link_can_arise link ≡ true) (sixteen : length link.key ≡ 16) where
  whole : link_of link.key link.iov link.sapi link.direction ≡ link
  unfolding link_of
  whole = λ i. record { key = prepared_whole link.key sixteen i; iov = link.iov; sapi = link.sapi; direction = link.direction }

  opens : first (link_order link.key link.sapi link.direction) ≡ 0
  unfolding first link_order link_can_arise
  opens = simp (whole_is_key link.key sixteen, good)

-- ---- senders

module _ (link : Link) (good : link_can_arise link ≡ true) (sixteen : length link.key ≡ 16) where
  first_sender : SenderArises (sender_of link 0 0)
  unfolding new_sender
  first_sender =
      subst (λ (l : Link). SenderArises (new_sender l)) (whole link good sixteen)
      (SenderArises.opened link.key link.iov link.sapi link.direction
      (done (open_sender_call link.key link.iov link.sapi link.direction) (opens link good sixteen)))

  -- a sender of this link with a reservation that it may have
  can : (next reserved : ℕ) → reserved ≤ end → next ≤ reserved → reserved ≤ next + 64 → sender_can_arise (sender_of link next reserved) ≡ true
  can next reserved before_end within near = says_sender (sender_of link next reserved) (record { link_can = good; before_end = before_end; within = within; near = near })

  -- it is told a higher one
  tell : (next now later : ℕ) → next ≤ now → now ≤ later → later ≤ next + 64 → later ≤ end → SenderArises (sender_of link next now) → SenderArises (sender_of link next later)
  unfolding with_reservation
  tell next now later within higher near before_end arises =
      SenderArises.told later arises
      (done (reserve_call (sender_of link next now) later)
      (sender-laws.reserve_0 (sender_of link next now) later (can next now (omega arith) within (omega arith))
      (sender-laws.says_reservation (sender_of link next now) later higher near before_end)))

  -- and seals a number that is below its reservation
  seal : (next reserved : ℕ) → next < reserved → reserved ≤ next + 64 → reserved ≤ end → SenderArises (sender_of link next reserved) → SenderArises (sender_of link (next + 1) reserved)
  unfolding after_frame
  seal next reserved below near before_end arises =
      SenderArises.sealed (0 ∷ []) (replicate 7 0) arises
      (done (seal_call (sender_of link next reserved) (0 ∷ []) (replicate 7 0))
      (seal_0 (sender_of link next reserved) (0 ∷ []) (replicate 7 0) (can next reserved before_end (omega arith) near) (λ empty. omega arith) (omega arith) (λ last. omega arith) below (omega arith)))

  -- so every number up to 2^27 is reached
  each_number : (next : ℕ) → next ≤ end → SenderArises (sender_of link next next)
  each_number zero within = first_sender
  each_number (suc next) within =
      subst (λ (n : ℕ). SenderArises (sender_of link n n)) (add-one next)
      (seal next (next + 1) (omega arith) (omega arith) (omega arith)
      (tell next next (next + 1) (omega arith) (omega arith) (omega arith) (omega arith) (each_number next (omega arith))))

  each_sender : (next reserved : ℕ) → next ≤ reserved → reserved ≤ next + 64 → reserved ≤ end → SenderArises (sender_of link next reserved)
  each_sender next reserved within near before_end = tell next next reserved (omega arith) within near before_end (each_number next (omega arith))

-- and a sender that arises can
pub sender_arises_can : {sender : Sender} → SenderArises sender → sender_can_arise sender ≡ true
sender_arises_can (SenderArises.opened key iov sapi direction answered) = sender-laws.opened_can_arise key iov sapi direction answered
sender_arises_can (SenderArises.sealed payload before {sender} arises answered) = sender-laws.sealed_can_arise (sender-laws.seal_done sender payload before answered)
sender_arises_can (SenderArises.told reserved {sender} arises answered) = sender-laws.told_can_arise (sender-laws.reserve_done sender reserved answered)
sender_arises_can (SenderArises.restored reserved before arises stored answered) = (restore_sender_done _ answered).good

-- of all senders whose key has the 16 octets of its type
pub sender_arises_iff : (sender : Sender) → length sender.link.key ≡ 16 → (sender_can_arise sender ≡ true) ↔ SenderArises sender
sender_arises_iff sender sixteen = (
  (λ good.
      let says = sender_says sender good in
      each_sender sender.link says.link_can sixteen sender.next sender.reserved says.within says.near says.before_end),
  sender_arises_can,
)

-- ---- receivers

-- what opening a frame leaves of a receiver can arise
module _ (w : ℕ) (wide : 0 < w) (narrow : w ≤ 512) (receiver : Receiver) (octets before : List ℕ) (each : AreOctets octets) {number size : ℕ} {later : Receiver} {after : List ℕ}
    (answered : Answered (open_call w receiver octets before) 0 (number ∷ size ∷ []) (record { receiver = later; output = after })) where
  row : (k : ℕ) → (row_at (open_order w receiver octets before) k).holds ≡ false
  unfolding open_order look_order candidate_order
  row = ((determined (open_call w receiver octets before) tt).refuses answered).none.0 refl

  said : (link_can_arise receiver.link ≡ true) × (can_arise w receiver.numbering ≡ true)
  unfolding open_order row_at
  said = receiver_says w receiver (not-false _ (row 0))

  framed : first (look_order octets) ≡ 0
  unfolding open_order look_order candidate_order row_at first
  framed = simp (row 1, row 2, row 3)

  accepting : receiver_can_arise w later ≡ true
  unfolding open_order look_order candidate_order row_at candidate_of receiver_can_arise after_accepting is_past_end
  accepting =
      let sent : (header_of octets).sent < 512 = omega (arith, (header_of_range octets each framed).sent_most) in
      let n : ℕ = candidate_of w receiver octets in
      let inside : InWindow w receiver.numbering.next n = in_window w narrow receiver.numbering.next (header_of octets).sent sent (row 5) in
      ap (λ (lent : Opening). receiver_can_arise w lent.receiver) answered.lent_is
      ∙ simp (said.0, accepted_can_arise w wide receiver.numbering said.1 n inside (leb-false _ _ (row 6)))

zero_each : AreOctets (0 ∷ [])
zero_each zero = lit< tt
zero_each (suc i) = lit< tt

module _ (w : ℕ) (link : Link) (good : link_can_arise link ≡ true) (sixteen : length link.key ≡ 16) where
  first_receiver : ReceiverArises w (receiver_of link start)
  unfolding new_receiver
  first_receiver =
      subst (λ (l : Link). ReceiverArises w (new_receiver l)) (whole link good sixteen)
      (ReceiverArises.opened link.key link.iov link.sapi link.direction
      (done (open_receiver_call link.key link.iov link.sapi link.direction) (opens link good sixteen)))

  -- a frame of one octet of this link, with N on the air
  heading : ℕ → Header
  heading N = record { sapi = link.sapi; direction = link.direction; sent = N }

  one_octet : ℕ → List ℕ
  one_octet N = frame (heading N) (0 ∷ [])

  module _ (N : ℕ) (sent : N < 512) where
    range : InRange (heading N)
    unfolding heading
    range =
        let says = link_says link good in
        record { sapi_most = service_most link.sapi says.0; direction_most = direction_most link.direction says.1; sent_most = omega arith }

    header_is : header_of (one_octet N) ≡ heading N
    unfolding one_octet
    header_is = header_of_frame (heading N) (0 ∷ []) range

    ours : is_of_link link (one_octet N) ≡ true
    unfolding is_of_link heading
    ours = rw header_is (simp (eq-eqb link.sapi link.sapi refl, eq-eqb link.direction link.direction refl))

    sent_is : (header_of (one_octet N)).sent ≡ N
    unfolding heading
    sent_is = ap (λ (h : _). h.sent) header_is

    nothing : first (look_order (one_octet N)) ≡ 0
    unfolding one_octet
    nothing = frame_looked (heading N) (0 ∷ []) range (lit≤ tt) (lit≤ tt)

    octets_each : AreOctets (one_octet N)
    unfolding one_octet
    octets_each = frame_octets (heading N) (0 ∷ []) range (lit≤ tt) zero_each

    room : length (payload_of (one_octet N)) ≤ 1
    unfolding one_octet
    room = omega (arith, ap length (payload_of_frame (heading N) (0 ∷ [])))

  -- what a step of the numbering accepts, a receiver accepts by such a frame
  module _ {state after : Numbering} (N : ℕ) {numbers : List ℕ} (step : Answered (number_call w state N) 0 numbers after) where
    passed : Passed w state N
    passed = step_passed w state N step

    fit : receiver_can_arise w (receiver_of link state) ≡ true
    unfolding receiver_can_arise
    fit = simp (good, passed.can)

    sent : (header_of (one_octet N)).sent ≡ N
    sent = sent_is N passed.sent

    numbered : first (candidate_order w state (header_of (one_octet N)).sent) ≡ 0
    numbered =
        ap (λ (n : ℕ). first (candidate_order w state n)) sent
        ∙ sym (candidate_decides w state N passed.can (omega (arith, passed.sent)))
        ∙ sym step.refusal_is

    after_is : accepted w state (candidate_of w (receiver_of link state) (one_octet N)) ≡ after
    unfolding candidate_of
    after_is = ap (λ (n : ℕ). accepted w state (candidate w state.next n)) sent ∙ sym step.lent_is

    next_arises : ReceiverArises w (receiver_of link state) → ReceiverArises w (receiver_of link after)
    unfolding after_accepting
    next_arises before =
        subst (λ (n : Numbering). ReceiverArises w (receiver_of link n)) after_is
        (ReceiverArises.accepted_frame (one_octet N) (0 ∷ []) (octets_each N passed.sent) before
        (done (open_call w (receiver_of link state) (one_octet N) (0 ∷ []))
        (open_0 w (receiver_of link state) (one_octet N) (0 ∷ []) fit (nothing N passed.sent) (ours N passed.sent) numbered (room N passed.sent))))

  each_receiver : {numbering : Numbering} → Arises w numbering → ReceiverArises w (receiver_of link numbering)
  each_receiver at_start = first_receiver
  each_receiver (by_step N before step) = next_arises N step (each_receiver before)

-- and a receiver that arises can
pub receiver_arises_can : (w : ℕ) → 0 < w → w ≤ 512 → {receiver : Receiver} → ReceiverArises w receiver → receiver_can_arise w receiver ≡ true
receiver_arises_can w wide narrow (ReceiverArises.opened key iov sapi direction answered) = receiver-laws.opened_can_arise key iov sapi direction answered w
receiver_arises_can w wide narrow (ReceiverArises.accepted_frame octets before {receiver} each arises answered) = accepting w wide narrow receiver octets before each answered
receiver_arises_can w wide narrow (ReceiverArises.restored before arises stored answered) = (restore_receiver_done w _ answered).good

-- of all receivers whose key has the 16 octets of its type
pub receiver_arises_iff : (w : ℕ) → 0 < w → w ≤ 256 → (receiver : Receiver) → length receiver.link.key ≡ 16 → (receiver_can_arise w receiver ≡ true) ↔ ReceiverArises w receiver
receiver_arises_iff w wide narrow receiver sixteen = (
  (λ good.
      let says = receiver_says w receiver good in
      each_receiver w receiver.link says.0 sixteen ((can_arise_iff w wide narrow receiver.numbering).0 says.1)),
  receiver_arises_can w wide (omega arith),
)
