-- The refusals of the link's calls in the paper's words: 12 of every call that is given an end or a form of one; 9, 10, 11 and 4 of opening, for every width up to 512. Assumes nothing.
use Prim.Native.Nat.{ℕ, zero, suc, ◌≤◌, ◌<◌}
use native.Mathlib.Omega.{arith}
use mathlib.Core.Path.{◌≡◌, refl, sym, ap, subst, ◌∙◌}
use mathlib.Core.Logic.{◌↔◌, ◌⊎◌, inl, inr}
use mathlib.Core.Bool.{Bool, true, false, not, true≢false}
use mathlib.Core.List.{List, [], ◌∷◌, ◌++◌}
use borrow.Author.Tests.{ltb-true, lt-ltb, leb-false, lt-leb, not-true, not-false}
use lib.Dec.{lit<}
use lib.ListN.{length}
use Rattle.refusals.specs.Refusal.{Row, first, row_at, FirstAt, ThenAndOnlyThen}
use Rattle.refusals.specs.Call.{Answered, handed_out}
use Rattle.refusals.proofs.Laws.{then_and_only_then}
use Rattle.refusals.proofs.Calls.{determined, head_is}
use Rattle.refusals.proofs.Tests.{by-test}
use Rattle.numbering.specs.Numbering.{end, Candidate, candidate, is_below0, is_past_end, is_accepted, candidate_order}
use Rattle.numbering.proofs.Candidate.{by_the_paper}
use Rattle.frames.specs.Frame.{AreOctets, header_of, payload_of, look_order}
use Rattle.frames.proofs.ReadBack.{header_of_range}
use Rattle.sender.specs.Sender.{sender_can_arise, reserve_order, reserve_call, seal_order, seal_call}
use Rattle.sender.proofs.Causes.{sender_cannot_arise_iff}
use Rattle.receiver.specs.declared.Receiver.{Receiver}
use Rattle.receiver.specs.Receiver.{Opening, receiver_can_arise, candidate_of, open_order, open_call}
use Rattle.receiver.proofs.Causes.{receiver_cannot_arise_iff}
use Rattle.stored.specs.Form.{form_order}
use Rattle.stored.specs.Ends.{sender_in, receiver_in, store_sender_order, store_sender_call, restore_sender_order, restore_sender_call, store_receiver_order, store_receiver_call, restore_receiver_order, restore_receiver_call}
use Rattle.stored.proofs.Arising.{sender_arises_iff, receiver_arises_iff}
use Rattle.promises.specs.ByTheRule.{IsNumbered, IsNumberedAs, StateRefusal, OpenRefusals}

both_ways : {A B C : Type 0} → A ↔ B → B ↔ C → A ↔ C
both_ways one two = ((λ a. two.0 (one.0 a)), (λ c. one.1 (two.1 c)))

-- ---- 12, of both ends

-- the first row of an order is the first that holds where it holds
first_cause : (good : Bool) (rest : List Row) {refusal : ℕ} → ThenAndOnlyThen (record { number = 12; holds = not good } ∷ rest) refusal → (refusal ≡ 12) ↔ (good ≡ false)
unfolding row_at
first_cause good rest exactly =
    both_ways (exactly.each 0 (omega arith))
    ((λ at. not-true good at.here), (λ bad. record { here = rw bad; none_before = λ j below. absurd (omega arith) }))

-- of an end that either can arise or cannot, and arises where it can
never_arises : {Cannot Arises : Type 0} (can : Bool) → (can ≡ false) ↔ Cannot → (can ≡ true) ↔ Arises → Cannot ↔ (Arises → ⊥)
never_arises {Cannot} can cannot arises = (
  (λ is does. true≢false (sym (arises.1 does) ∙ cannot.1 is)),
  (λ never. by-test can Cannot (λ good. absurd (never (arises.0 good))) (λ bad. cannot.0 bad)),
)

-- the last row of restoring is the first that holds where the form is one and the end that it says cannot arise
last_cause : (words : ℕ) (octets : List ℕ) (can : Bool) {refusal : ℕ} → ThenAndOnlyThen (form_order 1 words octets ++ (record { number = 12; holds = not can } ∷ [])) refusal
    → (refusal ≡ 12) ↔ ((first (form_order 1 words octets) ≡ 0) × (can ≡ false))
unfolding form_order row_at first
last_cause words octets can exactly =
    both_ways (exactly.each 2 (lit< tt)) (
      (λ at. (simp (at.none_before 0 (lit< tt), at.none_before 1 (lit< tt)), not-true can at.here)),
      (λ says. record { here = rw says.1; none_before = none_before says.0 }),
    )
  where
    rows : first (form_order 1 words octets) ≡ 0 → (k : ℕ) → (row_at (form_order 1 words octets) k).holds ≡ false
    rows nothing = (then_and_only_then (form_order 1 words octets) tt 0 (sym nothing)).none.0 refl

    none_before : first (form_order 1 words octets) ≡ 0 → (k : ℕ) → k < 2 → (row_at (form_order 1 words octets ++ (record { number = 12; holds = not can } ∷ [])) k).holds ≡ false
    none_before nothing zero below = rows nothing 0
    none_before nothing (suc zero) below = rows nothing 1
    none_before nothing (suc (suc k)) below = absurd (omega arith)

-- and in the table's words
cannot_of : {A B C : Type 0} → B ↔ C → (A × B) ↔ (A × C)
cannot_of iff = ((λ both. (both.0, iff.0 both.1)), (λ both. (both.0, iff.1 both.1)))

pub state_refusal : (w : ℕ) → 0 < w → StateRefusal w
unfolding seal_order open_order look_order candidate_order reserve_order store_sender_order store_receiver_order restore_sender_order restore_receiver_order form_order
state_refusal w wide = record {
  sealing = λ sender payload before answered.
      both_ways (first_cause (sender_can_arise sender) _ ((determined (seal_call sender payload before) tt).refuses answered)) (sender_cannot_arise_iff sender);
  opening = λ receiver octets before answered.
      both_ways (first_cause (receiver_can_arise w receiver) _ ((determined (open_call w receiver octets before) tt).refuses answered)) (receiver_cannot_arise_iff w receiver);
  telling = λ sender reserved answered.
      both_ways (first_cause (sender_can_arise sender) _ ((determined (reserve_call sender reserved) tt).refuses answered)) (sender_cannot_arise_iff sender);
  storing_sender = λ sender reserved before answered.
      both_ways (first_cause (sender_can_arise sender) _ ((determined (store_sender_call sender reserved before) tt).refuses answered)) (sender_cannot_arise_iff sender);
  storing_receiver = λ receiver before answered.
      both_ways (first_cause (receiver_can_arise w receiver) _ ((determined (store_receiver_call w receiver before) tt).refuses answered)) (receiver_cannot_arise_iff w receiver);
  restoring_sender = λ octets answered.
      both_ways (last_cause 1 octets (sender_can_arise (sender_in octets)) ((determined (restore_sender_call octets) tt).refuses answered)) (cannot_of (sender_cannot_arise_iff (sender_in octets)));
  restoring_receiver = λ octets answered.
      both_ways (last_cause 2 octets (receiver_can_arise w (receiver_in octets)) ((determined (restore_receiver_call w octets) tt).refuses answered))
      (cannot_of (receiver_cannot_arise_iff w (receiver_in octets)));
  senders = λ sender sixteen. never_arises (sender_can_arise sender) (sender_cannot_arise_iff sender) (sender_arises_iff sender sixteen);
  receivers = λ narrow receiver sixteen.
      never_arises (receiver_can_arise w receiver) (receiver_cannot_arise_iff w receiver) (receiver_arises_iff w wide narrow receiver sixteen);
}

-- ---- the rows of opening a frame

module _ (w : ℕ) (narrow : w ≤ 512) (receiver : Receiver) (octets before : List ℕ) (each : AreOctets octets) where
  -- the order of opening, the next number V, and N on the air
  abbrev rows : List Row
  rows = open_order w receiver octets before

  abbrev v : ℕ
  v = receiver.numbering.next

  abbrev N : ℕ
  N = (header_of octets).sent

  -- the first five rows do not hold exactly where the frame comes to be numbered
  numbered : ((k : ℕ) → k < 5 → (row_at rows k).holds ≡ false) → IsNumbered w receiver octets
  unfolding open_order look_order row_at first
  numbered passed = record {
    can_arise_lem = not-false _ (passed 0 (lit< tt));
    passes_look = simp (passed 1 (lit< tt), passed 2 (lit< tt), passed 3 (lit< tt));
    of_link = not-false _ (passed 4 (lit< tt));
  }

  look_rows : first (look_order octets) ≡ 0 → (k : ℕ) → (row_at (look_order octets) k).holds ≡ false
  unfolding look_order
  look_rows nothing = (then_and_only_then (look_order octets) tt 0 (sym nothing)).none.0 refl

  passed_five : IsNumbered w receiver octets → (k : ℕ) → k < 5 → (row_at rows k).holds ≡ false
  unfolding open_order look_order row_at
  passed_five is zero below = rw is.can_arise_lem
  passed_five is (suc zero) below = look_rows is.passes_look 0
  passed_five is (suc (suc zero)) below = look_rows is.passes_look 1
  passed_five is (suc (suc (suc zero))) below = look_rows is.passes_look 2
  passed_five is (suc (suc (suc (suc zero)))) below = rw is.of_link
  passed_five is (suc (suc (suc (suc (suc k))))) below = absurd (omega arith)

  module _ (is : IsNumbered w receiver octets) where
    sent : N < 512
    sent = omega (arith, (header_of_range octets each is.passes_look).sent_most)

    -- the candidate, where the paper has one
    found : (n : ℕ) → Candidate w v N n → (is_below0 w v N ≡ false) × (n ≡ candidate_of w receiver octets)
    unfolding candidate_of
    found n is_candidate =
        by-test (is_below0 w v N) ((is_below0 w v N ≡ false) × (n ≡ candidate w v N))
        (λ below. absurd (((by_the_paper w narrow).start_is v N sent).0 below n is_candidate))
        (λ started. (started, ((by_the_paper w narrow).candidate_is v N n sent started).0 is_candidate))

    candidate_is : is_below0 w v N ≡ false → Candidate w v N (candidate_of w receiver octets)
    unfolding candidate_of
    candidate_is started = ((by_the_paper w narrow).candidate_is v N (candidate w v N) sent started).1 refl

  -- rows 5 to 8
  start_at : FirstAt rows 5 ↔ (IsNumbered w receiver octets × ((n : ℕ) → Candidate w v N n → ⊥))
  unfolding open_order look_order candidate_order row_at
  start_at = (
    (λ at.
        let is = numbered (λ k below. at.none_before k below) in
        (is, ((by_the_paper w narrow).start_is v N (sent is)).0 at.here)),
    (λ says. record {
      here = ((by_the_paper w narrow).start_is v N (sent says.0)).1 says.1;
      none_before = passed_five says.0;
    }),
  )

  -- the candidate is below 2^27
  pub as_numbered : ((k : ℕ) → k < 7 → (row_at rows k).holds ≡ false) → IsNumberedAs w receiver octets (candidate_of w receiver octets)
  unfolding open_order look_order candidate_order row_at candidate_of is_past_end
  as_numbered passed =
      let is = numbered (λ k below. passed k (omega arith)) in
      record { numbered = is; is_candidate = candidate_is is (passed 5 (lit< tt)); before_end = leb-false _ _ (passed 6 (lit< tt)) }

  passed_seven : (n : ℕ) → IsNumberedAs w receiver octets n → (k : ℕ) → k < 7 → (row_at rows k).holds ≡ false
  unfolding open_order look_order candidate_order row_at candidate_of is_past_end
  passed_seven n its zero below = passed_five its.numbered 0 (lit< tt)
  passed_seven n its (suc zero) below = passed_five its.numbered 1 (lit< tt)
  passed_seven n its (suc (suc zero)) below = passed_five its.numbered 2 (lit< tt)
  passed_seven n its (suc (suc (suc zero))) below = passed_five its.numbered 3 (lit< tt)
  passed_seven n its (suc (suc (suc (suc zero)))) below = passed_five its.numbered 4 (lit< tt)
  passed_seven n its (suc (suc (suc (suc (suc zero))))) below = (found its.numbered n its.is_candidate).0
  passed_seven n its (suc (suc (suc (suc (suc (suc zero)))))) below =
      lt-leb end _ (subst (λ (m : ℕ). m < end) (found its.numbered n its.is_candidate).1 its.before_end)
  passed_seven n its (suc (suc (suc (suc (suc (suc (suc k))))))) below = absurd (omega arith)

  end_at : FirstAt rows 6 ↔ (IsNumbered w receiver octets × ((n : ℕ) × Candidate w v N n × (end ≤ n)))
  unfolding open_order look_order candidate_order row_at
  end_at = (
    (λ at.
        let is = numbered (λ k below. at.none_before k (omega arith)) in
        (is, ((by_the_paper w narrow).end_is v N (sent is)).0 at.here)),
    (λ says. record {
      here = ((by_the_paper w narrow).end_is v N (sent says.0)).1 says.1;
      none_before = before_six says.0 (found says.0 says.1.0 says.1.1).0;
    }),
  )
    where
      before_six : IsNumbered w receiver octets → is_below0 w v N ≡ false → (k : ℕ) → k < 6 → (row_at rows k).holds ≡ false
      before_six is started zero below = passed_five is 0 (lit< tt)
      before_six is started (suc zero) below = passed_five is 1 (lit< tt)
      before_six is started (suc (suc zero)) below = passed_five is 2 (lit< tt)
      before_six is started (suc (suc (suc zero))) below = passed_five is 3 (lit< tt)
      before_six is started (suc (suc (suc (suc zero)))) below = passed_five is 4 (lit< tt)
      before_six is started (suc (suc (suc (suc (suc zero))))) below = started
      before_six is started (suc (suc (suc (suc (suc (suc k)))))) below = absurd (omega arith)

  repeat_at : FirstAt rows 7 ↔ ((n : ℕ) × IsNumberedAs w receiver octets n × (is_accepted receiver.numbering n ≡ true))
  unfolding open_order look_order candidate_order row_at candidate_of
  repeat_at = (
    (λ at. (candidate_of w receiver octets, as_numbered (λ k below. at.none_before k below), at.here)),
    (λ says. record {
      here = subst (λ (m : ℕ). is_accepted receiver.numbering m ≡ true) (found says.1.numbered says.0 says.1.is_candidate).1 says.2;
      none_before = passed_seven says.0 says.1;
    }),
  )

  room_at : FirstAt rows 8 ↔ ((n : ℕ) × IsNumberedAs w receiver octets n × (is_accepted receiver.numbering n ≡ false) × (length before < length (payload_of octets)))
  unfolding open_order look_order candidate_order row_at candidate_of
  room_at = (
    (λ at. (candidate_of w receiver octets, as_numbered (λ k below. at.none_before k (omega arith)), at.none_before 7 (lit< tt), ltb-true _ _ at.here)),
    (λ says. record {
      here = lt-ltb _ _ says.3;
      none_before = before_eight says.0 says.1
          (subst (λ (m : ℕ). is_accepted receiver.numbering m ≡ false) (found says.1.numbered says.0 says.1.is_candidate).1 says.2);
    }),
  )
    where
      before_eight : (n : ℕ) → IsNumberedAs w receiver octets n → is_accepted receiver.numbering (candidate_of w receiver octets) ≡ false → (k : ℕ) → k < 8 → (row_at rows k).holds ≡ false
      before_eight n its anew zero below = passed_seven n its 0 (lit< tt)
      before_eight n its anew (suc zero) below = passed_seven n its 1 (lit< tt)
      before_eight n its anew (suc (suc zero)) below = passed_seven n its 2 (lit< tt)
      before_eight n its anew (suc (suc (suc zero))) below = passed_seven n its 3 (lit< tt)
      before_eight n its anew (suc (suc (suc (suc zero)))) below = passed_seven n its 4 (lit< tt)
      before_eight n its anew (suc (suc (suc (suc (suc zero))))) below = passed_seven n its 5 (lit< tt)
      before_eight n its anew (suc (suc (suc (suc (suc (suc zero)))))) below = passed_seven n its 6 (lit< tt)
      before_eight n its anew (suc (suc (suc (suc (suc (suc (suc zero))))))) below = anew
      before_eight n its anew (suc (suc (suc (suc (suc (suc (suc (suc k)))))))) below = absurd (omega arith)

-- ---- 9, 10, 11 and 4 of opening

module _ (w : ℕ) (narrow : w ≤ 512) (receiver : Receiver) (octets before : List ℕ) (each : AreOctets octets) {refusal number size : ℕ} {lent : Opening}
    (answered : Answered (open_call w receiver octets before) refusal (number ∷ size ∷ []) lent) where
  exactly : ThenAndOnlyThen (open_order w receiver octets before) refusal
  unfolding open_order look_order candidate_order
  exactly = (determined (open_call w receiver octets before) tt).refuses answered

  pub open_refusals : OpenRefusals w receiver octets before refusal number
  unfolding open_order look_order candidate_order row_at
  open_refusals = record {
    start_when = both_ways (exactly.each 5 (lit< tt)) (start_at w narrow receiver octets before each);
    end_when = both_ways (exactly.each 6 (lit< tt)) (end_at w narrow receiver octets before each);
    repeat_when = both_ways (exactly.each 7 (lit< tt)) (repeat_at w narrow receiver octets before each);
    room_when = both_ways (exactly.each 8 (lit< tt)) (room_at w narrow receiver octets before each);
    given = given;
  }
    where
      shown : (n : ℕ) → IsNumberedAs w receiver octets n → number ≡ candidate_of w receiver octets → Candidate w receiver.numbering.next (header_of octets).sent number
      shown n its is =
          subst (Candidate w receiver.numbering.next (header_of octets).sent)
          ((found w narrow receiver octets before each its.numbered n its.is_candidate).1 ∙ sym is) its.is_candidate

      given : (refusal ≡ 11) ⊎ (refusal ≡ 4) → Candidate w receiver.numbering.next (header_of octets).sent number
      given (inl eleven) =
          let says = (both_ways (exactly.each 7 (lit< tt)) (repeat_at w narrow receiver octets before each)).0 eleven in
          shown says.0 says.1 (head_is (answered.numbers_are ∙ ap (handed_out (open_call w receiver octets before)) eleven))
      given (inr four) =
          let says = (both_ways (exactly.each 8 (lit< tt)) (room_at w narrow receiver octets before each)).0 four in
          shown says.0 says.1 (head_is (answered.numbers_are ∙ ap (handed_out (open_call w receiver octets before)) four))
