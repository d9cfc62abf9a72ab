-- What opening a frame answers, cause by cause, for every width.
-- Assumes nothing.
use Prim.Native.Nat.{ℕ, ◌≤◌, ◌<◌}
use mathlib.Core.Path.{◌≡◌, refl, sym, ◌∙◌}
use mathlib.Core.Bool.{Bool, true, false, cond, not, ◌||◌, and-eq-true_iff}
use mathlib.Core.List.{List, [], ◌∷◌, ◌++◌}
use borrow.Author.Tests.{eq-eqb, ne_eqb, lt-ltb, le-ltb}
use lib.Dec.{eqb, ltb}
use lib.ListN.{length, get_or}
use Rattle.refusals.specs.Refusal.{Row, first}
use Rattle.refusals.specs.Call.{Answered}
use Rattle.refusals.proofs.Laws.{first_append}
use Rattle.refusals.proofs.Calls.{answered_done, refused_zeros, head_is}
use Rattle.frames.specs.Frame.{header_of, payload_of, is_whole, has_zero_bits, look_order}
use Rattle.numbering.specs.declared.Numbering.{Numbering}
use Rattle.numbering.specs.Numbering.{can_arise, is_accepted, is_below0, is_past_end, accepted, candidate, candidate_order, number_call}
use Rattle.numbering.proofs.Step.{candidate_decides}
use Rattle.link.specs.Link.{link_can_arise}
use Rattle.receiver.specs.declared.Receiver.{Receiver}
use Rattle.receiver.specs.Receiver.{receiver_can_arise, is_of_link, candidate_of, open_order}

-- the refusals with which a frame's number is given
abbrev pub gives_number : ℕ → Bool
gives_number refusal = eqb refusal 11 || eqb refusal 4

-- what holds of each number of three rows, and of 0, holds of the first of them that holds
three : (P : ℕ → Type 0) (a b c : Bool) (x y z : ℕ) → P x → P y → P z → P 0 → P (cond a x (cond b y (cond c z 0)))
three P true b c x y z px py pz p0 = px
three P false true c x y z px py pz p0 = py
three P false false true x y z px py pz p0 = pz
three P false false false x y z px py pz p0 = p0

-- no look's refusal gives a number
pub look_gives_none : (octets : List ℕ) → gives_number (first (look_order octets)) ≡ false
unfolding first look_order
look_gives_none octets =
    three (λ (r : ℕ). gives_number r ≡ false)
    (not (is_whole octets)) (not (eqb (get_or octets 2 0) 1)) (not (has_zero_bits octets)) 5 6 7
    refl refl refl refl

-- a step's refusals give the number as a frame's do
pub step_gives : (w : ℕ) (state : Numbering) (N : ℕ) → eqb (first (candidate_order w state N)) 11 ≡ gives_number (first (candidate_order w state N))
unfolding first candidate_order
step_gives w state N =
    three (λ (r : ℕ). eqb r 11 ≡ gives_number r)
    (is_below0 w state.next N) (is_past_end w state.next N) (is_accepted state (candidate w state.next N)) 9 10 11
    refl refl refl refl

-- a receiver that can arise, as facts
pub receiver_says : (w : ℕ) (receiver : Receiver) → receiver_can_arise w receiver ≡ true
    → (link_can_arise receiver.link ≡ true) × (can_arise w receiver.numbering ≡ true)
unfolding receiver_can_arise
receiver_says w receiver good = (and-eq-true_iff _ _).0 good

-- the step of the numbering that a frame's N takes: its refusal is that of the candidate, and its number is given as the frame's is
module _ (w : ℕ) (receiver : Receiver) (octets : List ℕ) (good : receiver_can_arise w receiver ≡ true) (sent_most : (header_of octets).sent ≤ 511) {refusal number : ℕ} {state : Numbering}
    (step : Answered (number_call w receiver.numbering (header_of octets).sent) refusal (number ∷ []) state) where
  pub step_decides : refusal ≡ first (candidate_order w receiver.numbering (header_of octets).sent)
  step_decides = step.refusal_is ∙ candidate_decides w receiver.numbering (header_of octets).sent (receiver_says w receiver good).1 sent_most

  pub step_refused : (refusal ≡ 0 → ⊥) → number ≡ cond (gives_number refusal) (candidate_of w receiver octets) 0
  unfolding candidate_of
  step_refused some =
      let given : eqb refusal 11 ≡ gives_number refusal = rw step_decides (step_gives w receiver.numbering (header_of octets).sent) in
      rw given at (head_is (refused_zeros (number_call w receiver.numbering (header_of octets).sent) step some))

  pub step_done : refusal ≡ 0 → (number ≡ candidate_of w receiver octets) × (state ≡ accepted w receiver.numbering (candidate_of w receiver octets))
  unfolding candidate_of
  step_done none =
      let done = answered_done (number_call w receiver.numbering (header_of octets).sent) step (sym step.refusal_is ∙ none) in
      (head_is done.1, done.2)

-- ---- the answers

-- the rows after those of the candidate, and after those of the look
abbrev after_candidate : List ℕ → List ℕ → List Row
after_candidate octets before = record { number = 4; holds = ltb (length before) (length (payload_of octets)) } ∷ []

abbrev after_look : ℕ → Receiver → List ℕ → List ℕ → List Row
after_look w receiver octets before =
    record { number = 8; holds = not (is_of_link receiver.link octets) } ∷
    (candidate_order w receiver.numbering (header_of octets).sent ++ after_candidate octets before)

module _ (w : ℕ) (receiver : Receiver) (octets before : List ℕ) where
  pub open_12 : receiver_can_arise w receiver ≡ false → first (open_order w receiver octets before) ≡ 12
  unfolding first open_order
  open_12 bad = simp bad

  module _ (good : receiver_can_arise w receiver ≡ true) where
    -- past the first row the look decides, and then the rest
    past_state : first (open_order w receiver octets before)
        ≡ cond (eqb (first (look_order octets)) 0) (first (after_look w receiver octets before)) (first (look_order octets))
    unfolding first open_order look_order
    past_state = simp good (first_append (look_order octets) (after_look w receiver octets before) tt)

    pub open_looked : (first (look_order octets) ≡ 0 → ⊥) → first (open_order w receiver octets before) ≡ first (look_order octets)
    open_looked some = past_state ∙ rw (ne_eqb _ _ some)

    module _ (nothing : first (look_order octets) ≡ 0) where
      pub open_8 : is_of_link receiver.link octets ≡ false → first (open_order w receiver octets before) ≡ 8
      unfolding first
      open_8 other = past_state ∙ simp (eq-eqb _ _ nothing, other)

      module _ (ours : is_of_link receiver.link octets ≡ true) where
        -- past the header the candidate decides, and then the room
        past_header : first (open_order w receiver octets before)
            ≡ cond (eqb (first (candidate_order w receiver.numbering (header_of octets).sent)) 0)
            (cond (ltb (length before) (length (payload_of octets))) 4 0)
            (first (candidate_order w receiver.numbering (header_of octets).sent))
        unfolding first candidate_order
        past_header = past_state ∙ simp (eq-eqb _ _ nothing, ours) (first_append (candidate_order w receiver.numbering (header_of octets).sent) (after_candidate octets before) tt)

        pub open_candidate : (first (candidate_order w receiver.numbering (header_of octets).sent) ≡ 0 → ⊥)
            → first (open_order w receiver octets before) ≡ first (candidate_order w receiver.numbering (header_of octets).sent)
        open_candidate some = past_header ∙ rw (ne_eqb _ _ some)

        module _ (numbered : first (candidate_order w receiver.numbering (header_of octets).sent) ≡ 0) where
          pub open_4 : length before < length (payload_of octets) → first (open_order w receiver octets before) ≡ 4
          open_4 short = past_header ∙ rw (eq-eqb _ _ numbered, lt-ltb _ _ short)

          pub open_0 : length (payload_of octets) ≤ length before → first (open_order w receiver octets before) ≡ 0
          open_0 room = past_header ∙ rw (eq-eqb _ _ numbered, le-ltb _ _ room)
