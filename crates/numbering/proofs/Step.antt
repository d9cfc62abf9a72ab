-- What a step of the numbering answers, cause by cause, for every width.
-- Assumes nothing.
use Prim.Native.Nat.{ℕ, ◌+◌, ◌-◌, ◌≤◌, ◌<◌}
use native.Mathlib.Omega.{arith}
use mathlib.Core.Path.{◌≡◌, refl, sym, ap, ◌∙◌}
use mathlib.Core.Bool.{true, false}
use mathlib.Core.List.{List}
use borrow.Author.Tests.{le-ltb, lt-ltb, le-leb, lt-leb, ltb-false, not-false}
use lib.Dec.{T}
use Rattle.refusals.specs.Refusal.{first, row_at}
use Rattle.refusals.specs.Call.{Answered}
use Rattle.refusals.proofs.Orders.{is_order}
use Rattle.refusals.proofs.Calls.{determined}
use Rattle.numbering.specs.declared.Numbering.{Numbering}
use Rattle.numbering.specs.Numbering.{end, can_arise, is_accepted, first_from, candidate, is_below0, is_past_end, candidate_order, number_order, number_call}
use Rattle.numbering.proofs.Candidate.{in_window, raised_below, raised_not_below, raised_candidate}

module _ (w : ℕ) (state : Numbering) (N : ℕ) where
  -- the causes of the candidate, one after the other
  pub candidate_9 : is_below0 w state.next N ≡ true → first (candidate_order w state N) ≡ 9
  unfolding first candidate_order
  candidate_9 below = simp below

  module _ (started : is_below0 w state.next N ≡ false) where
    pub candidate_10 : is_past_end w state.next N ≡ true → first (candidate_order w state N) ≡ 10
    unfolding first candidate_order
    candidate_10 past = simp (started, past)

    module _ (ended : is_past_end w state.next N ≡ false) where
      pub candidate_11 : is_accepted state (candidate w state.next N) ≡ true → first (candidate_order w state N) ≡ 11
      unfolding first candidate_order
      candidate_11 again = simp (started, ended, again)

      pub candidate_0 : is_accepted state (candidate w state.next N) ≡ false → first (candidate_order w state N) ≡ 0
      unfolding first candidate_order
      candidate_0 anew = simp (started, ended, anew)

  -- those of a step: of a state that can arise and an N of nine bits the candidate decides
  pub step_12 : can_arise w state ≡ false → first (number_order w state N) ≡ 12
  unfolding first number_order
  step_12 cannot = simp cannot

  module _ (can : can_arise w state ≡ true) where
    pub step_2 : 511 < N → first (number_order w state N) ≡ 2
    unfolding first number_order
    step_2 above = simp (can, lt-ltb _ _ above)

    pub candidate_decides : N ≤ 511 → first (number_order w state N) ≡ first (candidate_order w state N)
    unfolding first number_order
    candidate_decides sent = simp (can, le-ltb _ _ sent)

  -- the order is one, so that both promises hold of the call
  pub number_is_order : T (is_order (number_order w state N))
  unfolding number_order candidate_order
  number_is_order = tt

-- what a step that accepts has passed
pub record Passed (w : ℕ) (state : Numbering) (N : ℕ) : Type 0 where
  pub can : can_arise w state ≡ true
  pub sent : N < 512
  pub started : is_below0 w state.next N ≡ false
  pub ended : is_past_end w state.next N ≡ false
  pub anew : is_accepted state (candidate w state.next N) ≡ false

pub step_passed : (w : ℕ) (state : Numbering) (N : ℕ) {numbers : List ℕ} {after : Numbering} → Answered (number_call w state N) 0 numbers after → Passed w state N
unfolding number_order candidate_order row_at
step_passed w state N call =
    let passed : (k : ℕ) → (row_at (number_order w state N) k).holds ≡ false = ((determined (number_call w state N) (number_is_order w state N)).refuses call).none.0 refl in
    record {
      can = not-false _ (passed 0);
      sent = omega (arith, ltb-false 511 N (passed 1));
      started = passed 2;
      ended = passed 3;
      anew = passed 4;
    }

-- what the code knows of a number n once it has one: the candidate with 512 added is n and 512
pub record Candidated (w : ℕ) (state : Numbering) (N n : ℕ) : Type 0 where
  pub can : can_arise w state ≡ true
  pub sent : N ≤ 511
  pub raised : n + 512 ≡ first_from (state.next + (512 - w)) N

module _ (w : ℕ) (narrow : w ≤ 512) (state : Numbering) (N : ℕ) where
  -- where it is below 512 there is no number
  pub step_9 : can_arise w state ≡ true → N ≤ 511 → first_from (state.next + (512 - w)) N < 512 → first (number_order w state N) ≡ 9
  step_9 can sent below = candidate_decides w state N can sent ∙ candidate_9 w state N (raised_below w narrow state.next N (omega arith) below)

  module _ {n : ℕ} (at : Candidated w state N n) where
    started : is_below0 w state.next N ≡ false
    started = raised_not_below w narrow state.next N (omega arith) (omega arith)

    -- the number is the candidate, in the window, and decides on what is left
    pub number_is : n ≡ candidate w state.next N
    number_is = omega (arith, raised_candidate w narrow state.next N (omega arith) (omega arith))

    pub number_not_below : state.next ≤ n + w
    number_not_below = omega (arith, number_is, in_window w narrow state.next N (omega arith) started)

    decides : first (number_order w state N) ≡ first (candidate_order w state N)
    decides = candidate_decides w state N at.can at.sent

    pub step_10 : end ≤ n → first (number_order w state N) ≡ 10
    unfolding is_past_end
    step_10 past = decides ∙ candidate_10 w state N started (le-leb end (candidate w state.next N) (omega (arith, number_is)))

    module _ (before_end : n < end) where
      ended : is_past_end w state.next N ≡ false
      unfolding is_past_end
      ended = lt-leb end (candidate w state.next N) (omega (arith, number_is))

      pub step_11 : is_accepted state n ≡ true → first (number_order w state N) ≡ 11
      step_11 again = decides ∙ candidate_11 w state N started ended (ap (is_accepted state) (sym number_is) ∙ again)

      pub step_0 : is_accepted state n ≡ false → first (number_order w state N) ≡ 0
      step_0 anew = decides ∙ candidate_0 w state N started ended (ap (is_accepted state) (sym number_is) ∙ anew)
