-- A frame with the full number n arrives, n in the window: the one answer that the contract allows, for every width up to 512.
-- Assumes nothing.
use Prim.Native.Nat.{ℕ, ◌%◌, ◌≤◌, ◌<◌}
use native.Mathlib.Omega.{arith}
use mathlib.Core.Path.{◌≡◌, refl, sym, ap, subst, ◌∙◌}
use mathlib.Core.Bool.{true, false}
use mathlib.Core.List.{[], ◌∷◌}
use borrow.Author.Tests.{eqb-false}
use Rattle.refusals.specs.Refusal.{first}
use Rattle.refusals.specs.Call.{Answered}
use Rattle.refusals.proofs.Calls.{refused}
use Rattle.numbering.specs.declared.Numbering.{Numbering}
use Rattle.numbering.specs.Numbering.{end, InWindow, candidate, is_accepted, can_arise, accepted, candidate_order, number_call}
use Rattle.numbering.proofs.Candidate.{candidate_of_lem, not_below_0, not_past_end}
use Rattle.numbering.proofs.Step.{candidate_11, candidate_0, candidate_decides}

module _ (w : ℕ) (narrow : w ≤ 512) (state : Numbering) (n : ℕ) (inside : InWindow w state.next n) (before_end : n < end) where
  number_is : candidate w state.next (n % 512) ≡ n
  number_is = candidate_of_lem w narrow state.next n inside

  -- which cause of the candidate holds first: of a number that was accepted 11, and of any other none
  pub candidate_repeat : is_accepted state n ≡ true → first (candidate_order w state (n % 512)) ≡ 11
  candidate_repeat again =
      candidate_11 w state (n % 512) (not_below_0 w narrow state.next n inside) (not_past_end w narrow state.next n inside before_end)
      (ap (is_accepted state) number_is ∙ again)

  pub candidate_new : is_accepted state n ≡ false → first (candidate_order w state (n % 512)) ≡ 0
  candidate_new anew =
      candidate_0 w state (n % 512) (not_below_0 w narrow state.next n inside) (not_past_end w narrow state.next n inside before_end)
      (ap (is_accepted state) number_is ∙ anew)

  -- and what the step then answers
  module _ (can : can_arise w state ≡ true) where
    pub arrival_repeat : is_accepted state n ≡ true → Answered (number_call w state (n % 512)) 11 (n ∷ []) state
    arrival_repeat again =
        subst (λ (m : ℕ). Answered (number_call w state (n % 512)) 11 (m ∷ []) state) number_is
        (refused (number_call w state (n % 512)) 11 (candidate_decides w state (n % 512) can (omega arith) ∙ candidate_repeat again) (eqb-false 11 0 refl))

    pub arrival_accepted : is_accepted state n ≡ false → Answered (number_call w state (n % 512)) 0 (n ∷ []) (accepted w state n)
    arrival_accepted anew = record {
      refusal_is = sym (candidate_decides w state (n % 512) can (omega arith) ∙ candidate_new anew);
      numbers_are = ap (λ (m : ℕ). m ∷ []) (sym number_is);
      lent_is = ap (accepted w state) (sym number_is);
    }
