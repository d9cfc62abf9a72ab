-- What a state means: which numbers arrived so far. It stays so at each arrival, for every width from 1 on.
-- Assumes nothing.
use Prim.Native.Nat.{ℕ, ◌+◌, ◌≤◌, ◌<◌, max, zero-le}
use native.Mathlib.Omega.{arith}
use mathlib.Core.Path.{◌≡◌, refl, sym, ap, ◌∙◌}
use mathlib.Core.Bool.{Bool, true, ◌||◌, false≢true, and-true}
use mathlib.Core.List.{List, [], ◌∷◌}
use borrow.Author.Tests.{eqb-true, le-leb}
use lib.Dec.{eqb}
use Rattle.refusals.proofs.Tests.{by-test}
use Rattle.numbering.specs.declared.Numbering.{Numbering}
use Rattle.numbering.specs.Numbering.{end, start, InWindow, is_accepted, accepted, can_arise}
use Rattle.numbering.specs.History.{is_among, above_all}
use Rattle.numbering.proofs.State.{accepted_next, new_not_accepted}
use Rattle.numbering.proofs.Marks.{accepted_marks}
use Rattle.numbering.proofs.Arising.{start_can_arise, accepted_can_arise}

-- V is one above the highest number that arrived; from V - w on exactly those that arrived are marked; and the state can arise
pub record Means (w : ℕ) (state : Numbering) (history : List ℕ) : Type 0 where
  pub next_is : state.next ≡ above_all history
  pub marks_are : (n : ℕ) → state.next ≤ n + w → is_accepted state n ≡ is_among n history
  pub can_arise_lem : can_arise w state ≡ true

-- a number that is among them already may be put in front
among_again : (n m : ℕ) (history : List ℕ) → is_among m history ≡ true → is_among n (m ∷ history) ≡ is_among n history
unfolding is_among
among_again n m history there =
    by-test (eqb n m) ((eqb n m || is_among n history) ≡ is_among n history)
    (λ same. rw same (sym (ap (λ (k : ℕ). is_among k history) (eqb-true n m same) ∙ there)))
    (λ apart. rw apart)

-- each number is below the height, which does not change with a number that is among them already
among_below : (n : ℕ) (history : List ℕ) → is_among n history ≡ true → n < above_all history
unfolding is_among above_all
among_below n [] there = absurd (false≢true there)
among_below n (m ∷ rest) there =
    by-test (eqb n m) (n < max (m + 1) (above_all rest))
    (λ same. omega (arith, eqb-true n m same))
    (λ apart. omega (arith, among_below n rest (rw apart at there)))

height_again : (n : ℕ) (history : List ℕ) → is_among n history ≡ true → above_all (n ∷ history) ≡ above_all history
unfolding above_all
height_again n history there = omega (arith, among_below n history there)

module _ (w : ℕ) where
  -- the start means that nothing arrived
  pub start_means : Means w start []
  unfolding is_among above_all
  start_means = record {
    next_is = refl;
    marks_are = λ n low. new_not_accepted start n zero-le;
    can_arise_lem = start_can_arise w;
  }

  module _ {state : Numbering} {history : List ℕ} (means : Means w state history) (n : ℕ) where
    -- a number that arrived before changes nothing
    pub again_means : is_among n history ≡ true → Means w state (n ∷ history)
    again_means there = record {
      next_is = means.next_is ∙ sym (height_again n history there);
      marks_are = λ m low. means.marks_are m low ∙ sym (among_again m n history there);
      can_arise_lem = means.can_arise_lem;
    }

    -- after a number is accepted the state means the history with it
    pub accepted_means : 0 < w → InWindow w state.next n → n < end → Means w (accepted w state n) (n ∷ history)
    unfolding is_among above_all
    accepted_means wide inside before_end = record {
      next_is = omega (arith, accepted_next w state n, means.next_is);
      marks_are = λ m low.
          accepted_marks w wide state means.can_arise_lem n inside m
          ∙ simp (le-leb _ _ low, and-true) (ap (λ (b : Bool). eqb m n || b) (means.marks_are m (omega (arith, accepted_next w state n))));
      can_arise_lem = accepted_can_arise w wide state means.can_arise_lem n inside before_end;
    }
