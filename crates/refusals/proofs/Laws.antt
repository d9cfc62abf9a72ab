-- The laws of a refusal order: the first cause that holds is named, then and only then.
-- Assumes nothing.
use Prim.Native.Nat.{ℕ, zero, suc, ◌<◌, zero-le, suc-le-suc}
use native.Mathlib.Nat.{not-suc-le-zero, le_of_suc-le-suc}
use mathlib.Core.Path.{◌≡◌, refl, sym, ◌∙◌, subst}
use mathlib.Core.Bool.{Bool, true, false, cond, not, ◌&&◌}
use mathlib.Core.List.{List, [], ◌∷◌, ◌++◌}
use borrow.Author.Tests.{eq-eqb}
use lib.Dec.{T, eqb}
use lib.ListN.{length}
use Rattle.refusals.proofs.Tests.{and_left, and_right, by-test}
use Rattle.refusals.specs.Refusal.{Row, first, row_at, FirstAt, ThenAndOnlyThen}
use Rattle.refusals.proofs.Orders.{absent, distinct}

-- a test that failed, as two numbers that are not the same
apart : (m n : ℕ) → T (not (eqb m n)) → m ≡ n → ⊥
apart m n h e = subst (λ (b : Bool). T (not b)) (eq-eqb m n e) h

-- where the first row holds it is named, and else the rest decides
first_held : (row : Row) (rest : List Row) → row.holds ≡ true → first (row ∷ rest) ≡ row.number
unfolding first
first_held row rest h = rw h

first_passed : (row : Row) (rest : List Row) → row.holds ≡ false → first (row ∷ rest) ≡ first rest
unfolding first
first_passed row rest h = rw h

-- the first that holds is never a number that no row has
not_named : (n : ℕ) (rows : List Row) → (n ≡ 0 → ⊥) → T (absent n rows) → first rows ≡ n → ⊥
unfolding first
not_named n [] above gone e = above (sym e)
not_named n (row ∷ rest) above gone e =
    by-test row.holds ⊥
    (λ h. apart n row.number (and_left (not (eqb n row.number)) (absent n rest) gone) (sym e ∙ first_held row rest h))
    (λ h. not_named n rest above (and_right (not (eqb n row.number)) (absent n rest) gone) (sym (first_passed row rest h) ∙ e))

-- a row's number is not 0, and no row after it has that number
module _ (row : Row) (rest : List Row) (d : T (distinct (row ∷ rest))) where
  not_zero : row.number ≡ 0 → ⊥
  not_zero = apart row.number 0 (and_left (not (eqb row.number 0)) (absent row.number rest) (and_left (not (eqb row.number 0) && absent row.number rest) (distinct rest) d))

  only_here : T (absent row.number rest)
  only_here = and_right (not (eqb row.number 0)) (absent row.number rest) (and_left (not (eqb row.number 0) && absent row.number rest) (distinct rest) d)

  rest_distinct : T (distinct rest)
  rest_distinct = and_right (not (eqb row.number 0) && absent row.number rest) (distinct rest) d

-- a number that no row has is not row k's
not_at : (n : ℕ) (rows : List Row) → T (absent n rows) → (k : ℕ) → k < length rows → n ≡ (row_at rows k).number → ⊥
unfolding row_at
not_at n [] gone k l e = not-suc-le-zero l
not_at n (row ∷ rest) gone zero l e = apart n row.number (and_left (not (eqb n row.number)) (absent n rest) gone) e
not_at n (row ∷ rest) gone (suc k) l e =
    not_at n rest (and_right (not (eqb n row.number)) (absent n rest) gone) k (le_of_suc-le-suc l) e

-- what is first from row 1 on is first where row 0 does not hold
step : (row : Row) (rest : List Row) (k : ℕ) → row.holds ≡ false → FirstAt rest k → FirstAt (row ∷ rest) (suc k)
unfolding row_at
step row rest k h f = record { here = f.here; none_before = before }
  where
    before : (j : ℕ) → j < suc k → (row_at (row ∷ rest) j).holds ≡ false
    before zero l = h
    before (suc j) l = f.none_before j (le_of_suc-le-suc l)

named : (rows : List Row) (k : ℕ) → k < length rows → FirstAt rows k → first rows ≡ (row_at rows k).number
unfolding row_at
named [] k l f = absurd (not-suc-le-zero l)
named (row ∷ rest) zero l f = first_held row rest f.here
named (row ∷ rest) (suc k) l f =
    first_passed row rest (f.none_before zero (suc-le-suc zero-le))
    ∙ named rest k (le_of_suc-le-suc l) (record { here = f.here; none_before = λ j m. f.none_before (suc j) (suc-le-suc m) })

first_named : (rows : List Row) → T (distinct rows) → (k : ℕ) → k < length rows → first rows ≡ (row_at rows k).number → FirstAt rows k
unfolding row_at
first_named [] d k l e = absurd (not-suc-le-zero l)
first_named (row ∷ rest) d zero l e =
    by-test row.holds (FirstAt (row ∷ rest) zero)
    (λ h. record { here = h; none_before = λ j m. absurd (not-suc-le-zero m) })
    (λ h. absurd (not_named row.number rest (not_zero row rest d) (only_here row rest d) (sym (first_passed row rest h) ∙ e)))
first_named (row ∷ rest) d (suc k) l e =
    by-test row.holds (FirstAt (row ∷ rest) (suc k))
    (λ h. absurd (not_at row.number rest (only_here row rest d) k (le_of_suc-le-suc l) (sym (first_held row rest h) ∙ e)))
    (λ h. step row rest k h (first_named rest (rest_distinct row rest d) k (le_of_suc-le-suc l) (sym (first_passed row rest h) ∙ e)))

none_named : (rows : List Row) → ((k : ℕ) → (row_at rows k).holds ≡ false) → first rows ≡ 0
unfolding first row_at
none_named [] h = refl
none_named (row ∷ rest) h = first_passed row rest (h zero) ∙ none_named rest (λ k. h (suc k))

zero_none : (rows : List Row) → T (distinct rows) → first rows ≡ 0 → (k : ℕ) → (row_at rows k).holds ≡ false
unfolding row_at
zero_none [] d e k = refl
zero_none (row ∷ rest) d e zero =
    by-test row.holds (row.holds ≡ false) (λ h. absurd (not_zero row rest d (sym (first_held row rest h) ∙ e))) (λ h. h)
zero_none (row ∷ rest) d e (suc k) =
    by-test row.holds ((row_at rest k).holds ≡ false)
    (λ h. absurd (not_zero row rest d (sym (first_held row rest h) ∙ e)))
    (λ h. zero_none rest (rest_distinct row rest d) (sym (first_passed row rest h) ∙ e) k)

-- the rule of document 01, for every order of distinct numbers
pub then_and_only_then : (rows : List Row) → T (distinct rows) → (answer : ℕ) → answer ≡ first rows → ThenAndOnlyThen rows answer
then_and_only_then rows d answer e = record {
  each = λ k l. ((λ n. first_named rows d k l (sym e ∙ n)), (λ f. e ∙ named rows k l f));
  none = ((λ z. zero_none rows d (sym e ∙ z)), (λ h. e ∙ none_named rows h));
}

-- and as an equation
unset : (b : Bool) → T (not b) → b ≡ false
unset true h = absurd h
unset false h = refl

-- of two orders the second decides where nothing of the first holds
pub first_append : (rows more : List Row) → T (distinct rows) → first (rows ++ more) ≡ cond (eqb (first rows) 0) (first more) (first rows)
unfolding first
first_append [] more d = refl
first_append (row ∷ rest) more d =
    let head : T (not (eqb row.number 0) && absent row.number rest) = and_left (not (eqb row.number 0) && absent row.number rest) (distinct rest) d in
    let named : eqb row.number 0 ≡ false = unset (eqb row.number 0) (and_left (not (eqb row.number 0)) (absent row.number rest) head) in
    by-test row.holds (first ((row ∷ rest) ++ more) ≡ cond (eqb (first (row ∷ rest)) 0) (first more) (first (row ∷ rest)))
    (λ held. rw (held, named))
    (λ passed. rw passed (first_append rest more (and_right (not (eqb row.number 0) && absent row.number rest) (distinct rest) d)))
