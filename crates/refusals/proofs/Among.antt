-- What a number that is one of a list passes. Assumes nothing.
use Prim.Native.Nat.{ℕ, suc}
use mathlib.Core.Path.{◌≡◌, sym, subst}
use mathlib.Core.Bool.{Bool, true, false≢true}
use mathlib.Core.List.{List, [], ◌∷◌}
use borrow.Author.Tests.{eqb-true}
use lib.Dec.{T, eqb}
use Rattle.refusals.specs.Among.{is_among}
use Rattle.refusals.proofs.Tests.{and_left, and_right, by-test, all}

-- a test that all numbers of a list pass is passed by a number that is among them
pub among_passes : (test : ℕ → Bool) (n i : ℕ) (numbers : List ℕ) → T (all (λ (j : ℕ) (m : ℕ). test m) i numbers) → is_among n numbers ≡ true → T (test n)
unfolding is_among
among_passes test n i [] passed among = absurd (false≢true among)
among_passes test n i (m ∷ others) passed among =
    by-test (eqb n m) (T (test n))
    (λ same. subst (λ (k : ℕ). T (test k)) (sym (eqb-true n m same)) (and_left (test m) _ passed))
    (λ other. among_passes test n (suc i) others (and_right (test m) _ passed) (rw other at among))
