-- Tests that the checker computes: the halves of a conjunction, a choice by a test, and what a test over a whole list says at each place.
-- Assumes nothing.
use Prim.Native.Nat.{ℕ, zero, suc, ◌+◌, ◌<◌}
use native.Mathlib.Nat.{add-zero, zero-add, add-suc, suc-add, le_of_suc-le-suc, not-suc-le-zero}
use mathlib.Core.Path.{◌≡◌, refl}
use mathlib.Core.Bool.{Bool, true, false, ◌&&◌}
use mathlib.Core.List.{List, [], ◌∷◌}
use lib.Dec.{T}
use lib.ListN.{length, get_or}

pub and_left : (a b : Bool) → T (a && b) → T a
and_left true b h = tt
and_left false b h = h

pub and_right : (a b : Bool) → T (a && b) → T b
and_right true b h = h
and_right false b h = absurd h

-- what is shown on each side of a test is shown
pub by-test {ℓ} : (b : Bool) (P : Type ℓ) → (b ≡ true → P) → (b ≡ false → P) → P
by-test true P held failed = held refl
by-test false P held failed = failed refl

module _ {A : Type 0} (test : ℕ → A → Bool) where
  -- the test holds of every place, counted from i, and the entry there
  abbrev pub all : ℕ → List A → Bool
  all i [] = true
  all i (x ∷ xs) = test i x && all (suc i) xs

  from_place : (i : ℕ) (xs : List A) (d : A) → T (all i xs) → (k : ℕ) → k < length xs → T (test (i + k) (get_or xs k d))
  from_place i [] d h k l = absurd (not-suc-le-zero l)
  from_place i (x ∷ xs) d h zero l = rw add-zero (and_left (test i x) (all (suc i) xs) h)
  from_place i (x ∷ xs) d h (suc k) l =
      rw (add-suc, ← suc-add) (from_place (suc i) xs d (and_right (test i x) (all (suc i) xs) h) k (le_of_suc-le-suc l))

  -- what passes at every place passes at place k
  pub at_place : (xs : List A) (d : A) → T (all 0 xs) → (k : ℕ) → k < length xs → T (test k (get_or xs k d))
  at_place xs d h k l = rw zero-add at (from_place 0 xs d h k l)
