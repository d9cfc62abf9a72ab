-- An array that `array::from_fn` makes, by a closure that leaves what it captures as it is.
-- Assumes nothing.
use Prim.Native.Nat.{ℕ, zero, suc, ◌+◌, ◌≤◌, ◌<◌}
use native.Mathlib.Nat.{add-zero, zero-add, add-suc, suc-add, le_of_suc-le-suc, not-suc-le-zero}
use native.Mathlib.Numerals.{add-one}
use native.Mathlib.Omega.{arith}
use mathlib.Core.Path.{◌≡◌, sym, ◌∙◌}
use mathlib.Core.List.{List}
use denote.Param.Members.{Mut, Called}
use lib.ListN.{get_or}
use lib.Seq.{ext_get_or}
use Rattle.std.specs.Array.{IsFromFnResultFrom, IsFromFnResult}
use Rattle.octets.specs.Bits.{listed}
use Rattle.octets.proofs.Listed.{length-listed, get_or-listed}

-- `Kept` says what is captured, and h is what a call at an index below n then gives
module _ {F : Type 0} (g : Mut F (ℕ × Unit {0}) ℕ) (Kept : F → Type 0) (h : ℕ → ℕ) (n : ℕ)
    (step : (p q : F) (i y : ℕ) → i < n → Kept p → Called g p (i, tt) y q → Kept q × (y ≡ h i)) where
  from_place : (f : F) (ys : List ℕ) (i m k : ℕ) → i + m ≤ n → Kept f → IsFromFnResultFrom g f ys i m → k < m → get_or ys (i + k) 0 ≡ h (i + k)
  from_place f ys i zero k within kept made below = absurd (not-suc-le-zero below)
  from_place f ys i (suc m) zero within kept made below = rw add-zero (made.2.1 0 ∙ (step f made.0 i made.1 (omega arith) kept made.3).1)
  from_place f ys i (suc m) (suc k) within kept made below =
      rw (add-suc, ← suc-add, ← add-one)
      (from_place made.0 ys (i + 1) m k (omega arith) (step f made.0 i made.1 (omega arith) kept made.3).0 made.4 (le_of_suc-le-suc below))

  -- the array is h 0, h 1, ..
  pub made_listed : (f : F) (ys : List ℕ) → Kept f → IsFromFnResult g f ys n → ys ≡ listed h n
  made_listed f ys kept made =
      ext_get_or 0 ys (listed h n) (made.long ∙ sym (length-listed h n))
      (λ k below.
      let within : k < n = rw (made.long) at below in
      rw zero-add at (from_place f ys 0 n k (omega arith) kept made.each within) ∙ sym (get_or-listed h n k 0 within))
