-- How the table of S9 doubles: an entry with two bits at the top from three with fewer, and the front of a table that grows entry by entry.
-- Assumes nothing.
use Prim.Native.Nat.{ℕ, zero, suc, ◌+◌, ◌^◌, ◌<◌, ◌≤◌}
use native.Mathlib.Nat.{pow-suc, eq-or-lt_of_le, le_of_suc-le-suc, not-suc-le-zero}
use native.Mathlib.Numerals.{add-one}
use native.Mathlib.Omega.{arith}
use mathlib.Core.Bool.{Bool, true, ◌&&◌}
use mathlib.Core.List.{List, [], ◌∷◌, ◌++◌}
use mathlib.Core.Logic.{⊎_elim}
use mathlib.Core.Path.{◌≡◌, sym, ap, subst, ◌∙◌}
use lib.Bits.{bit_xor}
use lib.Dec.{T, eqb, eqb→eq}
use lib.ListN.{get_or, set, length-set}
use lib.Pow.{pow_mono}
use lib.Seq.{get_or-take, take-suc-set}
use Rattle.refusals.proofs.Tests.{and_left, and_right}
use Rattle.octets.specs.Bits.{listed}
use Rattle.octets.proofs.Listed.{get_or-listed}
use Rattle.sboxes.specs.Tables.{s9, s9_table}
use Rattle.sboxes.specs.FiTable.{entry_of_nine, Filled}

-- ---- powers of two

pub low_fits : (j k : ℕ) → j < k → 2 ^ j + 2 ^ j ≤ 2 ^ k
low_fits j k below = omega (arith, pow-suc 2 j, pow_mono {i = suc j} {j = k} below)

pub high_fits : (k : ℕ) → k < 9 → 2 ^ k + 2 ^ k ≤ 512
high_fits k below = omega (arith, pow-suc 2 k, pow_mono {i = suc k} {j = 9} below)

-- ---- one test over the whole table

-- the test holds of every number below n
abbrev all_below : ℕ → (ℕ → Bool) → Bool
all_below zero test = true
all_below (suc n) test = test n && all_below n test

below : (n : ℕ) (test : ℕ → Bool) → T (all_below n test) → (i : ℕ) → i < n → T (test i)
below zero test passed i small = absurd (not-suc-le-zero small)
below (suc n) test passed i small =
    ⊎_elim
    (λ last. subst (λ (k : ℕ). T (test k)) (sym last) (and_left (test n) (all_below n test) passed))
    (λ before. below n test (and_right (test n) (all_below n test) passed) i before)
    (eq-or-lt_of_le (le_of_suc-le-suc small))

-- what the bits k and j together add to an entry
abbrev pub number_of : ℕ → ℕ → ℕ
number_of k j = bit_xor (bit_xor (bit_xor (entry_of_nine (2 ^ k + 2 ^ j)) (entry_of_nine (2 ^ k))) (entry_of_nine (2 ^ j))) (entry_of_nine 0)

-- the entry with the bits k and j and the lower bits i, from those without k, without j and without both
abbrev pub from_three : ℕ → ℕ → ℕ → ℕ
from_three k j i = bit_xor (bit_xor (bit_xor (entry_of_nine (2 ^ k + i)) (entry_of_nine (2 ^ j + i))) (entry_of_nine i)) (number_of k j)

abbrev doubles : ℕ → ℕ → ℕ → Bool
doubles k j i = eqb (from_three k j i) (entry_of_nine (2 ^ k + 2 ^ j + i))

pub from_three_lem : (k j i : ℕ) → k < 9 → j < k → i < 2 ^ j → from_three k j i ≡ entry_of_nine (2 ^ k + 2 ^ j + i)
unfolding entry_of_nine s9 s9_table
from_three_lem k j i small lower within =
    eqb→eq (from_three k j i) (entry_of_nine (2 ^ k + 2 ^ j + i))
    (below (2 ^ j) (doubles k j)
    (below k (λ b. all_below (2 ^ b) (doubles k b)) (below 9 (λ a. all_below a (λ b. all_below (2 ^ b) (doubles a b))) tt k small) j lower)
    i
    within)

-- ---- the front of a table

module _ {n : ℕ} {table : List ℕ} (filled : Filled n table) where
  -- an entry that stands there
  pub entry_at : (p : ℕ) → p < n → get_or table p 0 ≡ entry_of_nine p
  entry_at p small =
      sym (get_or-take n table p 0 small) ∙ ap (λ (l : List ℕ). get_or l p 0) filled.front ∙ get_or-listed entry_of_nine n p 0 small

  -- one entry more
  pub one_more : (x : ℕ) → n < 640 → x ≡ entry_of_nine n → Filled (n + 1) (set table n x)
  unfolding listed
  one_more x room is = record {
    words = length-set table n x ∙ filled.words;
    front = rw (add-one n)
        (take-suc-set table n x (rw filled.words room)
        ∙ ap (λ (l : List ℕ). l ++ (x ∷ [])) filled.front
        ∙ ap (λ (y : ℕ). listed entry_of_nine n ++ (y ∷ [])) is);
  }

-- the same front, counted otherwise
pub counted : {n m : ℕ} {table : List ℕ} → n ≡ m → Filled n table → Filled m table
counted {table = table} same filled = subst (λ (k : ℕ). Filled k table) same filled

-- the entry with the bits k and j and the lower bits i, as the code has it from a table that is filled so far
pub next_entry : (k j i : ℕ) {high low first : ℕ} {before table : List ℕ} → k < 9 → j < k → i < low → high ≡ 2 ^ k → low ≡ 2 ^ j → first ≡ entry_of_nine (high + low)
    → Filled (high + low) before → Filled (high + low + i) table
    → bit_xor (bit_xor (bit_xor (get_or table (high + i) 0) (get_or table (low + i) 0)) (get_or table i 0)) (bit_xor (bit_xor (bit_xor first (get_or before high 0)) (get_or before low 0)) (get_or before 0 0))
    ≡ entry_of_nine (high + low + i)
next_entry k j i {high} {low} {first} {before} {table} small lower within high_is low-is first-is earlier filled =
    let lower-fits : low + low ≤ high = omega (arith, low_fits j k lower) in
    cc (
      entry_at filled (high + i) (omega arith),
      entry_at filled (low + i) (omega arith),
      entry_at filled i (omega arith),
      entry_at earlier high (omega arith),
      entry_at earlier low (omega arith),
      entry_at earlier 0 (omega arith),
      from_three_lem k j i small lower (omega arith),
    )
