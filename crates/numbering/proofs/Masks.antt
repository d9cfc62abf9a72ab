-- The marks as bits of one number: a mark is tested by a mask, set by a mask, and moved by a shift.
-- Assumes nothing.
use Prim.Native.Nat.{ℕ, zero, suc, ◌+◌, ◌-◌, ◌*◌, ◌/◌, ◌%◌, ◌^◌, ◌≤◌, ◌<◌, min}
use native.Mathlib.Nat.{add-zero, le-div_iff_mul-le, one-mul, mod-lt, mul-mod_left, zero-mul, mul_assoc, sub-add_cancel, mod-le, lt_of_le_of_lt, min-eq_left, min-eq_right, le-min}
use native.Mathlib.Decide.{dec_le, ℕ_discrete}
use native.Mathlib.Omega.{arith}
use mathlib.Core.Path.{◌≡◌, refl, sym, ap, subst, ◌∙◌}
use mathlib.Core.Logic.{◌⊎◌, inl, inr}
use mathlib.Core.Bool.{not}
use borrow.Author.Tests.{ne_eqb}
use lib.Arith.{bin_ind}
use lib.Bits.{bit_and, bit_or, or_shifted, or_lt}
use lib.Dec.{eqb, lit<}
use lib.Pow.{pow_pos, pow-lt, pow-add, shl_lt, shr-shr, field, mod-mod-pow}
use Rattle.std.proofs.lemmas.Nat.Bits.{bit_at_lowest, bit_at-zero, bit_at_or, bit_at-pow_same, bit_at-pow_other, and_pow, bit_at-lt, bit_at_above, bit_at_cat_low, bit_at_cat_high}
use Rattle.numbering.specs.Numbering.{mark}

-- what is left of a number that is shifted says that it is not below the power
pub past_shift : (m k : ℕ) → 0 < m / 2 ^ k → 2 ^ k ≤ m
past_shift m k h = rw one-mul at ((le-div_iff_mul-le {x = 1} {y = m} (pow_pos k)).0 h)

-- a mark is 0 or 1
pub mark_cases : (m k : ℕ) → (mark m k ≡ 0) ⊎ (mark m k ≡ 1)
unfolding mark
mark_cases m k = go (mark m k) (bit_at-lt m k)
  where
    go : (b : ℕ) → b < 2 → (b ≡ 0) ⊎ (b ≡ 1)
    go zero l = inl refl
    go (suc zero) l = inr refl
    go (suc (suc b)) l = absurd (omega arith)

-- mark 0 is the lowest bit
pub mark_zero : (m : ℕ) → mark m 0 ≡ m % 2
unfolding mark
mark_zero m = bit_at_lowest m

-- past a number's bits no mark is set
pub mark_beyond : (m k : ℕ) → m < 2 ^ k → mark m k ≡ 0
unfolding mark
mark_beyond m k l = bit_at_above m k k l (omega arith)

-- a number above 0 has a mark, and one that is not below 2^j has a mark from place j on
some_mark : (m : ℕ) → 0 < m → (k : ℕ) × (mark m k ≡ 1)
unfolding mark
some_mark = bin_ind (λ (m : ℕ). 0 < m → (k : ℕ) × (mark m k ≡ 1)) (λ some. absurd (omega arith)) (λ m half some. go m half some (ℕ_discrete (m % 2) 1))
  where
    go : (m : ℕ) → (0 < m / 2 → (k : ℕ) × (mark (m / 2) k ≡ 1)) → 0 < m → Dec (m % 2 ≡ 1) → (k : ℕ) × (mark m k ≡ 1)
    go m half some (yes odd) = (0, mark_zero m ∙ odd)
    go m half some (no even) =
        let (k, set) = half (omega arith) in
        (1 + k, ap (λ (x : ℕ). x % 2) (sym (shr-shr m 1 k)) ∙ set)

pub mark_above : (m j : ℕ) → 2 ^ j ≤ m → (k : ℕ) × (j ≤ k) × (mark m k ≡ 1)
unfolding mark
mark_above m j above =
    let (k, set) = some_mark (m / 2 ^ j) ((le-div_iff_mul-le {x = 1} {y = m} (pow_pos j)).1 (rw one-mul above)) in
    (j + k, omega arith, ap (λ (x : ℕ). x % 2) (sym (shr-shr m j k)) ∙ set)

-- the mask's test is the mark
pub mask_tests : (m k : ℕ) → not (eqb (bit_and m (2 ^ k)) 0) ≡ eqb (mark m k) 1
unfolding mark
mask_tests m k = ap (λ (x : ℕ). not (eqb x 0)) (and_pow m k) ∙ go (mark m k) (mark_cases m k)
  where
    go : (b : ℕ) → (b ≡ 0) ⊎ (b ≡ 1) → not (eqb (b * 2 ^ k) 0) ≡ eqb b 1
    go b (inl e) = rw (e, zero-mul)
    go b (inr e) = rw (e, one-mul, ne_eqb (2 ^ k) 0 (λ z. omega (arith, pow_pos k)))

-- marks in a word of w bits are those of the number below its place w
mark_cut : (w m k : ℕ) → k < w → mark (m % 2 ^ w) k ≡ mark m k
unfolding mark
mark_cut w m k l =
    let left : ℕ = w - k - 1 in
    ap (λ (j : ℕ). m % 2 ^ j / 2 ^ k % 2) (omega arith)
    ∙ ap (λ (x : ℕ). x % 2) (field m (left + 1) k)
    ∙ mod-mod-pow (m / 2 ^ k) left 1

-- marks moved up by g: below place g there is none, and mark k was mark k - g
mark_below_shift : (m g k : ℕ) → k < g → mark (m * 2 ^ g) k ≡ 0
unfolding mark
mark_below_shift m g k l = rw add-zero at (bit_at_cat_low m g 0 k l) ∙ bit_at-zero k

mark_shift : (m g k : ℕ) → g ≤ k → mark (m * 2 ^ g) k ≡ mark m (k - g)
unfolding mark
mark_shift m g k l = rw add-zero at (bit_at_cat_high m g 0 k (pow_pos g) l)

-- marks moved by a gap leave place 0 free
moved_even : (w m g : ℕ) → 0 < w → 0 < g → m * 2 ^ g % 2 ^ w % 2 ≡ 0
moved_even w m g wide l = sym (mark_zero (m * 2 ^ g % 2 ^ w)) ∙ mark_cut w (m * 2 ^ g) 0 wide ∙ mark_below_shift m g 0 l

-- so that the mark of the new number is set by adding one
pub moved_marked : (w m g : ℕ) → 0 < w → 0 < g → bit_or (m * 2 ^ g % 2 ^ w) 1 ≡ m * 2 ^ g % 2 ^ w + 1
moved_marked w m g wide l =
    let x : ℕ = m * 2 ^ g % 2 ^ w in
    let halves : x ≡ x / 2 * 2 = omega (arith, moved_even w m g wide l) in
    ap (λ (y : ℕ). bit_or y 1) halves ∙ or_shifted (x / 2) 1 1 (lit< tt) ∙ ap (λ (y : ℕ). y + 1) (sym halves)

-- a gap of the width or more leaves no mark
pub moved_out : (w m g : ℕ) → w ≤ g → m * 2 ^ g % 2 ^ w ≡ 0
moved_out w m g l =
    ap (λ (k : ℕ). m * 2 ^ k % 2 ^ w) (sym (sub-add_cancel l))
    ∙ ap (λ (x : ℕ). x % 2 ^ w) (ap (λ (x : ℕ). m * x) (pow-add 2 (g - w) w) ∙ sym (mul_assoc m (2 ^ (g - w)) (2 ^ w)))
    ∙ mul-mod_left (m * 2 ^ (g - w)) (2 ^ w)

-- one added to an even number changes mark 0 alone
mark_odd : (x k : ℕ) → x % 2 ≡ 0 → 0 < k → mark (x + 1) k ≡ mark x k
unfolding mark
mark_odd x k even l =
    ap (λ (y : ℕ). y / 2 ^ k % 2) {x = x + 1} {y = x / 2 * 2 ^ 1 + 1} (omega arith)
    ∙ bit_at_cat_high (x / 2) 1 1 k (lit< tt) l
    ∙ sym (bit_at_cat_high (x / 2) 1 0 k (lit< tt) l)
    ∙ ap (λ (y : ℕ). y / 2 ^ k % 2) {x = x / 2 * 2 ^ 1 + 0} {y = x} (omega arith)

-- the marks after a new number, a gap of g ahead
module _ (w m g : ℕ) (wide : 0 < w) (gap : 0 < g) where
  pub mark_of_new : mark (m * 2 ^ g % 2 ^ w + 1) 0 ≡ 1
  mark_of_new = omega (arith, moved_even w m g wide gap, mark_zero (m * 2 ^ g % 2 ^ w + 1))

  pub mark_of_gap : (k : ℕ) → 0 < k → k < w → k < g → mark (m * 2 ^ g % 2 ^ w + 1) k ≡ 0
  mark_of_gap k some l below =
      mark_odd (m * 2 ^ g % 2 ^ w) k (moved_even w m g wide gap) some
      ∙ mark_cut w (m * 2 ^ g) k l
      ∙ mark_below_shift m g k below

  pub mark_of_old : (k : ℕ) → k < w → g ≤ k → mark (m * 2 ^ g % 2 ^ w + 1) k ≡ mark m (k - g)
  mark_of_old k l above =
      mark_odd (m * 2 ^ g % 2 ^ w) k (moved_even w m g wide gap) (omega arith)
      ∙ mark_cut w (m * 2 ^ g) k l
      ∙ mark_shift m g k above

-- they are in the window of the new number n: an even number below a power of two stays below it with one added
pub new_within : (w m v n : ℕ) → 0 < w → v ≤ n → m < 2 ^ min w v → m * 2 ^ (n + 1 - v) % 2 ^ w + 1 < 2 ^ min w (n + 1)
new_within w m v n wide new within = go (dec_le w (n + 1))
  where
    moved : ℕ
    moved = m * 2 ^ (n + 1 - v) % 2 ^ w

    even : (k : ℕ) → 0 < k → moved < 2 ^ k → moved + 1 < 2 ^ k
    even k some below = omega (arith, moved_even w m (n + 1 - v) wide (omega arith), bit_at_lowest (2 ^ k), bit_at-pow_other k 0 (λ zero. omega (arith, zero)))

    go : Dec (w ≤ n + 1) → moved + 1 < 2 ^ min w (n + 1)
    go (yes long) = rw (min-eq_left long) (even w wide (mod-lt (m * 2 ^ (n + 1 - v)) (pow_pos w)))
    go (no short) =
        let low : m < 2 ^ v = rw (min-eq_right {n = v} {m = w} (omega arith)) at within in
        let shifted : m * 2 ^ (n + 1 - v) < 2 ^ (n + 1) = subst (λ (k : ℕ). m * 2 ^ (n + 1 - v) < 2 ^ k) (omega arith) (shl_lt v (n + 1 - v) low) in
        rw (min-eq_right {n = n + 1} {m = w} (omega arith)) (even (n + 1) (omega arith) (lt_of_le_of_lt (mod-le (m * 2 ^ (n + 1 - v)) (2 ^ w)) shifted))

-- the marks after a late number, whose mark is j
pub mark_set : (m j : ℕ) → mark (bit_or m (2 ^ j)) j ≡ 1
unfolding mark
mark_set m j = omega (arith, bit_at_or m (2 ^ j) j, bit_at-pow_same j, bit_at-lt m j)

pub mark_kept : (m j k : ℕ) → (k ≡ j → ⊥) → mark (bit_or m (2 ^ j)) k ≡ mark m k
unfolding mark
mark_kept m j k apart = omega (arith, bit_at_or m (2 ^ j) k, bit_at-pow_other j k apart)

-- a mark that is set stays set
pub mark_stays : (m j k : ℕ) → mark m k ≡ 1 → mark (bit_or m (2 ^ j)) k ≡ 1
unfolding mark
mark_stays m j k was = omega (arith, bit_at_or m (2 ^ j) k, bit_at-lt (2 ^ j) k)

pub late_within : (w m v n : ℕ) → n < v → v ≤ n + w → m < 2 ^ min w v → bit_or m (2 ^ (v - 1 - n)) < 2 ^ min w v
late_within w m v n late inside within =
    or_lt (min w v) m (2 ^ (v - 1 - n)) within (pow-lt (le-min (omega arith) (omega arith)))
