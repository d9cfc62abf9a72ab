-- The laws of numbers and their bits: what `number` writes, `bit_at` reads, and a stretch of a number's bits is a field of it.
-- Assumes nothing.
use mathlib.Core.Path.{◌≡◌, refl, sym, ap, ap₂, ◌∙◌}
use mathlib.Core.Logic.{⊎_elim}
use Prim.Native.Nat.{ℕ, zero, suc, ◌+◌, ◌-◌, ◌*◌, ◌/◌, ◌%◌, ◌^◌, ◌≤◌, ◌<◌}
use native.Mathlib.Nat.{add-zero, add-suc, add-mul, add_assoc, mul-one, mul_assoc, div-one, mod-one, mod-lt, add-sub_of_le, pow-zero, pow-suc, eq-or-lt_of_le, le_of_suc-le-suc, not-suc-le-zero}
use native.Mathlib.Numerals.{add-one}
use native.Mathlib.Omega.{arith}
use lib.Arith.{digits_lt, digits_div, digits_mod}
use lib.Dec.{lit<}
use lib.Pow.{shr_mod, shr-shr, mod-pow-add}
use Rattle.octets.specs.Bits.{bit_at, number}

-- a bit is 0 or 1
pub bit_at_lt : (w x i : ℕ) → bit_at w x i < 2
unfolding bit_at
bit_at_lt w x i = mod-lt (x / 2 ^ (w - 1 - i)) (lit< tt)

-- the number goes by the bits alone
pub number_ext : (f g : ℕ → ℕ) (n : ℕ) → ((j : ℕ) → j < n → f j ≡ g j) → number f n ≡ number g n
unfolding number
number_ext f g zero same = refl
number_ext f g (suc n) same =
    ap₂ (λ (x y : ℕ). x * 2 + y) (number_ext f g n (λ j below. same j (omega arith))) (same n (omega arith))

-- n bits write a number below 2 ^ n
pub number_lt : (f : ℕ → ℕ) (n : ℕ) → ((j : ℕ) → f j < 2) → number f n < 2 ^ n
unfolding number
number_lt f zero bits = lit< tt
number_lt f (suc n) bits = rw (pow-suc 2 n) (digits_lt (number_lt f n bits) (bits n))

-- m bits and then s bits: the first number, shifted by s, and the second
pub number_add : (f : ℕ → ℕ) (m s : ℕ) → number f (m + s) ≡ number f m * 2 ^ s + number (λ j. f (m + j)) s
unfolding number
number_add f m zero = simp (add-zero, pow-zero, mul-one)
number_add f m (suc s) =
    ap (number f) (add-suc m s)
    ∙ ap (λ (x : ℕ). x * 2 + f (m + s)) (number_add f m s)
    ∙ simp (add-mul, mul_assoc, add_assoc, pow-suc)

-- s zero bits at the end shift the number by s
pub number_zeros : (f : ℕ → ℕ) (m s : ℕ) → ((j : ℕ) → m ≤ j → j < m + s → f j ≡ 0) → number f (m + s) ≡ number f m * 2 ^ s
unfolding number
number_zeros f m zero zeros = simp (add-zero, pow-zero, mul-one)
number_zeros f m (suc s) zeros =
    ap (number f) (add-suc m s)
    ∙ ap₂ (λ (x y : ℕ). x * 2 + y) (number_zeros f m s (λ j from below. zeros j from (omega arith))) (zeros (m + s) (omega arith) (omega arith))
    ∙ simp (add-zero, mul_assoc, pow-suc)

-- the bits s, .., s + m - 1 of a number of w bits write its field of m digits that has w - s - m digits after it
pub number_bits : (w x s m : ℕ) → s + m ≤ w → number (λ j. bit_at w x (s + j)) m ≡ x / 2 ^ (w - s - m) % 2 ^ m
unfolding number bit_at
number_bits w x s zero within = sym (mod-one (x / 2 ^ (w - s - 0)))
number_bits w x s (suc m) within =
    let after : ℕ = w - s - suc m in
    ap₂ (λ (field bit : ℕ). field * 2 + bit)
    (number_bits w x s m (omega arith)
    ∙ ap (λ (k : ℕ). x / 2 ^ k % 2 ^ m) (omega arith)
    ∙ ap (λ (y : ℕ). y % 2 ^ m) (sym (shr-shr x after 1)))
    (ap (λ (k : ℕ). x / 2 ^ k % 2) (omega arith))
    ∙ sym (mod-pow-add (x / 2 ^ after) m 1)
    ∙ ap (λ (k : ℕ). x / 2 ^ after % 2 ^ k) (add-one m)

-- the first m bits of a number of w bits write what is left when the others are shifted out
pub number_first : (w x m : ℕ) → m ≤ w → x < 2 ^ w → number (bit_at w x) m ≡ x / 2 ^ (w - m)
number_first w x m within fits =
    number_ext (bit_at w x) (λ j. bit_at w x (0 + j)) m (λ j _. ap (bit_at w x) (omega arith))
    ∙ number_bits w x 0 m (omega arith)
    ∙ ap (λ (k : ℕ). x / 2 ^ k % 2 ^ m) (omega arith)
    ∙ shr_mod m (w - m) (rw (add-sub_of_le within) fits)

-- the bits of a number write the number
pub number_whole : (w x : ℕ) → x < 2 ^ w → number (bit_at w x) w ≡ x
number_whole w x fits = number_first w x w (omega arith) fits ∙ ap (λ (k : ℕ). x / 2 ^ k) {y = 0} (omega arith) ∙ div-one x

-- bit j of the number that n bits write is the jth of them
pub bit_number : (g : ℕ → ℕ) (n j : ℕ) → j < n → ((i : ℕ) → g i < 2) → bit_at n (number g n) j ≡ g j
unfolding number bit_at
bit_number g zero j below bits = absurd (not-suc-le-zero below)
bit_number g (suc n) j below bits =
    let x : ℕ = number g n * 2 + g n in
    ⊎_elim
    (λ last.
    ap (λ (k : ℕ). x / 2 ^ k % 2) {y = 0} (omega arith)
    ∙ ap (λ (y : ℕ). y % 2) (div-one x)
    ∙ digits_mod (number g n) (bits n)
    ∙ ap g (sym last))
    (λ before.
    ap (λ (k : ℕ). x / 2 ^ k % 2) (omega arith)
    ∙ ap (λ (y : ℕ). y % 2) (sym (shr-shr x 1 (n - 1 - j)))
    ∙ ap (λ (y : ℕ). y / 2 ^ (n - 1 - j) % 2) (digits_div (number g n) (bits n))
    ∙ bit_number g n j before bits)
    (eq-or-lt_of_le (le_of_suc-le-suc below))
