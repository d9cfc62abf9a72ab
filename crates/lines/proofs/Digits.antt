-- The laws of digits and of the numbers that texts of digits write: `digit_value`, `all_digits`, `value_from`, `is_number`.
-- Assumes nothing.
use Prim.Native.Nat.{ℕ, zero, suc, ◌+◌, ◌-◌, ◌*◌, ◌^◌, ◌≤◌, ◌<◌}
use native.Mathlib.Nat.{add-zero, zero-add, not-suc-le-zero, le_of_suc-le-suc, pow-zero, pow-suc, pow-le-pow_right, lt_of_lt_of_le, le_trans}
use native.Mathlib.Numerals.{add-one}
use native.Mathlib.Omega.{arith}
use mathlib.Core.Path.{◌≡◌, refl, sym, ap, subst, ◌∙◌}
use mathlib.Core.Bool.{Bool, true, false, cond, and-eq-true_iff}
use mathlib.Core.List.{List, [], ◌∷◌}
use borrow.Author.Tests.{le-leb, lt-leb, lt-ltb, le-ltb, leb-true, ltb-true, ltb-false}
use lib.Arith.{digits_lt}
use lib.Dec.{leb, ltb, lit<}
use lib.ListN.{length, get_or, drop}
use lib.Seq.{drop-cons, drop-length}
use Rattle.std.specs.Prelude.{Option, Some, None}
use Rattle.std.specs.Option.{SomeIff, unwrap_or}
use Rattle.std.specs.Char.{digit_value as char_digit}
use Rattle.refusals.proofs.Tests.{by-test}
use Rattle.lines.specs.Digits.{within, digit_value, all_digits, value_from, value_of, is_number}

-- ---- a test of a range

pub within_both : (low high x : ℕ) → low ≤ x → x ≤ high → within low high x ≡ true
unfolding within
within_both low high x from to = rw (le-leb low x from, le-leb x high to)

pub within_below : (low high x : ℕ) → x < low → within low high x ≡ false
unfolding within
within_below low high x below = rw (lt-leb low x below)

pub within_above : (low high x : ℕ) → low ≤ x → high < x → within low high x ≡ false
unfolding within
within_above low high x from above = rw (le-leb low x from, lt-leb x high above)

pub within_from : (low high x : ℕ) → within low high x ≡ true → low ≤ x
unfolding within
within_from low high x e = leb-true low x ((and-eq-true_iff _ _).0 e).0

pub within_to : (low high x : ℕ) → within low high x ≡ true → x ≤ high
unfolding within
within_to low high x e = leb-true x high ((and-eq-true_iff (leb low x) _).0 e).1

-- ---- the value of an octet, by the range that it lies in

pub decimal_digit : (x r : ℕ) → 48 ≤ x → x ≤ 57 → r ≡ x - 48 → r ≡ digit_value x
unfolding digit_value
decimal_digit x r from to e = rw (within_both 48 57 x from to) e

pub capital_digit : (x r : ℕ) → 65 ≤ x → x ≤ 70 → r ≡ x - 55 → r ≡ digit_value x
unfolding digit_value
capital_digit x r from to e = rw (within_above 48 57 x (omega arith) (omega arith), within_both 65 70 x from to) e

pub small_digit : (x r : ℕ) → 97 ≤ x → x ≤ 102 → r ≡ x - 87 → r ≡ digit_value x
unfolding digit_value
small_digit x r from to e =
    rw (within_above 48 57 x (omega arith) (omega arith), within_above 65 70 x (omega arith) (omega arith), within_both 97 102 x from to) e

pub no_digit : (x : ℕ) → within 48 57 x ≡ false → within 65 70 x ≡ false → within 97 102 x ≡ false → 16 ≡ digit_value x
unfolding digit_value
no_digit x no-decimal no-capital no-small = rw (no-decimal, no-capital, no-small)

-- the digit that `to_digit` finds at 16, in the same ranges
module _ (x : ℕ) where
  by_order : (k : ℕ) (P : Type 0) → (x < k → P) → (k ≤ x → P) → P
  by_order k P below from = by-test (ltb x k) P (λ is. below (ltb-true x k is)) (λ is. from (ltb-false x k is))

  found : cond (ltb (char_digit x) 16) (char_digit x) 16 ≡ digit_value x
  found =
      by_order 48 _ (λ a. rw (lt-ltb x 48 a) (no_digit x (within_below 48 57 x (omega arith)) (within_below 65 70 x (omega arith)) (within_below 97 102 x (omega arith))))
      (λ a. by_order 58 _ (λ b. rw (le-ltb x 48 a, lt-ltb x 58 b, lt-ltb (x - 48) 16 (omega arith)) (decimal_digit x _ a (omega arith) refl))
      (λ b. by_order 65 _ (λ d. rw (le-ltb x 48 a, le-ltb x 58 b, lt-ltb x 65 d) (no_digit x (within_above 48 57 x (omega arith) (omega arith)) (within_below 65 70 x (omega arith)) (within_below 97 102 x (omega arith))))
      (λ d. by_order 71 _ (λ e. rw (le-ltb x 48 a, le-ltb x 58 b, le-ltb x 65 d, lt-ltb x 91 (omega arith), lt-ltb (x - 55) 16 (omega arith)) (capital_digit x _ d (omega arith) refl))
      (λ e. by_order 91 _ (λ f. rw (le-ltb x 48 a, le-ltb x 58 b, le-ltb x 65 d, lt-ltb x 91 f, le-ltb (x - 55) 16 (omega arith)) (no_digit x (within_above 48 57 x (omega arith) (omega arith)) (within_above 65 70 x (omega arith) (omega arith)) (within_below 97 102 x (omega arith))))
      (λ f. by_order 97 _ (λ g. rw (le-ltb x 48 a, le-ltb x 58 b, le-ltb x 65 d, le-ltb x 91 f, lt-ltb x 97 g) (no_digit x (within_above 48 57 x (omega arith) (omega arith)) (within_above 65 70 x (omega arith) (omega arith)) (within_below 97 102 x (omega arith))))
      (λ g. by_order 103 _ (λ h. rw (le-ltb x 48 a, le-ltb x 58 b, le-ltb x 65 d, le-ltb x 91 f, le-ltb x 97 g, lt-ltb x 123 (omega arith), lt-ltb (x - 87) 16 (omega arith)) (small_digit x _ g (omega arith) refl))
      (λ h. by_order 123 _ (λ i. rw (le-ltb x 48 a, le-ltb x 58 b, le-ltb x 65 d, le-ltb x 91 f, le-ltb x 97 g, lt-ltb x 123 i, le-ltb (x - 87) 16 (omega arith)) (no_digit x (within_above 48 57 x (omega arith) (omega arith)) (within_above 65 70 x (omega arith) (omega arith)) (within_above 97 102 x (omega arith) (omega arith))))
      (λ i. rw (le-ltb x 48 a, le-ltb x 58 b, le-ltb x 65 d, le-ltb x 91 f, le-ltb x 97 g, le-ltb x 123 i) (no_digit x (within_above 48 57 x (omega arith) (omega arith)) (within_above 65 70 x (omega arith) (omega arith)) (within_above 97 102 x (omega arith) (omega arith)))))))))))

  pub digit_found : (digit : Option ℕ) → SomeIff digit (char_digit x < 16) (char_digit x) → unwrap_or digit 16 ≡ digit_value x
  digit_found None none = ap (λ (test : Bool). cond test (char_digit x) 16) (sym (by-test (ltb (char_digit x) 16) (ltb (char_digit x) 16 ≡ false) (λ is. absurd (none (ltb-true _ 16 is))) (λ is. is))) ∙ found
  digit_found (Some value) some = some.1 ∙ ap (λ (test : Bool). cond test (char_digit x) 16) (sym (lt-ltb (char_digit x) 16 some.0)) ∙ found

-- ---- one digit more

-- a text from place i on is its octet there and the text from the next place on
pub from_place : (text : List ℕ) (i : ℕ) → i < length text → drop i text ≡ get_or text i 0 ∷ drop (i + 1) text
from_place text i inside = rw (add-one i) (drop-cons text i 0 inside)

pub number_end : (base value : ℕ) (text : List ℕ) (i : ℕ) → i ≡ length text → value_from base value (drop i text) ≡ value
unfolding value_from
number_end base value text i end = ap (λ (n : ℕ). value_from base value (drop n text)) end ∙ ap (value_from base value) (drop-length text)

pub number_step : (base value : ℕ) (text : List ℕ) (i : ℕ) → i < length text
    → value_from base value (drop i text) ≡ value_from base (value * base + digit_value (get_or text i 0)) (drop (i + 1) text)
unfolding value_from
number_step base value text i inside = ap (value_from base value) (from_place text i inside)

-- each digit of a text of digits is below the base
pub digit_below : (base : ℕ) (text : List ℕ) (i : ℕ) → i < length text → all_digits base text ≡ true → digit_value (get_or text i 0) < base
unfolding all_digits
digit_below base [] i inside all = absurd (not-suc-le-zero inside)
digit_below base (octet ∷ rest) zero inside all = ltb-true (digit_value octet) base ((and-eq-true_iff _ _).0 all).0
digit_below base (octet ∷ rest) (suc i) inside all =
    digit_below base rest i (le_of_suc-le-suc inside) ((and-eq-true_iff (ltb (digit_value octet) base) _).0 all).1

-- a number of i digits stays below base ^ i
pub one_digit_more : (base value next i : ℕ) → value < base ^ i → next < base → value * base + next < base ^ (i + 1)
one_digit_more base value next i below digit = rw (add-one i, pow-suc base i) (digits_lt below digit)

-- and so it fits, where the largest number of `most` digits fits
pub number_fits : (base value next i most : ℕ) → value < base ^ i → next < base → i < most → base ^ most ≤ 2 ^ 64 → value * base + next < 2 ^ 64
number_fits base value next i most below digit room fits =
    lt_of_lt_of_le (one_digit_more base value next i below digit) (le_trans (pow-le-pow_right (omega arith) {j = most} (omega arith)) fits)

-- ---- a whole number

-- digits after a value below base ^ i write a number below base ^ (i + their count)
below_after : (base value i : ℕ) (text : List ℕ) → value < base ^ i → all_digits base text ≡ true → value_from base value text < base ^ (i + length text)
unfolding all_digits value_from
below_after base value i [] below all = rw (add-zero i) below
below_after base value i (octet ∷ rest) below all =
    let digit : digit_value octet < base = ltb-true (digit_value octet) base ((and-eq-true_iff _ _).0 all).0 in
    let again : i + 1 + length rest ≡ i + suc (length rest) = omega arith in
    subst (λ (n : ℕ). value_from base (value * base + digit_value octet) rest < base ^ n) again
    (below_after base (value * base + digit_value octet) (i + 1) rest (one_digit_more base value (digit_value octet) i below digit)
    ((and-eq-true_iff (ltb (digit_value octet) base) _).0 all).1)

-- a text of n digits writes a number below base ^ n
pub number_below : (base : ℕ) (text : List ℕ) → all_digits base text ≡ true → value_of base text < base ^ length text
unfolding value_of
number_below base text all =
    subst (λ (n : ℕ). value_from base 0 text < base ^ n) (zero-add (length text))
    (below_after base 0 0 text (rw (pow-zero base) (lit< tt)) all)

-- the parts of the test of a number
pub number_of_digits : (base most : ℕ) (text : List ℕ) → 1 ≤ length text → length text ≤ most → all_digits base text ≡ true → is_number base most text ≡ true
unfolding is_number
number_of_digits base most text from to all = rw (within_both 1 most (length text) from to, all)

pub number_size : (base most : ℕ) (text : List ℕ) → is_number base most text ≡ true → within 1 most (length text) ≡ true
unfolding is_number
number_size base most text e = ((and-eq-true_iff _ _).0 e).0

pub number_digits : (base most : ℕ) (text : List ℕ) → is_number base most text ≡ true → all_digits base text ≡ true
unfolding is_number
number_digits base most text e = ((and-eq-true_iff (within 1 most (length text)) _).0 e).1
