-- The laws of numbers in decimal: digit by digit, how many digits, that the text reads back as the number, and that it has no leading zero.
-- Assumes nothing.
use Prim.Native.Nat.{ℕ, zero, suc, ◌+◌, ◌*◌, ◌/◌, ◌%◌, ◌^◌, ◌≤◌, ◌<◌}
use native.Mathlib.Decide.{dec_lt}
use native.Mathlib.Nat.{pow-suc}
use native.Mathlib.Omega.{arith}
use mathlib.Core.Path.{◌≡◌, refl, sym, ap, subst, ◌∙◌}
use mathlib.Core.Bool.{true, and-eq-true_iff}
use mathlib.Core.List.{List, [], ◌∷◌, ◌++◌}
use borrow.Author.Tests.{lt-ltb, le-ltb}
use lib.Dec.{ltb, lit≤}
use lib.ListN.{length, get_or, length-append, get_or-append}
use Rattle.lines.specs.Digits.{digit_value, all_digits, value_from, value_of, is_number}
use Rattle.lines.specs.Text.{glyph_of, decimal_digits, decimal_text}
use Rattle.lines.proofs.Digits.{decimal_digit, number_of_digits}
use Rattle.lines.proofs.Text.{length_either}

-- ---- digit by digit

module _ (most number : ℕ) where
  one_digit : number < 10 → decimal_digits (suc most) number ≡ glyph_of number ∷ []
  unfolding decimal_digits
  one_digit small = rw (lt-ltb number 10 small)

  more_digits : 10 ≤ number → decimal_digits (suc most) number ≡ decimal_digits most (number / 10) ++ glyph_of (number % 10) ∷ []
  unfolding decimal_digits
  more_digits large = rw (le-ltb number 10 large)

-- a tenth has a digit less
tenth_below : (most number : ℕ) → number < 10 ^ suc most → number / 10 < 10 ^ most
tenth_below most number below = omega (arith, rw pow-suc at below)

-- where the digits are enough, one more changes nothing
enough : (most number : ℕ) → number < 10 ^ suc most → decimal_digits (suc most) number ≡ decimal_digits (suc (suc most)) number
enough zero number below =
    let small : number < 10 = omega (arith, below) in
    one_digit zero number small ∙ sym (one_digit 1 number small)
enough (suc most) number below =
    elim (dec_lt number 10) [
      | yes small ↦ one_digit (suc most) number small ∙ sym (one_digit (suc (suc most)) number small)
      | no large ↦
          more_digits (suc most) number (omega arith)
          ∙ ap (λ (l : List ℕ). l ++ glyph_of (number % 10) ∷ []) (enough most (number / 10) (tenth_below (suc most) number below))
          ∙ sym (more_digits (suc (suc most)) number (omega arith))
    ]

module _ (number : ℕ) where
  pub decimal_one : number < 10 → decimal_text number ≡ glyph_of number ∷ []
  unfolding decimal_text
  decimal_one small = one_digit 9 number small

  pub decimal_more : 10 ≤ number → number < 10 ^ 10 → decimal_text number ≡ decimal_text (number / 10) ++ glyph_of (number % 10) ∷ []
  unfolding decimal_text
  decimal_more large below =
      more_digits 9 number large
      ∙ ap (λ (l : List ℕ). l ++ glyph_of (number % 10) ∷ []) (enough 8 (number / 10) (tenth_below 9 number below))

-- ---- how many digits

length_digits : (most number : ℕ) → length (decimal_digits most number) ≤ most
unfolding decimal_digits
length_digits zero number = lit≤ tt
length_digits (suc most) number =
    length_either (ltb number 10) _ _ (suc most) (omega arith) (simp length-append (omega (arith, length_digits most (number / 10))))

-- decimal text has at most ten digits
pub length-decimal_text : (number : ℕ) → length (decimal_text number) ≤ 10
unfolding decimal_text
length-decimal_text number = length_digits 10 number

pub length_more : (number : ℕ) → 10 ≤ number → number < 10 ^ 10 → length (decimal_text number) ≡ length (decimal_text (number / 10)) + 1
length_more number large below =
    ap length (decimal_more number large below) ∙ length-append (decimal_text (number / 10)) (glyph_of (number % 10) ∷ [])

-- ---- what the text reads as

glyph_value : (digit : ℕ) → digit < 10 → digit_value (glyph_of digit) ≡ digit
unfolding glyph_of
glyph_value digit small =
    rw (lt-ltb digit 10 small) (sym (decimal_digit (48 + digit) digit (omega arith) (omega arith) (omega arith)))

number_append : (value : ℕ) (a : List ℕ) (octet : ℕ) → value_from 10 value (a ++ octet ∷ []) ≡ value_from 10 value a * 10 + digit_value octet
unfolding value_from
number_append value [] octet = refl
number_append value (first ∷ a) octet = number_append (value * 10 + digit_value first) a octet

digits_append : (a : List ℕ) (octet : ℕ) → all_digits 10 a ≡ true → digit_value octet < 10 → all_digits 10 (a ++ octet ∷ []) ≡ true
unfolding all_digits
digits_append [] octet all next = rw (lt-ltb (digit_value octet) 10 next)
digits_append (first ∷ a) octet all next =
    let halves = (and-eq-true_iff (ltb (digit_value first) 10) _).0 all in
    (and-eq-true_iff (ltb (digit_value first) 10) _).1 (halves.0, digits_append a octet halves.1 next)

-- the digits of a number: there are some, all are digits, they write the number, and the first is 0 for the number 0 alone
record Written (number : ℕ) (text : List ℕ) : Type 0 where
  some : 1 ≤ length text
  digits : all_digits 10 text ≡ true
  value : value_of 10 text ≡ number
  no_zero : 0 < number → 0 < digit_value (get_or text 0 0)

written_one : (number : ℕ) → number < 10 → Written number (glyph_of number ∷ [])
unfolding all_digits value_of value_from
written_one number small =
    let is : digit_value (glyph_of number) ≡ number = glyph_value number small in
    record {
      some = lit≤ tt;
      digits = rw (is, lt-ltb number 10 small);
      value = omega (arith, is);
      no_zero = λ above. omega (arith, is);
    }

written_more : (number : ℕ) (text : List ℕ) → 10 ≤ number → Written (number / 10) text → Written number (text ++ glyph_of (number % 10) ∷ [])
unfolding value_of
written_more number text large tenth =
    let is : digit_value (glyph_of (number % 10)) ≡ number % 10 = glyph_value (number % 10) (omega arith) in
    record {
      some = simp length-append (omega arith);
      digits = digits_append text (glyph_of (number % 10)) tenth.digits (omega (arith, is));
      value = number_append 0 text (glyph_of (number % 10)) ∙ omega (arith, is, tenth.value);
      no_zero = λ _. rw (get_or-append text (glyph_of (number % 10) ∷ []) 0 0 tenth.some) (tenth.no_zero (omega arith));
    }

written_digits : (most number : ℕ) → number < 10 ^ suc most → Written number (decimal_digits (suc most) number)
written_digits zero number below =
    let small : number < 10 = omega (arith, below) in
    subst (Written number) (sym (one_digit zero number small)) (written_one number small)
written_digits (suc most) number below =
    elim (dec_lt number 10) [
      | yes small ↦ subst (Written number) (sym (one_digit (suc most) number small)) (written_one number small)
      | no large ↦
          subst (Written number) (sym (more_digits (suc most) number (omega arith)))
          (written_more number _ (omega arith) (written_digits most (number / 10) (tenth_below (suc most) number below)))
    ]

module _ (number : ℕ) (below : number < 10 ^ 10) where
  -- the text of a number reads as that number
  pub decimal_reads : (is_number 10 10 (decimal_text number) ≡ true) × (value_of 10 (decimal_text number) ≡ number)
  unfolding decimal_text
  decimal_reads =
      let written = written_digits 9 number below in
      (number_of_digits 10 10 (decimal_text number) written.some (length-decimal_text number) written.digits, written.value)

  -- and has no leading zero
  pub decimal_no_zero : 0 < number → 0 < digit_value (get_or (decimal_text number) 0 0)
  unfolding decimal_text
  decimal_no_zero = (written_digits 9 number below).no_zero
