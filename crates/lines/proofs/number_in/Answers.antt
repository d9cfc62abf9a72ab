-- `lines::number_in` meets its contract. The loop's invariant: what is left of the text, after the value so far, writes the number; and the value
-- so far has at most as many digits as were read.
-- Assumes nothing.
use Prim.Native.Nat.{ℕ, ◌+◌, ◌*◌, ◌^◌, ◌<◌, ◌≤◌}
use borrow.Author.Tests.{eqb-true, eqb-false}
use lib.Dec.{lit<}
use lib.ListN.{length, get_or, drop}
use mathlib.Core.Bool.{true}
use mathlib.Core.List.{[], ◌∷◌}
use mathlib.Core.Path.{◌≡◌, refl, sym, ap, ◌∙◌}
use native.Mathlib.Nat.{pow-zero}
use native.Mathlib.Omega.{arith}
use Rattle.refusals.specs.Refusal.{first}
use Rattle.lines.specs.Digits.{digit_value, all_digits, value_from, value_of, is_number, digits_order}
use Rattle.lines.proofs.Digits.{within_both, within_below, within_above, digit_below, number_step, number_end, one_digit_more, number_fits}
use Rattle.lines.proofs.number_in.Goals.{Else-is_empty, Else-not-all_digits, In-loop-octet}
use Rattle.lines.proofs.number_in.Goals as goal

-- past the first test there is an octet
some : (c : Else-is_empty) → 1 ≤ length c.args.text.now
some c =
    let none-not : length c.args.text.now ≡ 0 → ⊥ = eqb-false _ 0 (sym c.is_empty.ensures ∙ c.if-is_empty.false) in
    omega arith

-- all are digits: the loop is reached only so
are_digits : (c : Else-not-all_digits) → all_digits c.args.base c.args.text.now ≡ true
are_digits c = sym c.all_digits.ensures ∙ c.if-not-all_digits.false

-- with the next digit the value still fits
next_fits : (c : In-loop-octet)
    → c.loop-octet.value * c.args.base + digit_value (get_or c.args.text.now c.loop-octet.octet-index 0) < 2 ^ 64
next_fits c =
    let i : ℕ = c.loop-octet.octet-index in
    number_fits c.args.base c.loop-octet.value _ i c.args.most c.loop-octet.invariant.1
    (digit_below c.args.base c.args.text.now i (omega arith) (are_digits (goal.at.In-loop-octet c).Else-not-all_digits))
    (omega arith) c.requires

pub returns-then-is_empty : goal.returns-then-is_empty
unfolding first digits_order is_number
returns-then-is_empty c =
    let none : length c.args.text.now ≡ 0 = eqb-true _ 0 (sym c.is_empty.ensures ∙ c.if-is_empty.true) in
    record { refusal_is = rw (within_below 1 c.args.most (length c.args.text.now) (omega arith)); numbers_are = refl; lent_is = refl }

pub returns-then-most-text : goal.returns-then-most-text
unfolding first digits_order is_number
returns-then-most-text c = record { refusal_is = rw (within_above 1 _ _ (some (goal.at.returns-then-most-text c).Else-is_empty) c.if-most-text.true); numbers_are = refl; lent_is = refl }

pub returns-then-not-all_digits : goal.returns-then-not-all_digits
unfolding first digits_order is_number
returns-then-not-all_digits c =
    record {
      refusal_is =
          rw (within_both 1 c.args.most (length c.args.text.now) (some (goal.at.returns-then-not-all_digits c).Else-is_empty) (omega arith), sym c.all_digits.ensures ∙ c.if-not-all_digits.true);
      numbers_are = refl;
      lent_is = refl;
    }

pub loop-octet-init : goal.loop-octet-init
unfolding value_of
loop-octet-init c = (refl, rw pow-zero (lit< tt))

pub overflow_mul-value : goal.overflow_mul-value
overflow_mul-value c = omega (arith, next_fits c)

pub overflow_add-value : goal.overflow_add-value
overflow_add-value c = omega (arith, next_fits (goal.at.overflow_add-value c).In-loop-octet)

pub loop-octet-preserved : goal.loop-octet-preserved
loop-octet-preserved c =
    let given = c.args in
    let text = given.text.now in
    let value : ℕ = c.loop-octet.value in
    let i : ℕ = c.loop-octet.octet-index in (
      ap (λ (next : ℕ). value_from given.base (value * given.base + next) (drop (i + 1) text)) c.digit.ensures
          ∙ sym (number_step given.base value text i (omega arith))
          ∙ c.loop-octet.invariant.0,
      one_digit_more given.base value c.digit.result i c.loop-octet.invariant.1
          (omega (arith, digit_below given.base text i (omega arith) (are_digits (goal.at.loop-octet-preserved c).Else-not-all_digits))),
    )

pub returns : goal.returns
unfolding first digits_order is_number
returns c =
    let given = c.args in
    let text = given.text.now in
    record {
      refusal_is = rw (within_both 1 given.most (length text) (some (goal.at.returns c).Else-is_empty) (omega arith), are_digits (goal.at.returns c).Else-not-all_digits);
      numbers_are =
          ap (λ (n : ℕ). n ∷ []) (sym (number_end given.base c.loop-octet.value text c.loop-octet.octet-index (omega arith)) ∙ c.loop-octet.invariant.0);
      lent_is = refl;
    }
