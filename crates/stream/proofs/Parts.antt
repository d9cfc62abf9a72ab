-- The form of a line: the test `is_request` accepts exactly the lines that are the four parts with a space between.
-- Assumes nothing.
use Prim.Native.Nat.{ℕ, ◌+◌, ◌-◌, ◌^◌, ◌≤◌, ◌<◌}
use native.Mathlib.Omega.{arith}
use mathlib.Core.Path.{◌≡◌, ap, subst, ◌∙◌}
use mathlib.Core.Bool.{true, false}
use mathlib.Core.List.{List}
use Rattle.std.specs.Prelude.{Some, None}
use borrow.Author.Tests.{eq-eqb, eqb-true, le-leb, leb-true}
use lib.ListN.{length, get_or, take, drop, length-drop}
use lib.Seq.{length-take-le}
use Rattle.refusals.proofs.Tests.{by-test}
use Rattle.lines.specs.Digits.{within, all_digits, value_of, is_number}
use Rattle.lines.specs.Form.{every}
use Rattle.lines.specs.Text.{hex_octets, is_hex}
use Rattle.lines.proofs.Digits.{within_both, within_from, within_to, number_below, number_of_digits, number_size, number_digits}
use Rattle.lines.proofs.Form.{every_at}
use Rattle.lines.proofs.Text.{length-hex_octets, hex_of_digits}
use Rattle.stream.specs.Form.{m_size, m_text, key_text, input_text, direction_text, request_tests, is_request, request_of, asked}

-- what the test of the form says, part by part
pub record Parts (line : List ℕ) : Type 0 where
  pub from : 45 ≤ length line
  pub to : length line ≤ 48
  pub space_1 : get_or line (m_size line) 0 ≡ 32
  pub space_2 : get_or line (m_size line + 33) 0 ≡ 32
  pub space_3 : get_or line (m_size line + 42) 0 ≡ 32
  pub m_digits : all_digits 10 (m_text line) ≡ true
  pub m_limit : value_of 10 (m_text line) ≤ 1520
  pub key_digits : all_digits 16 (key_text line) ≡ true
  pub input_digits : all_digits 16 (input_text line) ≡ true
  pub direction_from : 48 ≤ direction_text line
  pub direction_to : direction_text line ≤ 49

pub length-m_text : (line : List ℕ) → length (m_text line) ≡ length line - 44
unfolding m_text m_size
length-m_text line = length-take-le (length line - 44) line (omega arith)

module _ (line : List ℕ) where
  -- the tests say that the parts are right
  pub parts_of : is_request line ≡ true → Parts line
  unfolding is_request request_tests
  parts_of accepted =
      let test = every_at (request_tests line) accepted in
      let size : within 1 4 (length (m_text line)) ≡ true = number_size 10 4 (m_text line) (test 3) in
      record {
        from = omega (arith, within_from 1 4 (length (m_text line)) size, length-m_text line);
        to = omega (arith, within_to 1 4 (length (m_text line)) size, length-m_text line);
        space_1 = eqb-true _ _ (test 0);
        space_2 = eqb-true _ _ (test 1);
        space_3 = eqb-true _ _ (test 2);
        m_digits = number_digits 10 4 (m_text line) (test 3);
        m_limit = leb-true _ _ (test 4);
        key_digits = test 5;
        input_digits = test 6;
        direction_from = within_from 48 49 (direction_text line) (test 7);
        direction_to = within_to 48 49 (direction_text line) (test 7);
      }

  pub of_parts : Parts line → is_request line ≡ true
  unfolding is_request request_tests every
  of_parts parts =
      let m-number : is_number 10 4 (m_text line) ≡ true =
      number_of_digits 10 4 (m_text line) (omega (arith, length-m_text line)) (omega (arith, length-m_text line)) parts.m_digits in
      rw (
        eq-eqb _ _ parts.space_1,
        eq-eqb _ _ parts.space_2,
        eq-eqb _ _ parts.space_3,
        m-number,
        le-leb _ _ parts.m_limit,
        parts.key_digits,
        parts.input_digits,
        within_both 48 49 (direction_text line) parts.direction_from parts.direction_to,
      )

  -- where some part is wrong, the line is not accepted, and nothing is asked
  pub not_accepted : (Parts line → ⊥) → is_request line ≡ false
  not_accepted wrong = by-test (is_request line) _ (λ accepted. absurd (wrong (parts_of accepted))) (λ refused. refused)

  pub nothing_asked : (Parts line → ⊥) → None ≡ request_of line
  unfolding request_of
  nothing_asked wrong = rw (not_accepted wrong)

  pub parts_asked : Parts line → Some (asked line) ≡ request_of line
  unfolding request_of
  parts_asked parts = rw (of_parts parts)

-- ---- what the parts are good for

pub length-line : (line : List ℕ) → Parts line → length line ≡ m_size line + 44
unfolding m_size
length-line line parts = omega arith

length_part : (line : List ℕ) (at n : ℕ) → at + n ≤ length line → length (take n (drop at line)) ≡ n
length_part line at n within = length-take-le n (drop at line) (simp length-drop (omega arith))

module _ (line : List ℕ) (parts : Parts line) where
  pub length-key_text : length (key_text line) ≡ 32
  unfolding key_text
  length-key_text = length_part line (m_size line + 1) 32 (omega (arith, length-line line parts))

  pub length-input_text : length (input_text line) ≡ 8
  unfolding input_text
  length-input_text = length_part line (m_size line + 34) 8 (omega (arith, length-line line parts))

  -- the readers of numbers and of hex accept them
  pub m_read : is_number 10 10 (m_text line) ≡ true
  m_read = number_of_digits 10 10 (m_text line) (omega (arith, length-m_text line)) (omega (arith, length-m_text line)) parts.m_digits

  pub key_read : is_hex (key_text line) ≡ true
  key_read = hex_of_digits (key_text line) (rw length-key_text) parts.key_digits

  pub length_key : length (hex_octets (key_text line)) ≡ 16
  length_key = length-hex_octets (key_text line) ∙ rw length-key_text

  pub input_read : is_number 16 16 (input_text line) ≡ true
  input_read = number_of_digits 16 16 (input_text line) (omega (arith, length-input_text)) (omega (arith, length-input_text)) parts.input_digits

  -- eight hex digits fit in 32 bits
  pub input_fits : value_of 16 (input_text line) < 2 ^ 32
  input_fits = subst (λ (n : ℕ). value_of 16 (input_text line) < 16 ^ n) length-input_text (number_below 16 (input_text line) parts.input_digits)

-- ---- what a line asks, by its values

-- the parts as the code cuts them out
pub key_part : (line : List ℕ) → take (m_size line + 33 - (m_size line + 1)) (drop (m_size line + 1) line) ≡ key_text line
unfolding key_text
key_part line =
    let size : m_size line + 33 - (m_size line + 1) ≡ 32 = omega arith in
    ap (λ (n : ℕ). take n (drop (m_size line + 1) line)) size

pub input_part : (line : List ℕ) → take (m_size line + 42 - (m_size line + 34)) (drop (m_size line + 34) line) ≡ input_text line
unfolding input_text
input_part line =
    let size : m_size line + 42 - (m_size line + 34) ≡ 8 = omega arith in
    ap (λ (n : ℕ). take n (drop (m_size line + 34) line)) size

pub asked_by_values : (line : List ℕ) (m : ℕ) (key : List ℕ) (input : ℕ) → Parts line
    → m ≡ value_of 10 (m_text line) → key ≡ hex_octets (key_text line) → input ≡ value_of 16 (input_text line)
    → Some (record { m = m; key = key; input = input; direction = direction_text line - 48 }) ≡ request_of line
unfolding asked
asked_by_values line m key input parts e-m e-key e-input =
    (λ i. Some (record { m = e-m i; key = e-key i; input = e-input i; direction = direction_text line - 48 })) ∙ parts_asked line parts
