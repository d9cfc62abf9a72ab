-- What a line of the form is answered: with M 0 the refusal 3, and with any other M the M octets of GEA4 as capital hex. No other refusal comes.
-- And what a line not of the form is answered. Assumes nothing.
use Prim.Native.Nat.{ℕ, ◌-◌, ◌≤◌, ◌<◌}
use native.Mathlib.Omega.{arith}
use mathlib.Core.Path.{◌≡◌, refl, sym, ap, ap₂, subst, ◌∙◌}
use mathlib.Core.Bool.{false}
use mathlib.Core.List.{List, [], ◌∷◌}
use borrow.Author.Tests.{le-ltb}
use lib.ListN.{length, take, replicate, length-replicate}
use Rattle.refusals.specs.Refusal.{first}
use Rattle.refusals.specs.Call.{front, outcome}
use Rattle.lines.specs.Digits.{value_of}
use Rattle.lines.specs.Text.{ended, glyph_of, hex_text, decimal_digits, decimal_text, hex_octets}
use Rattle.lines.proofs.Text.{take-front}
use Rattle.keystreams.specs.Gea4.{gea4_output, gea4_order}
use Rattle.keystreams.proofs.Keys.{whole_is_key}
use Rattle.keystreams.proofs.Laws.{length_gea4, gea4_done}
use Rattle.stream.specs.Form.{RequestLine, m_text, direction_text, is_request, asked}
use Rattle.stream.specs.Answer.{outcome_of, request_text, answer_text}
use Rattle.stream.proofs.Accepted.{form_accepted, form_parts}
use Rattle.stream.proofs.Answers.{text_refused, text_done}
use Rattle.stream.proofs.Parts.{parts_of, length_key}

-- a line not of the form: `?`
pub bad_line : (line : List ℕ) → is_request line ≡ false → ended (answer_text line) ≡ 63 ∷ 10 ∷ []
unfolding answer_text ended
bad_line line refused = rw refused

module _ {line m key input : List ℕ} {direction : ℕ} (form : RequestLine line m key input direction) where
  sixteen : length (asked line).key ≡ 16
  unfolding asked
  sixteen = length_key line (parts_of line (form_accepted form))

  way : (asked line).direction ≤ 1
  unfolding asked
  way = omega (arith, (parts_of line (form_accepted form)).direction_to)

  answer_form : ended (answer_text line) ≡ ended (request_text (asked line))
  unfolding answer_text
  answer_form = rw (form_accepted form)

  m_is : (asked line).m ≡ value_of 10 m
  unfolding asked
  m_is = ap (value_of 10) (sym (form_parts form).0)

  -- M 0 is of the form, and is refused with 3
  refused_three : value_of 10 m ≡ 0 → (outcome_of (asked line)).refusal ≡ 3
  unfolding outcome_of outcome first gea4_order
  refused_three none = rw (whole_is_key (asked line).key sixteen, le-ltb 1 (asked line).direction way, m_is ∙ none)

  pub zero_octets : value_of 10 m ≡ 0 → ended (answer_text line) ≡ 51 ∷ 10 ∷ []
  unfolding ended decimal_text decimal_digits glyph_of
  zero_octets none =
      let three : (outcome_of (asked line)).refusal ≡ 3 = refused_three none in
      answer_form ∙ ap ended (text_refused (asked line) (λ zero. omega (arith, three)) ∙ ap decimal_text three)

  -- any other M is answered with its octets
  octets_of_lem : List ℕ
  octets_of_lem = gea4_output (asked line).key (asked line).input (asked line).direction (asked line).m

  not_refused : 0 < value_of 10 m → ((outcome_of (asked line)).refusal ≡ 0) × ((outcome_of (asked line)).lent ≡ front octets_of_lem (replicate 1520 0))
  unfolding outcome_of outcome octets_of_lem
  not_refused some =
      gea4_done (asked line).key (asked line).input (asked line).direction (asked line).m (replicate 1520 0) (record { refusal_is = refl; numbers_are = refl; lent_is = refl })
      (whole_is_key (asked line).key sixteen) way (omega (arith, m_is)) (omega (arith, m_is, form.m_limit))
      (subst (λ (n : ℕ). (asked line).m ≤ n) (sym (length-replicate {A = ℕ} 1520 0)) (omega (arith, m_is, form.m_limit)))

  octets_are : octets_of_lem ≡ gea4_output (hex_octets key) (value_of 16 input) (direction - 48) (value_of 10 m)
  unfolding octets_of_lem asked
  octets_are =
      let parts = form_parts form in
      ap₂ (λ (k : List ℕ) (i : List ℕ). gea4_output (hex_octets k) (value_of 16 i) (direction_text line - 48) (value_of 10 (m_text line))) (sym parts.1) (sym parts.2)
      ∙ ap₂ (λ (d : ℕ) (l : List ℕ). gea4_output (hex_octets key) (value_of 16 input) (d - 48) (value_of 10 l)) (sym parts.3) (sym parts.0)

  -- they are the first M of the output
  first_octets : 0 < value_of 10 m → take (asked line).m (outcome_of (asked line)).lent ≡ octets_of_lem
  unfolding octets_of_lem
  first_octets some =
      ap (take (asked line).m) (not_refused some).1
      ∙ ap (λ (n : ℕ). take n (front octets_of_lem (replicate 1520 0))) (sym (length_gea4 (asked line).key (asked line).input (asked line).direction (asked line).m))
      ∙ take-front octets_of_lem (replicate 1520 0)

  pub some_octets : 0 < value_of 10 m
      → ended (answer_text line) ≡ ended (hex_text (gea4_output (hex_octets key) (value_of 16 input) (direction - 48) (value_of 10 m)))
  some_octets some = answer_form ∙ ap ended (text_done (asked line) (not_refused some).0 ∙ ap hex_text (first_octets some ∙ octets_are))
