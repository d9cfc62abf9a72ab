-- `stream::form::request_of` meets its contract: each test that fails names a part that is wrong, and past them all the parts are right.
-- Assumes nothing.
use Prim.Native.Nat.{ℕ}
use lib.ListN.{replicate}
use mathlib.Core.Bool.{true}
use mathlib.Core.List.{List, [], ◌∷◌}
use mathlib.Core.Path.{◌≡◌, refl, subst, ◌∙◌}
use native.Mathlib.Omega.{arith}
use Rattle.refusals.specs.Call.{Answered}
use Rattle.refusals.specs.Number.{number_of}
use Rattle.refusals.proofs.Number.{number_some}
use Rattle.refusals.proofs.Within.{front_whole}
use Rattle.lines.specs.Digits.{value_of, is_number, hexadecimal_call}
use Rattle.lines.specs.Text.{hex_octets, octets_of_hex_call}
use Rattle.lines.proofs.Digits.{number_digits}
use Rattle.lines.proofs.Text.{hex_digits}
use Rattle.lines.proofs.Callers.{number_taken, number_read, put_done, hex_fits, hex_read}
use Rattle.stream.specs.Form.{m_size, m_text, key_text, input_text, direction_text}
use Rattle.stream.proofs.Parts.{Parts, nothing_asked, key_part, input_part, length_key, m_read, key_read, input_read, input_fits, asked_by_values}
use Rattle.stream.proofs.form.request_of.Goals.{Else-direction-gt49, In-Ok, In-Ok-hexadecimal, In-Ok-octets_of_hex}
use Rattle.stream.proofs.form.request_of.Goals as goal

-- M was read
m_is : (c : In-Ok) → (is_number 10 10 (m_text c.args.line.now) ≡ true) × (c.in-Ok.m ≡ value_of 10 (m_text c.args.line.now))
unfolding m_text m_size
m_is c = number_read 10 10 _ c.in-Ok.ensures refl

-- so was the key
key_is : (c : In-Ok-octets_of_hex)
    → Answered (octets_of_hex_call (key_text c.args.line.now) (replicate 16 0)) 0 (c.in-Ok-octets_of_hex.field-0 ∷ []) c.octets_of_hex.new.output
unfolding m_size
key_is c =
    subst (λ (text : List ℕ). Answered (octets_of_hex_call text (replicate 16 0)) 0 (c.in-Ok-octets_of_hex.field-0 ∷ []) c.octets_of_hex.new.output)
    (key_part c.args.line.now) c.in-Ok-octets_of_hex.ensures

-- and INPUT
input_is : (c : In-Ok-hexadecimal)
    → (is_number 16 16 (input_text c.args.line.now) ≡ true) × (c.in-Ok-hexadecimal.input ≡ value_of 16 (input_text c.args.line.now))
unfolding m_size
input_is c =
    number_read 16 16 _
    (subst (λ (text : List ℕ). Answered (hexadecimal_call text) 0 (c.in-Ok-hexadecimal.input ∷ []) tt) (input_part c.args.line.now) c.in-Ok-hexadecimal.ensures)
    refl

-- past all tests the parts are right
all_right : (c : Else-direction-gt49) → Parts c.args.line.now
unfolding m_size m_text direction_text
all_right c =
    let text = c.args.line.now in
    let m_read = m_is (goal.at.Else-direction-gt49 c).In-Ok in
    record {
      from = omega arith;
      to = omega arith;
      space_1 = c.if-line-size-ne32.false;
      space_2 = c.if-line-size-ne32-2.false;
      space_3 = c.if-line-size-ne32-3.false;
      m_digits = number_digits 10 10 (m_text text) m_read.0;
      m_limit = omega (arith, m_read.1, c.if-m-gt-M_LIMIT.false);
      key_digits = hex_digits (key_text text) (hex_read (key_text text) _ (key_is (goal.at.Else-direction-gt49 c).In-Ok-octets_of_hex) refl);
      input_digits = number_digits 16 16 (input_text text) (input_is (goal.at.Else-direction-gt49 c).In-Ok-hexadecimal).0;
      direction_from = omega arith;
      direction_to = omega arith;
    }

pub returns-then-line : goal.returns-then-line
returns-then-line c = nothing_asked _ (λ parts. omega arith)

pub returns-then-line-2 : goal.returns-then-line-2
returns-then-line-2 c = nothing_asked _ (λ parts. omega arith)

pub returns-then-line-size-ne32 : goal.returns-then-line-size-ne32
unfolding m_size
returns-then-line-size-ne32 c = nothing_asked _ (λ parts. c.if-line-size-ne32.true parts.space_1)

pub returns-then-line-size-ne32-2 : goal.returns-then-line-size-ne32-2
unfolding m_size
returns-then-line-size-ne32-2 c = nothing_asked _ (λ parts. c.if-line-size-ne32-2.true parts.space_2)

pub returns-then-line-size-ne32-3 : goal.returns-then-line-size-ne32-3
unfolding m_size
returns-then-line-size-ne32-3 c = nothing_asked _ (λ parts. c.if-line-size-ne32-3.true parts.space_3)

pub returns-in_default : goal.returns-in_default
unfolding m_size m_text
returns-in_default c =
    nothing_asked _ (λ parts. number_some c.in_default.field-0 (number_taken 10 10 _ c.in_default.ensures (m_read c.args.line.now parts)))

pub returns-then-m-gt-M_LIMIT : goal.returns-then-m-gt-M_LIMIT
unfolding m_size m_text
returns-then-m-gt-M_LIMIT c = nothing_asked _ (λ parts. omega (arith, (m_is (goal.at.returns-then-m-gt-M_LIMIT c).In-Ok).1))

pub returns-in_default-octets_of_hex : goal.returns-in_default-octets_of_hex
unfolding m_size
returns-in_default-octets_of_hex c =
    let line = c.args.line.now in
    let answered =
    subst (λ (text : List ℕ). Answered (octets_of_hex_call text (replicate 16 0)) (number_of c.in_default-octets_of_hex.field-0) (0 ∷ []) c.octets_of_hex.new.output)
    (key_part line) c.in_default-octets_of_hex.ensures in
    nothing_asked _ (λ parts. number_some c.in_default-octets_of_hex.field-0 (hex_fits _ _ answered (key_read _ parts) (omega (arith, length_key _ parts))))

pub returns-in_default-hexadecimal : goal.returns-in_default-hexadecimal
unfolding m_size
returns-in_default-hexadecimal c =
    let answered =
    subst (λ (text : List ℕ). Answered (hexadecimal_call text) (number_of c.in_default-hexadecimal.field-0) (0 ∷ []) tt)
    (input_part c.args.line.now) c.in_default-hexadecimal.ensures in
    nothing_asked _ (λ parts. number_some c.in_default-hexadecimal.field-0 (number_taken 16 16 _ answered (input_read _ parts)))

pub returns-then-direction-lt48 : goal.returns-then-direction-lt48
unfolding m_size direction_text
returns-then-direction-lt48 c = nothing_asked _ (λ parts. omega arith)

pub returns-then-direction-gt49 : goal.returns-then-direction-gt49
unfolding m_size direction_text
returns-then-direction-gt49 c = nothing_asked _ (λ parts. omega arith)

pub overflow_cast-result-2 : goal.overflow_cast-result-2
overflow_cast-result-2 c =
    omega (arith, (input_is (goal.at.overflow_cast-result-2 c).In-Ok-hexadecimal).1, input_fits _ (all_right (goal.at.overflow_cast-result-2 c).Else-direction-gt49))

pub returns : goal.returns
unfolding m_size direction_text
returns c =
    let right = all_right (goal.at.returns c).Else-direction-gt49 in
    let text = c.args.line.now in
    let key-put = put_done _ _ _ (key_is (goal.at.returns c).In-Ok-octets_of_hex) refl in
    asked_by_values text _ _ _ right
    (m_is (goal.at.returns c).In-Ok).1
    (key-put.output_is ∙ front_whole (hex_octets (key_text text)) (replicate 16 0) (length_key text right))
    (input_is (goal.at.returns c).In-Ok-hexadecimal).1
