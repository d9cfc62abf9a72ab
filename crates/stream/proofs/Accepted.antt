-- The test of the form accepts exactly the lines that are the four parts with a space between, and a line has its parts in one way only.
-- Assumes nothing.
use Prim.Native.Nat.{ℕ, ◌+◌, ◌≤◌, ◌<◌}
use native.Mathlib.Nat.{add-zero}
use native.Mathlib.Omega.{arith}
use mathlib.Core.Path.{◌≡◌, refl, sym, ap, ap₂, subst, ◌∙◌}
use mathlib.Core.Bool.{true}
use mathlib.Core.List.{List, [], ◌∷◌, ◌++◌}
use lib.ListN.{length, get_or, take, drop, length-append, take-append-drop, drop_of_length-le}
use lib.Seq.{drop-drop, take_at, take-append_seam, drop-append-add, get_or-append-add}
use Rattle.lines.specs.Digits.{within, all_digits, value_of}
use Rattle.lines.proofs.Digits.{within_both, within_from, within_to, from_place, number_of_digits, number_size, number_digits}
use Rattle.stream.specs.Form.{RequestLine, m_size, m_text, key_text, input_text, direction_text, is_request}
use Rattle.stream.proofs.Parts.{parts_of, of_parts, length-line, length-m_text, length-key_text, length-input_text}

-- ---- a line by its parts

module _ (line : List ℕ) where
  -- from place `at` on: n octets, and the rest
  part_then : (at n next : ℕ) → at + n ≡ next → drop at line ≡ take n (drop at line) ++ drop next line
  part_then at n next e =
      sym (take-append-drop n (drop at line)) ∙ ap (λ (l : List ℕ). take n (drop at line) ++ l) (drop-drop n at line ∙ ap (λ (j : ℕ). drop j line) e)

  -- from place `at` on: a space, and the rest
  space_then : (at next : ℕ) → at < length line → get_or line at 0 ≡ 32 → at + 1 ≡ next → drop at line ≡ 32 ∷ drop next line
  space_then at next inside space e = from_place line at inside ∙ ap₂ (λ (x j : ℕ). x ∷ drop j line) space e

  -- the last octet
  last : (at : ℕ) → length line ≡ at + 1 → drop at line ≡ get_or line at 0 ∷ []
  last at e = from_place line at (omega arith) ∙ ap (λ (l : List ℕ). get_or line at 0 ∷ l) (drop_of_length-le line {i = at + 1} (omega arith))

  joined : (k : ℕ) → length line ≡ k + 44 → get_or line k 0 ≡ 32 → get_or line (k + 33) 0 ≡ 32 → get_or line (k + 42) 0 ≡ 32
      → line ≡ take k line ++ 32 ∷ (take 32 (drop (k + 1) line) ++ 32 ∷ (take 8 (drop (k + 34) line) ++ 32 ∷ get_or line (k + 43) 0 ∷ []))
  joined k whole space_1 space_2 space_3 =
      sym (take-append-drop k line)
      ∙ ap (λ (l : List ℕ). take k line ++ l)
      (space_then k (k + 1) (omega arith) space_1 refl
      ∙ ap (λ (l : List ℕ). 32 ∷ l)
      (part_then (k + 1) 32 (k + 33) (omega arith)
      ∙ ap (λ (l : List ℕ). take 32 (drop (k + 1) line) ++ l)
      (space_then (k + 33) (k + 34) (omega arith) space_2 (omega arith)
      ∙ ap (λ (l : List ℕ). 32 ∷ l)
      (part_then (k + 34) 8 (k + 42) (omega arith)
      ∙ ap (λ (l : List ℕ). take 8 (drop (k + 34) line) ++ l)
      (space_then (k + 42) (k + 43) (omega arith) space_3 (omega arith) ∙ ap (λ (l : List ℕ). 32 ∷ l) (last (k + 43) (omega arith)))))))

-- a line that is accepted has the form, with the parts that the definition takes
pub accepted_has_form : (line : List ℕ) → is_request line ≡ true → RequestLine line (m_text line) (key_text line) (input_text line) (direction_text line)
unfolding m_text key_text input_text direction_text
accepted_has_form line accepted =
    let parts = parts_of line accepted in
    record {
      line_is = joined line (m_size line) (length-line line parts) parts.space_1 parts.space_2 parts.space_3;
      m_digits = number_of_digits 10 4 (m_text line) (omega (arith, length-m_text line)) (omega (arith, length-m_text line)) parts.m_digits;
      m_limit = parts.m_limit;
      key_size = length-key_text line parts;
      key_digits = parts.key_digits;
      input_size = length-input_text line parts;
      input_digits = parts.input_digits;
      direction_digit = within_both 48 49 (direction_text line) parts.direction_from parts.direction_to;
    }

-- ---- a line made of parts

module _ (m key input : List ℕ) (direction : ℕ) (key_size : length key ≡ 32) (input_size : length input ≡ 8) where
  after_input : List ℕ
  after_input = 32 ∷ direction ∷ []

  after_key : List ℕ
  after_key = 32 ∷ (input ++ after_input)

  after_m : List ℕ
  after_m = 32 ∷ (key ++ after_key)

  made : List ℕ
  made = m ++ after_m

  length-made : length made ≡ length m + 44
  unfolding made after_m after_key after_input
  length-made = simp (length-append, key_size, input_size)

  size_made : m_size made ≡ length m
  unfolding m_size
  size_made = omega (arith, length-made)

  -- from place n on, counted from M's end, and the octet there
  from_m : (n : ℕ) → drop (m_size made + n) made ≡ drop n after_m
  unfolding made
  from_m n = ap (λ (k : ℕ). drop (k + n) made) size_made ∙ drop-append-add m after_m n

  at_m : (n : ℕ) → get_or made (m_size made + n) 0 ≡ get_or after_m n 0
  unfolding made
  at_m n = ap (λ (k : ℕ). get_or made (k + n) 0) size_made ∙ get_or-append-add m after_m n 0

  -- counted from the key's end
  from_key : (n : ℕ) → drop (32 + n) (key ++ after_key) ≡ drop n after_key
  from_key n = ap (λ (k : ℕ). drop (k + n) (key ++ after_key)) (sym key_size) ∙ drop-append-add key after_key n

  at_key : (n : ℕ) → get_or (key ++ after_key) (32 + n) 0 ≡ get_or after_key n 0
  at_key n = ap (λ (k : ℕ). get_or (key ++ after_key) (k + n) 0) (sym key_size) ∙ get_or-append-add key after_key n 0

  at_input : (n : ℕ) → get_or (input ++ after_input) (8 + n) 0 ≡ get_or after_input n 0
  at_input n = ap (λ (k : ℕ). get_or (input ++ after_input) (k + n) 0) (sym input_size) ∙ get_or-append-add input after_input n 0

  made_m : m_text made ≡ m
  unfolding m_text made
  made_m = ap (λ (k : ℕ). take k made) size_made ∙ take-append_seam m after_m

  made_key : key_text made ≡ key
  unfolding key_text after_m
  made_key = ap (take 32) (from_m 1) ∙ take_at key after_key 32 key_size

  made_input : input_text made ≡ input
  unfolding input_text after_m after_key
  made_input = ap (take 8) (from_m 34 ∙ from_key 1) ∙ take_at input after_input 8 input_size

  made_direction : direction_text made ≡ direction
  unfolding direction_text after_m after_key after_input
  made_direction = at_m 43 ∙ at_key 10 ∙ at_input 1

  made_spaces : (get_or made (m_size made) 0 ≡ 32) × (get_or made (m_size made + 33) 0 ≡ 32) × (get_or made (m_size made + 42) 0 ≡ 32)
  unfolding after_m after_key after_input
  made_spaces = (
    ap (λ (n : ℕ). get_or made n 0) (sym (add-zero (m_size made))) ∙ at_m 0,
    at_m 33 ∙ at_key 0,
    at_m 42 ∙ at_key 9 ∙ at_input 0,
  )

-- a line of the form is accepted, and its parts are those that the definition takes
module _ {line m key input : List ℕ} {direction : ℕ} (form : RequestLine line m key input direction) where
  pub form_parts : (m ≡ m_text line) × (key ≡ key_text line) × (input ≡ input_text line) × (direction ≡ direction_text line)
  unfolding made after_m after_key after_input
  form_parts = (
    sym (ap m_text form.line_is ∙ made_m m key input direction form.key_size form.input_size),
    sym (ap key_text form.line_is ∙ made_key m key input direction form.key_size form.input_size),
    sym (ap input_text form.line_is ∙ made_input m key input direction form.key_size form.input_size),
    sym (ap direction_text form.line_is ∙ made_direction m key input direction form.key_size form.input_size),
  )

  pub form_accepted : is_request line ≡ true
  unfolding made after_m after_key after_input
  form_accepted =
      let spaces = made_spaces m key input direction form.key_size form.input_size in
      let size : within 1 4 (length m) ≡ true = number_size 10 4 m form.m_digits in
      let whole : length line ≡ length m + 44 = ap length form.line_is ∙ length-made m key input direction form.key_size form.input_size in
      of_parts line
      (record {
        from = omega (arith, within_from 1 4 (length m) size);
        to = omega (arith, within_to 1 4 (length m) size);
        space_1 = ap (λ (l : List ℕ). get_or l (m_size l) 0) form.line_is ∙ spaces.0;
        space_2 = ap (λ (l : List ℕ). get_or l (m_size l + 33) 0) form.line_is ∙ spaces.1;
        space_3 = ap (λ (l : List ℕ). get_or l (m_size l + 42) 0) form.line_is ∙ spaces.2;
        m_digits = ap (all_digits 10) (sym form_parts.0) ∙ number_digits 10 4 m form.m_digits;
        m_limit = subst (λ (l : List ℕ). value_of 10 l ≤ 1520) form_parts.0 form.m_limit;
        key_digits = ap (all_digits 16) (sym form_parts.1) ∙ form.key_digits;
        input_digits = ap (all_digits 16) (sym form_parts.2) ∙ form.input_digits;
        direction_from = subst (λ (x : ℕ). 48 ≤ x) form_parts.3 (within_from 48 49 direction form.direction_digit);
        direction_to = subst (λ (x : ℕ). x ≤ 49) form_parts.3 (within_to 48 49 direction form.direction_digit);
      })
