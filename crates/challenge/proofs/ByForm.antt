-- What a line of the form with values of the right lengths is answered: the values under their names. And the fields of a line are the texts that one
-- space joins. Assumes nothing.
use Prim.Native.Nat.{ℕ, ◌*◌, ◌≤◌, ◌<◌}
use native.Mathlib.Omega.{arith}
use mathlib.Core.Path.{◌≡◌, refl, sym, ap, subst, ◌∙◌}
use mathlib.Core.Bool.{Bool, true, false, cond, not, ◌&&◌, and-eq-true_iff}
use mathlib.Core.List.{List, [], ◌∷◌, ◌++◌}
use borrow.Author.Tests.{not-true, eqb-true, ltb-true, lt-ltb}
use lib.Dec.{eqb, ltb}
use lib.ListN.{length, get_or, length-append}
use Rattle.refusals.specs.Refusal.{first}
use Rattle.refusals.proofs.Tests.{by-test}
use Rattle.lines.specs.Digits.{within, digit_value, all_digits}
use Rattle.lines.specs.Text.{ended, hex_octets}
use Rattle.lines.proofs.Text.{length-hex_octets, hex_of_digits}
use Rattle.milenage.specs.Milenage.{opc_of}
use Rattle.milenage.proofs.Sizes.{are_strings, are_numbers_lem}
use Rattle.challenge.specs.Form.{with_octet, fields_of, field_of, same, is_op, is_word, is_value, octets_of, is_challenge, Given, given_by}
use Rattle.challenge.specs.Answer.{opc_for, given_order, all_results, all_codes, given_text, answer_text}
use Rattle.challenge.proofs.Known.{given_by_lem}
use Rattle.challenge.proofs.Laws.{text_done, values_with, answer_bad, answer_good}
use Rattle.challenge.proofs.Values.{ends_six, form_ends}

-- ---- texts joined by one space

-- no octet of a text is a space
unfoldable pub spaceless : List ℕ → Bool
spaceless [] = true
spaceless (octet ∷ rest) = not (eqb octet 32) && spaceless rest

-- texts with one space between
unfoldable pub spaced : List ℕ → List (List ℕ) → List ℕ
spaced text [] = text
spaced text (next ∷ more) = text ++ 32 ∷ spaced next more

-- none of them has a space of its own
unfoldable pub all_spaceless : List (List ℕ) → Bool
all_spaceless [] = true
all_spaceless (text ∷ more) = spaceless text && all_spaceless more

last_field : (text : List ℕ) → spaceless text ≡ true → fields_of text ≡ text ∷ []
unfolding spaceless fields_of with_octet
last_field [] none = refl
last_field (octet ∷ rest) none =
    let halves = (and-eq-true_iff (not (eqb octet 32)) (spaceless rest)).0 none in
    rw (not-true (eqb octet 32) halves.0) (ap (with_octet octet) (last_field rest halves.1))

next_field : (text rest : List ℕ) → spaceless text ≡ true → fields_of (text ++ 32 ∷ rest) ≡ text ∷ fields_of rest
unfolding spaceless fields_of with_octet
next_field [] rest none = refl
next_field (octet ∷ text) rest none =
    let halves = (and-eq-true_iff (not (eqb octet 32)) (spaceless text)).0 none in
    rw (not-true (eqb octet 32) halves.0) (ap (with_octet octet) (next_field text rest halves.1))

-- the fields of texts joined by one space are these texts
pub fields_spaced : (text : List ℕ) (more : List (List ℕ)) → spaceless text ≡ true → all_spaceless more ≡ true → fields_of (spaced text more) ≡ text ∷ more
unfolding spaced all_spaceless
fields_spaced text [] none all = last_field text none
fields_spaced text (next ∷ more) none all =
    let halves = (and-eq-true_iff (spaceless next) (all_spaceless more)).0 all in
    next_field text (spaced next more) none ∙ ap (λ (l : List (List ℕ)). text ∷ l) (fields_spaced next more halves.0 halves.1)

-- ---- values of the right length

-- a text of hex digits, two for each octet
pub record Digits (octets : ℕ) (text : List ℕ) : Type 0 where
  pub size : length text ≡ 2 * octets
  pub digits : all_digits 16 text ≡ true

digits_spaceless : (text : List ℕ) → all_digits 16 text ≡ true → spaceless text ≡ true
unfolding spaceless all_digits digit_value within
digits_spaceless [] all = refl
digits_spaceless (octet ∷ rest) all =
    let halves = (and-eq-true_iff (ltb (digit_value octet) 16) (all_digits 16 rest)).0 all in
    by-test (eqb octet 32) _
    (λ space. absurd (omega (arith, subst (λ (x : ℕ). digit_value x < 16) (eqb-true octet 32 space) (ltb-true (digit_value octet) 16 halves.0))))
    (λ other. rw other (digits_spaceless rest halves.1))

module _ {octets : ℕ} {text : List ℕ} (value : Digits octets text) (some : 0 < octets) where
  value_is : is_value text ≡ true
  unfolding is_value
  value_is = rw (lt-ltb 0 (length text) (omega (arith, value.size)), hex_of_digits text (omega (arith, value.size)) value.digits)

  written : octets_of text ≡ hex_octets text
  unfolding octets_of
  written = rw value_is

length_written : {octets : ℕ} {text : List ℕ} → Digits octets text → length (hex_octets text) ≡ octets
length_written {octets} {text} value = length-hex_octets text ∙ omega (arith, value.size)

-- ---- the answers

-- a line not of the form: `?`
pub bad_line : (line : List ℕ) → is_challenge line ≡ false → ended (answer_text line) ≡ 63 ∷ 10 ∷ []
unfolding ended
bad_line line bad = ap ended (answer_bad line bad)

-- the word
unfoldable pub word_for : Bool → List ℕ
word_for made = cond made (79 ∷ 80 ∷ []) (79 ∷ 80 ∷ 99 ∷ [])

word_right : (made : Bool) → (spaceless (word_for made) ≡ true) × (is_op (word_for made) ≡ made) × (is_word (word_for made) ≡ true) × (length (word_for made) ≤ 3)
unfolding spaceless word_for is_op is_word same
word_right true = (refl, refl, refl, omega arith)
word_right false = (refl, refl, refl, omega arith)

module _ (made : Bool) {key operator rand sqn amf : List ℕ} (key_is : Digits 16 key) (operator-is : Digits 16 operator) (rand-is : Digits 16 rand)
    (sqn-is : Digits 6 sqn) (amf-is : Digits 2 amf) where
  abbrev texts : List (List ℕ)
  texts = word_for made ∷ operator ∷ rand ∷ sqn ∷ amf ∷ []

  abbrev pub six_fields : List ℕ
  six_fields = spaced key texts

  fields_are : fields_of six_fields ≡ key ∷ texts
  unfolding all_spaceless
  fields_are =
      fields_spaced key texts (digits_spaceless key key_is.digits)
      (rw (
        (word_right made).0,
        digits_spaceless operator operator-is.digits,
        digits_spaceless rand rand-is.digits,
        digits_spaceless sqn sqn-is.digits,
        digits_spaceless amf amf-is.digits,
      ))

  field_is : (k : ℕ) → field_of k six_fields ≡ get_or (key ∷ texts) k []
  unfolding field_of
  field_is k = ap (λ (l : List (List ℕ)). get_or l k []) fields_are

  short : length six_fields ≤ 160
  unfolding spaced
  short =
      simp length-append
      (omega (arith, (word_right made).3, key_is.size, operator-is.size, rand-is.size, sqn-is.size, amf-is.size))

  of_the_form : is_challenge six_fields ≡ true
  of_the_form =
      sym (form_ends six_fields short
      (ap is_value (field_is 0) ∙ value_is key_is (omega arith))
      (ap is_word (field_is 1) ∙ (word_right made).2)
      (ap is_value (field_is 2) ∙ value_is operator-is (omega arith))
      (ap is_value (field_is 3) ∙ value_is rand-is (omega arith)))
      ∙ ends_six six_fields (ap length fields_are)
      ∙ rw (ap is_value (field_is 4) ∙ value_is sqn-is (omega arith), ap is_value (field_is 5) ∙ value_is amf-is (omega arith))

  abbrev values : Given
  values = record { made = made; numbered = true; key = hex_octets key; operator = hex_octets operator; rand = hex_octets rand; sqn = hex_octets sqn; amf = hex_octets amf }

  given_is : values ≡ given_by six_fields
  given_is =
      given_by_lem six_fields {count = 6}
      (sym (ap is_op (field_is 1) ∙ (word_right made).1))
      (sym (ap length fields_are))
      (sym (ap octets_of (field_is 0) ∙ written key_is (omega arith)))
      (sym (ap octets_of (field_is 2) ∙ written operator-is (omega arith)))
      (sym (ap octets_of (field_is 3) ∙ written rand-is (omega arith)))
      (sym (ap octets_of (field_is 4) ∙ written sqn-is (omega arith)))
      (sym (ap octets_of (field_is 5) ∙ written amf-is (omega arith)))

  not_refused : first (given_order values) ≡ 0
  unfolding first given_order
  not_refused =
      rw (
        are_strings (hex_octets key) (hex_octets operator) (hex_octets rand) (length_written key_is) (length_written operator-is) (length_written rand-is),
        are_numbers_lem (hex_octets sqn) (hex_octets amf) (length_written sqn-is) (length_written amf-is),
      )

  -- six fields: every value, with OPc made from OP or as given
  pub six-answered :
      let opc = cond made (opc_of (hex_octets key) (hex_octets operator)) (hex_octets operator) in
      ended (answer_text six_fields) ≡ ended (all_results (hex_octets key) opc (hex_octets rand) ++ all_codes (hex_octets key) opc (hex_octets rand) (hex_octets sqn) (hex_octets amf))
  unfolding opc_for
  six-answered = ap ended (answer_good six_fields of_the_form ∙ ap given_text (sym given_is) ∙ text_done values not_refused ∙ values_with values refl)
