-- The laws of the form of a line: the same texts, the octets of a value, and the tests of the form.
-- Assumes nothing.
use Prim.Native.Nat.{ℕ, ◌*◌, ◌%◌, ◌≤◌}
use native.Mathlib.Omega.{arith}
use mathlib.Core.Path.{◌≡◌, refl, ap, subst, ◌∙◌}
use mathlib.Core.Bool.{Bool, true, false, cond, ◌&&◌, and-eq-true_iff}
use mathlib.Core.List.{List, [], ◌∷◌}
use borrow.Author.Tests.{eq-eqb, ne_eqb, eqb-true, lt-ltb, le-leb, ltb-true, ltb-false}
use lib.Dec.{eqb, ltb}
use lib.Pointwise.{pointwise}
use lib.ListN.{length, get_or}
use Rattle.refusals.specs.Refusal.{first}
use Rattle.refusals.proofs.Tests.{by-test}
use Rattle.lines.specs.Form.{every}
use Rattle.lines.specs.Text.{AtFront, hex_octets, is_hex, hex_order, room_order, octets_of_hex_call}
use Rattle.refusals.specs.Call.{Answered, front}
use Rattle.refusals.proofs.Calls.{refused_keeps}
use Rattle.lines.proofs.Callers.{put_done, put_refused, hex_fits}
use Rattle.lines.proofs.Form.{every_fails}
use Rattle.lines.proofs.Text.{length-hex_octets, hex_bad, hex_good}
use Rattle.challenge.specs.Form.{fields_of, field_of, same, is_word, is_value, octets_of, ends_right, form_tests, is_challenge}

-- ---- the same texts

-- `==` on slices says whether they are
pub equal : (a b : List ℕ) → pointwise eqb a b ≡ same a b
unfolding same
equal [] [] = refl
equal [] (y ∷ b) = refl
equal (x ∷ a) [] = refl
equal (x ∷ a) (y ∷ b) = ap (λ (rest : Bool). eqb x y && rest) (equal a b)

-- ---- a value

empty_writes_none : (field : List ℕ) → length field ≤ 0 → hex_octets field ≡ []
unfolding hex_octets
empty_writes_none [] short = refl
empty_writes_none (octet ∷ rest) short = absurd (omega arith)

module _ (field : List ℕ) where
  -- pairs of hex digits write octets, and an empty field none
  pub octets_hex : is_hex field ≡ true → hex_octets field ≡ octets_of field
  unfolding octets_of is_value
  octets_hex hex =
      by-test (ltb 0 (length field)) _
      (λ some. rw (some, hex))
      (λ none. rw none (empty_writes_none field (ltb-false 0 (length field) none)))

  pub octets_none : is_hex field ≡ false → [] ≡ octets_of field
  unfolding octets_of is_value
  octets_none other = by-test (ltb 0 (length field)) _ (λ some. rw (some, other)) (λ none. rw none)

  -- the octets as they are put
  pub value_put : (before : List ℕ) {refusal count : ℕ} {after : List ℕ} → Answered (octets_of_hex_call field before) refusal (count ∷ []) after
      → length field ≤ 2 * length before → AtFront (octets_of field) before count after
  unfolding front
  value_put before {refusal} {count} {after} answered room =
      by-test (is_hex field) _
      (λ hex.
      subst (λ (octets : List ℕ). AtFront octets before count after) (octets_hex hex)
      (put_done (hex_order field before) (hex_octets field) before answered (hex_fits field before answered hex (omega (arith, length-hex_octets field)))))
      (λ other.
      let refused : (refusal ≡ 0 → ⊥) = λ done. omega (arith, answered.refusal_is ∙ hex_bad field before other) in
      subst (λ (octets : List ℕ). AtFront octets before count after) (octets_none other)
      (record { written_is = put_refused (hex_order field before) (hex_octets field) before answered refused; output_is = refused_keeps (octets_of_hex_call field before) answered refused }))

  -- what is not pairs of hex digits is no value
  no_value : is_hex field ≡ false → is_value field ≡ false
  unfolding is_value
  no_value other = by-test (ltb 0 (length field)) _ (λ some. rw (some, other)) (λ none. rw none)

  -- a value is what writes some
  at_least_two : is_value field ≡ true → 2 ≤ length field
  unfolding is_value is_hex
  at_least_two some =
      let halves = (and-eq-true_iff (ltb 0 (length field)) (is_hex field)).0 some in
      let even : eqb (length field % 2) 0 ≡ true = ((and-eq-true_iff (eqb (length field % 2) 0) _).0 halves.1).0 in
      omega (arith, ltb-true 0 (length field) halves.0, eqb-true (length field % 2) 0 even)

  pub value_some : ltb 0 (length (octets_of field)) ≡ is_value field
  unfolding octets_of
  value_some =
      by-test (is_value field) _
      (λ some. rw some (lt-ltb 0 (length (hex_octets field)) (omega (arith, length-hex_octets field, at_least_two some))))
      (λ none. rw none)

  -- where no octet has room, a value is refused for want of it, and nothing else is
  pub value_alone : {refusal count : ℕ} {after : List ℕ} → Answered (octets_of_hex_call field []) refusal (count ∷ []) after → eqb refusal 4 ≡ is_value field
  unfolding first room_order
  value_alone {refusal} answered =
      by-test (is_hex field) _
      (λ hex.
      let some : ltb 0 (length (hex_octets field)) ≡ is_value field = ap (λ (octets : List ℕ). ltb 0 (length octets)) (octets_hex hex) ∙ value_some in
      let is : refusal ≡ cond (is_value field) 4 0 = answered.refusal_is ∙ hex_good field [] hex ∙ ap (λ (b : Bool). cond b 4 0) some in
      rw is (by-test (is_value field) _ (λ value. rw value) (λ none. rw none)))
      (λ other.
      let is : refusal ≡ 2 = answered.refusal_is ∙ hex_bad field [] other in
      rw (is, no_value other))

-- ---- the form

module _ (line : List ℕ) where
  -- what comes after RAND
  pub ends_four : (length (fields_of line) ≡ 6 → ⊥) → ends_right line ≡ eqb (length (fields_of line)) 4
  unfolding ends_right
  ends_four other = rw (ne_eqb (length (fields_of line)) 6 other)

  pub ends_six : length (fields_of line) ≡ 6 → ends_right line ≡ (is_value (field_of 4 line) && is_value (field_of 5 line))
  unfolding ends_right
  ends_six six = rw (eq-eqb (length (fields_of line)) 6 six)

-- where one of the tests fails, the line is not of the form
pub form_fails : (line : List ℕ) (k : ℕ) → get_or (form_tests line) k true ≡ false → is_challenge line ≡ false
unfolding is_challenge
form_fails line k fails = every_fails (form_tests line) k fails

-- past the others the last test decides
pub form_ends : (line : List ℕ) → length line ≤ 160 → is_value (field_of 0 line) ≡ true → is_word (field_of 1 line) ≡ true → is_value (field_of 2 line) ≡ true
    → is_value (field_of 3 line) ≡ true → ends_right line ≡ is_challenge line
unfolding is_challenge form_tests every
form_ends line short key word operator rand =
    by-test (ends_right line) _
    (λ right. rw (right, le-leb (length line) 160 short, key, word, operator, rand))
    (λ wrong. rw (wrong, le-leb (length line) 160 short, key, word, operator, rand))
