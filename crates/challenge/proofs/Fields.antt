-- The laws of the fields of a line: where a field ends and the next begins, and how many there are.
-- Assumes nothing.
use Prim.Native.Nat.{ℕ, zero, suc, ◌+◌, ◌-◌, ◌≤◌, ◌<◌, zero-le, suc-le-suc}
use native.Mathlib.Omega.{arith}
use mathlib.Core.Path.{◌≡◌, refl, sym, ap, ◌∙◌}
use mathlib.Core.Bool.{cond}
use mathlib.Core.List.{List, [], ◌∷◌}
use borrow.Author.Tests.{lt-ltb, le-ltb, ltb-false}
use lib.Dec.{eqb, ltb, leb-suc-suc}
use lib.ListN.{length, get_or, take, drop, length-drop}
use lib.Seq.{drop-drop, drop-length}
use Rattle.std.specs.Prelude.{Option, Some, None, unwrap_or}
use Rattle.std.specs.List.{filter, position_or_len}
use Rattle.refusals.proofs.Tests.{by-test}
use Rattle.challenge.specs.Form.{with_octet, fields_of, first_size, field_of}

-- ---- the first field

-- what comes after it: the fields of what follows its space, or none
abbrev fields_after : List ℕ → List (List ℕ)
fields_after text = cond (ltb (first_size text) (length text)) (fields_of (drop (suc (first_size text)) text)) []

first_field : (text : List ℕ) → fields_of text ≡ take (first_size text) text ∷ fields_after text
unfolding fields_of first_size with_octet
first_field [] = refl
first_field (octet ∷ rest) =
    by-test (eqb octet 32) _
    (λ space. rw (space, lt-ltb 0 (suc (length rest)) (suc-le-suc zero-le)))
    (λ other. rw (other, leb-suc-suc (suc (first_size rest)) (length rest)) (ap (with_octet octet) (first_field rest)))

pub size_within : (text : List ℕ) → first_size text ≤ length text
unfolding first_size
size_within [] = zero-le
size_within (octet ∷ rest) = by-test (eqb octet 32) _ (λ space. rw space zero-le) (λ other. rw other (suc-le-suc (size_within rest)))

-- ---- the size of a field, by the first space

size_found : (text : List ℕ) → first_size text ≡ position_or_len (λ octet. eqb octet 32) text
unfolding first_size
size_found [] = refl
size_found (octet ∷ rest) = by-test (eqb octet 32) _ (λ space. rw space) (λ other. rw other (omega (arith, size_found rest)))

pub size_position : (text : List ℕ) {found : Option ℕ} {size left : ℕ}
    → found ≡ cond (ltb (position_or_len (λ octet. eqb octet 32) text) (length text)) (Some (position_or_len (λ octet. eqb octet 32) text)) None
    → left ≡ length text → size ≡ unwrap_or found left → size ≡ first_size text
size_position text {found} {size} {left} is rest given =
    let place : ℕ = position_or_len (λ (octet : ℕ). eqb octet 32) text in
    by-test (ltb place (length text)) _
    (λ inside.
    let there : found ≡ Some place = is ∙ rw inside in
    given ∙ ap (λ (f : Option ℕ). unwrap_or f left) there ∙ sym (size_found text))
    (λ none.
    let nowhere : found ≡ None = is ∙ rw none in
    let all : size ≡ left = given ∙ ap (λ (f : Option ℕ). unwrap_or f left) nowhere in
    omega (arith, size_within text, size_found text, ltb-false place (length text) none))

-- ---- field k, from a place on

-- where the field that begins at a place ends
abbrev pub end_of : List ℕ → ℕ → ℕ
end_of line from = from + first_size (drop from line)

module _ (line : List ℕ) (from : ℕ) (within : from ≤ length line) where
  pub end_within : end_of line from ≤ length line
  end_within = omega (arith, size_within (drop from line), length-drop from line)

  -- the first is what lies between
  pub field_here : take (end_of line from - from) (drop from line) ≡ field_of 0 (drop from line)
  unfolding field_of
  field_here =
      let size : end_of line from - from ≡ first_size (drop from line) = omega arith in
      ap (λ (n : ℕ). take n (drop from line)) size ∙ sym (ap (λ (l : List (List ℕ)). get_or l 0 []) (first_field (drop from line)))

  -- the others begin after its space
  pub field_next : (k : ℕ) → end_of line from < length line → field_of (suc k) (drop from line) ≡ field_of k (drop (end_of line from + 1) line)
  unfolding field_of
  field_next k inside =
      let again : from + suc (first_size (drop from line)) ≡ end_of line from + 1 = omega arith in
      let short : first_size (drop from line) < length (drop from line) = omega (arith, length-drop from line) in
      ap (λ (l : List (List ℕ)). get_or l (suc k) []) (first_field (drop from line))
      ∙ rw (lt-ltb _ _ short)
      (ap (λ (l : List ℕ). get_or (fields_of l) k []) (drop-drop (suc (first_size (drop from line))) from line ∙ ap (λ (n : ℕ). drop n line) again))

  -- and without a space there are none
  pub field_none : (k : ℕ) → end_of line from ≡ length line → field_of (suc k) (drop from line) ≡ field_of 0 (drop (end_of line from) line)
  unfolding field_of fields_of
  field_none k end =
      let long : length (drop from line) ≤ first_size (drop from line) = omega (arith, length-drop from line) in
      ap (λ (l : List (List ℕ)). get_or l (suc k) []) (first_field (drop from line))
      ∙ rw (le-ltb _ _ long)
      (sym (ap (λ (n : ℕ). get_or (fields_of (drop n line)) 0 []) end ∙ ap (λ (l : List ℕ). get_or (fields_of l) 0 []) (drop-length line)))

-- no field is longer than its line
length_with : (octet : ℕ) (fields : List (List ℕ)) (n : ℕ) → ((k : ℕ) → length (get_or fields k []) ≤ n) → (k : ℕ) → length (get_or (with_octet octet fields) k []) ≤ suc n
unfolding with_octet
length_with octet [] n all zero = suc-le-suc zero-le
length_with octet [] n all (suc k) = zero-le
length_with octet (field ∷ rest) n all zero = suc-le-suc (all 0)
length_with octet (field ∷ rest) n all (suc k) = omega (arith, all (suc k))

length-after_space : (fields : List (List ℕ)) (n : ℕ) → ((k : ℕ) → length (get_or fields k []) ≤ n) → (k : ℕ) → length (get_or ([] ∷ fields) k []) ≤ suc n
length-after_space fields n all zero = zero-le
length-after_space fields n all (suc k) = omega (arith, all k)

pub length-field_of : (line : List ℕ) (k : ℕ) → length (field_of k line) ≤ length line
unfolding field_of fields_of
length-field_of [] zero = zero-le
length-field_of [] (suc k) = zero-le
length-field_of (octet ∷ rest) k =
    by-test (eqb octet 32) _
    (λ space. rw space (length-after_space (fields_of rest) (length rest) (length-field_of rest) k))
    (λ other. rw other (length_with octet (fields_of rest) (length rest) (length-field_of rest) k))

-- ---- how many fields: one more than spaces

pub fields_count : (line : List ℕ) → 1 + length (filter (λ octet. eqb octet 32) line) ≡ length (fields_of line)
unfolding fields_of with_octet
fields_count [] = refl
fields_count (octet ∷ rest) =
    by-test (eqb octet 32) _
    (λ space. rw space (omega (arith, fields_count rest)))
    (λ other.
    rw other
    (fields_count rest ∙ ap length (first_field rest) ∙ sym (ap (λ (l : List (List ℕ)). length (with_octet octet l)) (first_field rest))))
