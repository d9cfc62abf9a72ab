-- The form of a line of `challenge`: K, the word `OP` or `OPc`, the octets of that, RAND and, where wanted, SQN and AMF, with one space between and
-- nothing else. Each value is pairs of hex digits of either case, at least one; whether it has its right length is for the refusals to say.
-- Assumes nothing.
use Rattle.std.specs.Prelude.{ℕ, suc, Bool, true, false, cond, ◌&&◌, ◌||◌, List, [], ◌∷◌, eqb, leb, ltb, length, get_or}
use Rattle.lines.specs.Form.{every}
use Rattle.lines.specs.Text.{hex_octets, is_hex}

-- ---- the fields of a line

-- some fields, with one octet more at the front of the first
unfoldable pub with_octet : ℕ → List (List ℕ) → List (List ℕ)
with_octet octet [] = (octet ∷ []) ∷ []
with_octet octet (field ∷ rest) = (octet ∷ field) ∷ rest

-- a space (32) ends a field and begins the next, so that a line has one field more than spaces, and a field may be empty
unfoldable pub fields_of : List ℕ → List (List ℕ)
fields_of [] = [] ∷ []
fields_of (octet ∷ rest) = cond (eqb octet 32) ([] ∷ fields_of rest) (with_octet octet (fields_of rest))

-- how many octets the first field has
unfoldable pub first_size : List ℕ → ℕ
first_size [] = 0
first_size (octet ∷ rest) = cond (eqb octet 32) 0 (suc (first_size rest))

-- field k of a line, from 0; past the last it is empty
unfoldable pub field_of : ℕ → List ℕ → List ℕ
field_of k line = get_or (fields_of line) k []

-- ---- what a field says

-- two texts are the same
unfoldable pub same : List ℕ → List ℕ → Bool
same [] [] = true
same [] (b ∷ more) = false
same (a ∷ rest) [] = false
same (a ∷ rest) (b ∷ more) = eqb a b && same rest more

-- the word `OP`
unfoldable pub is_op : List ℕ → Bool
is_op field = same field (79 ∷ 80 ∷ [])

-- the word `OP`, or the word `OPc`
unfoldable pub is_word : List ℕ → Bool
is_word field = is_op field || same field (79 ∷ 80 ∷ 99 ∷ [])

-- a value: pairs of hex digits, at least one
unfoldable pub is_value : List ℕ → Bool
is_value field = ltb 0 (length field) && is_hex field

-- the octets that a field writes; none where it is no value
unfoldable pub octets_of : List ℕ → List ℕ
octets_of field = cond (is_value field) (hex_octets field) []

-- ---- the form

-- the values after RAND: none, or both SQN and AMF
unfoldable pub ends_right : List ℕ → Bool
ends_right line = cond (eqb (length (fields_of line)) 6) (is_value (field_of 4 line) && is_value (field_of 5 line)) (eqb (length (fields_of line)) 4)

-- the tests of the form
unfoldable pub form_tests : List ℕ → List Bool
form_tests line =
    leb (length line) 160 ∷
    is_value (field_of 0 line) ∷
    is_word (field_of 1 line) ∷
    is_value (field_of 2 line) ∷
    is_value (field_of 3 line) ∷
    ends_right line ∷ []

-- whether a line is of the form
unfoldable pub is_challenge : List ℕ → Bool
is_challenge line = every (form_tests line)

-- what a line gives: whether OPc is to be made, from OP; whether SQN and AMF are given; and the values, as octets
pub record Given : Type 0 where
  pub made : Bool
  pub numbered : Bool
  pub key : List ℕ
  pub operator : List ℕ
  pub rand : List ℕ
  pub sqn : List ℕ
  pub amf : List ℕ

-- what a line of the form gives
unfoldable pub given_by : List ℕ → Given
given_by line = record {
  made = is_op (field_of 1 line);
  numbered = eqb (length (fields_of line)) 6;
  key = octets_of (field_of 0 line);
  operator = octets_of (field_of 2 line);
  rand = octets_of (field_of 3 line);
  sqn = octets_of (field_of 4 line);
  amf = octets_of (field_of 5 line);
}
