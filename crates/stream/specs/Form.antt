-- The form of a line of `stream` (document 01, "Examples to hold on to"): M, one to four decimal digits with a value up to 1,520; the key, 32 hex
-- digits of either case; INPUT, 8 hex digits; the direction, `0` or `1`; one space between, and nothing else. Assumes nothing.
use Rattle.std.specs.Prelude.{ℕ, ◌+◌, ◌-◌, ◌≤◌, ◌≡◌, Bool, true, cond, List, [], ◌∷◌, ◌++◌, Option, Some, None, eqb, leb, length, get_or, take, drop}
use Rattle.lines.specs.Digits.{within, all_digits, value_of, is_number}
use Rattle.lines.specs.Form.{every}
use Rattle.lines.specs.Text.{hex_octets}
use Rattle.stream.specs.declared.form.Request.{Request}

-- a line is of the form: it is the four parts with a space between
pub record RequestLine (line m key input : List ℕ) (direction : ℕ) : Type 0 where
  pub line_is : line ≡ m ++ 32 ∷ (key ++ 32 ∷ (input ++ 32 ∷ direction ∷ []))
  pub m_digits : is_number 10 4 m ≡ true
  pub m_limit : value_of 10 m ≤ 1520
  pub key_size : length key ≡ 32
  pub key_digits : all_digits 16 key ≡ true
  pub input_size : length input ≡ 8
  pub input_digits : all_digits 16 input ≡ true
  pub direction_digit : within 48 49 direction ≡ true

-- how many digits M has: all but M has a fixed size, a space, 32 digits, a space, 8 digits, a space and 1 digit
unfoldable pub m_size : List ℕ → ℕ
m_size line = length line - 44

-- the parts of a line: M,
unfoldable pub m_text : List ℕ → List ℕ
m_text line = take (m_size line) line

-- the key,
unfoldable pub key_text : List ℕ → List ℕ
key_text line = take 32 (drop (m_size line + 1) line)

-- INPUT,
unfoldable pub input_text : List ℕ → List ℕ
input_text line = take 8 (drop (m_size line + 34) line)

-- and the direction
unfoldable pub direction_text : List ℕ → ℕ
direction_text line = get_or line (m_size line + 43) 0

-- the tests of the form: the three spaces, and each part
unfoldable pub request_tests : List ℕ → List Bool
request_tests line =
    eqb (get_or line (m_size line) 0) 32 ∷
    eqb (get_or line (m_size line + 33) 0) 32 ∷
    eqb (get_or line (m_size line + 42) 0) 32 ∷
    is_number 10 4 (m_text line) ∷
    leb (value_of 10 (m_text line)) 1520 ∷
    all_digits 16 (key_text line) ∷
    all_digits 16 (input_text line) ∷
    within 48 49 (direction_text line) ∷ []

-- whether a line is of the form: it holds exactly of the lines of RequestLine (stream/proofs/Accepted.antt)
unfoldable pub is_request : List ℕ → Bool
is_request line = every (request_tests line)

-- what a line of the form asks
unfoldable pub asked : List ℕ → Request
asked line = record {
  m = value_of 10 (m_text line);
  key = hex_octets (key_text line);
  input = value_of 16 (input_text line);
  direction = direction_text line - 48;
}

-- what a line asks: nothing, where it is not of the form
unfoldable pub request_of : List ℕ → Option Request
request_of line = cond (is_request line) (Some (asked line)) None
