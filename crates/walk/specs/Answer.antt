-- What a line of `walk` sends and what is answered to it (document 01, "Examples to hold on to"). Assumes nothing.
use Rattle.std.specs.Prelude.{ℕ, Bool, cond, ◌&&◌, ◌||◌, List, [], ◌∷◌, ◌++◌, Option, Some, None, Result, eqb, leb, get_or}
use Rattle.refusals.specs.declared.Refused.{Refused}
use Rattle.refusals.specs.Call.{Outcome, outcome}
use Rattle.refusals.specs.Number.{refused_of, number_in}
use Rattle.lines.specs.Digits.{value_of, is_number}
use Rattle.lines.specs.Text.{decimal_text}
use Rattle.numbering.specs.declared.Numbering.{Numbering}
use Rattle.numbering.specs.Numbering.{width, number_call}
use Rattle.walk.specs.declared.walks.Shown.{Shown}
use Rattle.walk.specs.declared.walks.Shown.TheVariants.{Number, Word}

-- a good line: one to three decimal digits with a value up to 511
unfoldable pub is_sent : List ℕ → Bool
is_sent line = is_number 10 3 line && leb (value_of 10 line) 511

-- what a line sends: N, where the line is good
unfoldable pub sent_of : List ℕ → Option ℕ
sent_of line = cond (is_sent line) (Some (value_of 10 line)) None

-- what the numbering answers: to N its outcome; to a bad line the refusal 2, no number, and the state as it was
unfoldable pub outcome_of : Numbering → Option ℕ → Outcome Numbering
outcome_of state None = record { refusal = 2; numbers = 0 ∷ []; lent = state }
outcome_of state (Some sent) = outcome (number_call width state sent)

-- an outcome of the numbering in the code: the number handed out is the candidate
abbrev pub as_outcome : Result ℕ Refused → Numbering → Outcome Numbering
as_outcome answer state = record { refusal = refused_of answer; numbers = number_in answer ∷ []; lent = state }

-- the candidate is given with `ok` and with 11
unfoldable pub is_given : ℕ → Bool
is_given refusal = eqb refusal 0 || eqb refusal 11

-- a field in the code: a number in decimal, or a word
unfoldable pub text_of : Shown → List ℕ
text_of (Number number) = decimal_text number
text_of (Word word) = word.now

-- the fields of an answer: N, or `?` for a bad line;
unfoldable pub sent_text : Option ℕ → List ℕ
sent_text None = 63 ∷ []
sent_text (Some sent) = decimal_text sent

-- the candidate, or `-` where none is given;
unfoldable pub number_text : ℕ → ℕ → List ℕ
number_text refusal number = cond (is_given refusal) (decimal_text number) (45 ∷ [])

-- and `ok`, or the refusal
unfoldable pub refusal_text : ℕ → List ℕ
refusal_text refusal = cond (eqb refusal 0) (111 ∷ 107 ∷ []) (decimal_text refusal)

-- a field, and the octet that ends it
unfoldable pub field : List ℕ → ℕ → List ℕ
field text ends = text ++ ends ∷ []

-- the three fields and V afterwards, as a line: a space (32) between, a line feed (10) at the end
unfoldable pub row : Option ℕ → ℕ → ℕ → ℕ → List ℕ
row sent refusal number next =
    field (sent_text sent) 32 ++ (field (number_text refusal number) 32 ++ (field (refusal_text refusal) 32 ++ field (decimal_text next) 10))

-- the answer to a line
unfoldable pub answer : Numbering → List ℕ → List ℕ
answer state line =
    let given = outcome_of state (sent_of line) in
    row (sent_of line) given.refusal (get_or given.numbers 0 0) given.lent.next

-- the numbering after a line
unfoldable pub after : Numbering → List ℕ → Numbering
after state line = (outcome_of state (sent_of line)).lent
