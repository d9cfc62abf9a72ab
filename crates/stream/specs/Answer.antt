-- What `stream` answers to a line. Assumes nothing.
use Rattle.std.specs.Prelude.{ℕ, cond, List, [], ◌∷◌, eqb, take, replicate}
use Rattle.refusals.specs.Call.{Outcome, outcome}
use Rattle.keystreams.specs.Gea4.{gea4_call}
use Rattle.lines.specs.Text.{hex_text, decimal_text}
use Rattle.stream.specs.declared.form.Request.{Request}
use Rattle.stream.specs.Form.{is_request, asked}

-- what GEA4 answers to a request, with room for 1,520 octets
unfoldable pub outcome_of : Request → Outcome (List ℕ)
outcome_of request = outcome (gea4_call request.key request.input request.direction request.m (replicate 1520 0))

-- the answer to a request: the M octets as capital hex, or the refusal's number
unfoldable pub request_text : Request → List ℕ
request_text request =
    let given = outcome_of request in
    cond (eqb given.refusal 0) (hex_text (take request.m given.lent)) (decimal_text given.refusal)

-- the text that answers a line: `?` where the line is not of the form
unfoldable pub answer_text : List ℕ → List ℕ
answer_text line = cond (is_request line) (request_text (asked line)) (63 ∷ [])

-- the largest answer: 1,520 pairs of digits and the line feed. An output with less room is refused
abbrev pub largest_answer : ℕ
largest_answer = 3041
