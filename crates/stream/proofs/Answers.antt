-- The laws of the answers: what a line asks decides its answer, and every answer has room in 3,041 octets.
-- Assumes nothing.
use Prim.Native.Nat.{ℕ, ◌≤◌, ◌<◌}
use native.Mathlib.Omega.{arith}
use mathlib.Core.Path.{◌≡◌, sym, ap, subst, ◌∙◌}
use mathlib.Core.Bool.{true, false}
use mathlib.Core.List.{List, [], ◌∷◌}
use borrow.Author.Tests.{eq-eqb, ne_eqb}
use lib.Dec.{eqb, lit≤}
use lib.ListN.{length, take, length-take}
use Rattle.std.specs.Prelude.{Some, None}
use Rattle.std.proofs.lemmas.Option.{none-some, cond_some}
use Rattle.refusals.proofs.Tests.{by-test}
use Rattle.lines.specs.Text.{ended, hex_text, decimal_text}
use Rattle.lines.specs.Hearing.{too_long}
use Rattle.lines.proofs.Hearing.{LongAlike, line_alike}
use Rattle.lines.proofs.InDecimal.{length-decimal_text}
use Rattle.lines.proofs.Text.{length-ended, length_either, length-hex_text}
use Rattle.stream.specs.declared.form.Request.{Request}
use Rattle.stream.specs.Form.{is_request, asked, request_of}
use Rattle.stream.specs.Answer.{outcome_of, request_text, answer_text, largest_answer}
use Rattle.stream.specs.Stream.{stream_rules}
use Rattle.stream.proofs.Parts.{parts_of, not_accepted}

-- ---- what a line asks decides its answer

module _ (line : List ℕ) where
  -- a line of the form: what is answered goes by what it asks, whose M is at most 1,520
  accepted_answer : is_request line ≡ true → answer_text line ≡ request_text (asked line)
  unfolding answer_text
  accepted_answer accepted = rw accepted

  accepted_limit : is_request line ≡ true → (asked line).m ≤ 1520
  unfolding asked
  accepted_limit accepted = (parts_of line accepted).m_limit

  -- any other: `?`
  refused_answer : is_request line ≡ false → answer_text line ≡ 63 ∷ []
  unfolding answer_text
  refused_answer refused = rw refused

  -- the same by what was read off the line
  pub read_nothing : request_of line ≡ None → answer_text line ≡ 63 ∷ []
  unfolding request_of
  read_nothing none = refused_answer (by-test (is_request line) _ (λ accepted. absurd (none-some (asked line) (sym none ∙ rw accepted))) (λ refused. refused))

  pub read_answer : {request : Request} → request_of line ≡ Some request → answer_text line ≡ request_text request
  unfolding request_of
  read_answer is = let read = cond_some _ _ _ is in accepted_answer read.0 ∙ ap request_text read.1

  pub read_limit : {request : Request} → request_of line ≡ Some request → request.m ≤ 1520
  unfolding request_of
  read_limit is = let read = cond_some _ _ _ is in subst (λ (r : Request). r.m ≤ 1520) read.1 (accepted_limit read.0)

-- ---- the answer to a request

module _ (request : Request) where
  pub text_refused : ((outcome_of request).refusal ≡ 0 → ⊥) → request_text request ≡ decimal_text (outcome_of request).refusal
  unfolding request_text
  text_refused refused = rw (ne_eqb (outcome_of request).refusal 0 refused)

  pub text_done : (outcome_of request).refusal ≡ 0 → request_text request ≡ hex_text (take request.m (outcome_of request).lent)
  unfolding request_text
  text_done done = rw (eq-eqb (outcome_of request).refusal 0 done)

  -- two digits an octet
  length-request_text : request.m ≤ 1520 → length (request_text request) ≤ 3040
  unfolding request_text
  length-request_text limit =
      length_either (eqb (outcome_of request).refusal 0) _ _ 3040
      (omega (arith, length-hex_text (take request.m (outcome_of request).lent), length-take request.m (outcome_of request).lent))
      (omega (arith, length-decimal_text (outcome_of request).refusal))

-- a line of more than 48 octets is bad
pub too_long_lem : (line : List ℕ) → 48 < length line → answer_text line ≡ 63 ∷ []
unfolding answer_text
too_long_lem line long = rw (not_accepted line (λ parts. omega arith))

-- every text of an answer has at most 3,040 octets
pub length-answer_text : (line : List ℕ) → length (answer_text line) ≤ 3040
length-answer_text line =
    by-test (is_request line) _
    (λ accepted. rw (accepted_answer line accepted) (length-request_text (asked line) (accepted_limit line accepted)))
    (λ refused. rw (refused_answer line refused) (lit≤ tt))

-- ---- the rules of `stream`

-- a line that is too long is answered like any other that is
pub stream_alike : LongAlike stream_rules
unfolding too_long
stream_alike = line_alike answer_text largest_answer (λ line long. too_long_lem line (omega arith) ∙ sym (too_long_lem too_long (lit≤ tt)))

-- every answer has room in an output that is not refused
pub stream_fits : (line : List ℕ) → length (ended (answer_text line)) ≤ largest_answer
stream_fits line = omega (arith, length-ended (answer_text line), length-answer_text line)
