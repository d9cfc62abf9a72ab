-- `walk::walks::put_row` meets its contract: field after field.
-- Assumes nothing.
use Prim.Native.Nat.{◌≤◌}
use lib.ListN.{length}
use native.Mathlib.Omega.{arith}
use Rattle.lines.proofs.InDecimal.{length-decimal_text}
use Rattle.refusals.specs.Number.{refused_of, number_in}
use Rattle.walk.specs.Answer.{text_of, field}
use Rattle.walk.proofs.Answers.{row_put, length-field, length-sent, length-number, length_refusal}
use Rattle.walk.proofs.walks.put_row.Goals.{After-shown_sent, After-shown_candidate, After-shown_answer, After-add_field-number_at, After-add_field-answer_at, After-add_field-next_at}
use Rattle.walk.proofs.walks.put_row.Goals as goal

-- the fields have at most eleven octets each
sent_short : (c : After-shown_sent) → length (field (text_of c.shown_sent.result) 32) ≤ 11
sent_short c = rw c.shown_sent.ensures (length-sent c.args.sent)

candidate_short : (c : After-shown_candidate) → length (field (text_of c.shown_candidate.result) 32) ≤ 11
candidate_short c = rw c.shown_candidate.ensures (length-number (refused_of c.args.answer) (number_in c.args.answer))

answer_short : (c : After-shown_answer) → length (field (text_of c.shown_answer.result) 32) ≤ 11
answer_short c = rw c.shown_answer.ensures (length_refusal (refused_of c.args.answer))

-- so where one has been put, it reaches at most eleven octets on
sent_ends : (c : After-add_field-number_at) → c.add_field-number_at.result ≤ 11
sent_ends c = omega (arith, c.add_field-number_at.ensures.end_is, sent_short (goal.at.After-add_field-number_at c).After-shown_sent)

number_ends : (c : After-add_field-answer_at) → c.add_field-answer_at.result ≤ 22
number_ends c =
    let at = goal.at.After-add_field-answer_at c in
    omega (arith, sent_ends at.After-add_field-number_at, c.add_field-answer_at.ensures.end_is, candidate_short at.After-shown_candidate)

refusal_ends : (c : After-add_field-next_at) → c.add_field-next_at.result ≤ 33
refusal_ends c =
    let at = goal.at.After-add_field-next_at c in
    omega (arith, number_ends at.After-add_field-answer_at, c.add_field-next_at.ensures.end_is, answer_short at.After-shown_answer)

pub add_field-number_at-requires : goal.add_field-number_at-requires
add_field-number_at-requires c = omega (arith, c.requires, sent_short (goal.at.add_field-number_at-requires c).After-shown_sent)

pub add_field-answer_at-requires : goal.add_field-answer_at-requires
add_field-answer_at-requires c =
    let at = goal.at.add_field-answer_at-requires c in
    omega (arith, c.requires, sent_ends at.After-add_field-number_at, candidate_short at.After-shown_candidate, c.add_field-number_at.auto.output)

pub add_field-next_at-requires : goal.add_field-next_at-requires
add_field-next_at-requires c =
    let at = goal.at.add_field-next_at-requires c in
    omega (arith, c.requires, number_ends at.After-add_field-answer_at, answer_short at.After-shown_answer, c.add_field-answer_at.auto.output, c.add_field-number_at.auto.output)

pub add_field-requires : goal.add_field-requires
unfolding text_of
add_field-requires c =
    let at = goal.at.add_field-requires c in
    omega (
      arith,
      c.requires,
      refusal_ends at.After-add_field-next_at,
      length-field _ 10 (length-decimal_text c.args.next),
      c.add_field-next_at.auto.output,
      c.add_field-answer_at.auto.output,
      c.add_field-number_at.auto.output,
    )

pub returns : goal.returns
unfolding text_of
returns c =
    let given = c.args in
    row_put given.sent (refused_of given.answer) (number_in given.answer) given.next c.shown_sent.ensures c.shown_candidate.ensures c.shown_answer.ensures
    c.add_field-number_at.ensures c.add_field-answer_at.ensures c.add_field-next_at.ensures c.add_field.ensures
