-- `challenge` answers a line as its rules say: a line feed after the text.
-- Assumes nothing.
use native.Mathlib.Omega.{arith}
use mathlib.Core.Path.{ap}
use lib.ListN.{length}
use lib.Seq.{length-take-le}
use Rattle.lines.specs.Text.{ended}
use Rattle.lines.proofs.Placed.{at_front_octet}
use Rattle.lines.proofs.Text.{length-ended}
use Rattle.challenge.specs.Answer.{answer_text}
use Rattle.challenge.proofs.Laws.{at_front_first, length-answer_text}
use Rattle.challenge.proofs.answers.ChallengeProgram.answer.Goals as goal

pub bounds-output-size : goal.bounds-output-size
bounds-output-size c = omega (arith, c.put_text-size.ensures.written_is, length-answer_text c.args.line.now)

pub overflow_add-result : goal.overflow_add-result
overflow_add-result c = omega (arith, c.put_text-size.ensures.written_is, length-answer_text c.args.line.now)

pub returns-clause-answer : goal.returns-clause-answer
unfolding ended
returns-clause-answer c =
    let size = length-answer_text c.args.line.now in
    let first = rw c.unwrap-output.ensures at c.first_chunk_mut.ensures.cases in
    at_front_first 192 first.enough (omega (arith, size, length-ended (answer_text c.args.line.now)))
    (rw (← first.same) (at_front_octet 10 c.put_text-size.ensures (omega (arith, size, ap length first.same, length-take-le 192 c.args.output.now first.enough))))
