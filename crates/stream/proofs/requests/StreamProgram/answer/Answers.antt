-- `stream` answers a line as its rules say: a line feed after the text.
-- Assumes nothing.
use native.Mathlib.Omega.{arith}
use Rattle.lines.specs.Text.{ended}
use Rattle.lines.proofs.Placed.{at_front_octet}
use Rattle.stream.proofs.Answers.{length-answer_text}
use Rattle.stream.proofs.requests.StreamProgram.answer.Goals as goal

pub bounds-output-size : goal.bounds-output-size
bounds-output-size c = omega (arith, c.put_text-size.ensures.written_is, c.put_text-size.auto, length-answer_text c.args.line.now)

pub overflow_add-result : goal.overflow_add-result
overflow_add-result c = omega (arith, c.put_text-size.ensures.written_is, length-answer_text c.args.line.now)

pub returns-clause-answer : goal.returns-clause-answer
unfolding ended
returns-clause-answer c = at_front_octet 10 c.put_text-size.ensures (omega (arith, length-answer_text c.args.line.now))
