-- `walk` answers a line as its rules say: the row of what was sent and answered, and the numbering after it.
-- Assumes nothing.
use Rattle.walk.proofs.Answers.{line_after, line_answered}
use Rattle.walk.proofs.walks.WalkProgram.answer.Goals as goal

pub returns : goal.returns
returns c = record {
  state = line_after c.args.self.now.numbering c.args.line.now c.sent_of-sent.ensures c.step-answer.ensures;
  answer = line_answered c.args.self.now.numbering c.args.line.now c.sent_of-sent.ensures c.step-answer.ensures c.put_row.ensures;
}
