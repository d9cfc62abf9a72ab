-- `lines::program::Hearer::answer_heard` meets its contract: one line stands for every line that is too long.
-- Assumes nothing.
use mathlib.Core.Path.{sym, ◌∙◌}
use Rattle.lines.proofs.Calls.{line_kept, line_too_long}
use Rattle.lines.proofs.program.Hearer.answer_heard.Goals as goal

pub returns-then-heard-gt-LONGEST : goal.returns-then-heard-gt-LONGEST
returns-then-heard-gt-LONGEST g c =
    rw (line_too_long c.args.self.now.heard c.if-heard-gt-LONGEST.true ∙ sym c.too_long.ensures)
    (record { state = c.answer.ensures.state; heard = c.silence-self.ensures; answer = c.answer.ensures.answer })

pub returns : goal.returns
returns g c =
    rw (line_kept c.args.self.now.heard c.if-heard-gt-LONGEST.false)
    (record { state = c.answer-2.ensures.state; heard = c.silence-self.ensures; answer = c.answer-2.ensures.answer })
