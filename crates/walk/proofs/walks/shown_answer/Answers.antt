-- `walk::walks::shown_answer` meets its contract: `ok`, or the refusal.
-- Assumes nothing.
use borrow.Author.Tests.{ne_eqb}
use Rattle.refusals.specs.Number.{number_of}
use Rattle.refusals.proofs.Number.{number_some}
use Rattle.walk.specs.Answer.{text_of, refusal_text}
use Rattle.walk.proofs.walks.shown_answer.Goals as goal

pub returns-in-Ok : goal.returns-in-Ok
unfolding text_of refusal_text
returns-in-Ok c = rw c.in-Ok.is

pub returns-in-Err : goal.returns-in-Err
unfolding text_of refusal_text
returns-in-Err c =
    rw (c.in-Err.is, ne_eqb (number_of c.in-Err.refused.refusal) 0 (number_some c.in-Err.refused.refusal), c.number.ensures)
