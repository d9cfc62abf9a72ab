-- `walk::walks::shown_sent` meets its contract: N, or `?`.
-- Assumes nothing.
use Rattle.walk.specs.Answer.{text_of, sent_text}
use Rattle.walk.proofs.walks.shown_sent.Goals as goal

pub returns-in-Some : goal.returns-in-Some
unfolding text_of sent_text
returns-in-Some c = rw c.in-Some.is

pub returns-in-None : goal.returns-in-None
unfolding text_of sent_text
returns-in-None c = rw c.in-None.is
