-- `walk::walks::put_shown` meets its contract: the number, or the word.
-- Assumes nothing.
use Rattle.walk.specs.Answer.{text_of}
use Rattle.walk.proofs.walks.put_shown.Goals as goal

pub returns-in-Number : goal.returns-in-Number
unfolding text_of
returns-in-Number c = rw c.in-Number.is c.decimal_of_number.ensures

pub returns-in-Word : goal.returns-in-Word
unfolding text_of
returns-in-Word c = rw c.in-Word.is c.put_text.ensures
