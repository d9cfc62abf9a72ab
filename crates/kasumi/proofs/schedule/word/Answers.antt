-- `kasumi::schedule::word` meets its contract: two octets of the key make the word.
-- Assumes nothing.
use Rattle.kasumi.specs.Kasumi.{key_word}
use Rattle.kasumi.proofs.schedule.word.Goals as goal

pub returns : goal.returns
unfolding key_word
returns c = c.from_be_bytes.ensures
