-- `aes::words::word_at` meets its contract: four octets, one after the other.
-- Assumes nothing.
use mathlib.Core.Path.{◌∙◌}
use Rattle.aes.specs.Aes.{key_word}
use Rattle.aes.proofs.FourOctets.{of_octets}
use Rattle.aes.proofs.words.word_at.Goals as goal

pub returns : goal.returns
unfolding key_word
returns c = c.from_be_bytes.ensures ∙ of_octets _ _ _ _
