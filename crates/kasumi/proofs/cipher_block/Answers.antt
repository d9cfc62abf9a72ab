-- `kasumi::cipher_block` meets its contract: four times two rounds are the eight.
-- Assumes nothing.
use Rattle.kasumi.specs.Kasumi.{rounds}
use Rattle.kasumi.specs.Lent.{ciphered_by}
use Rattle.kasumi.proofs.cipher_block.Goals as goal

pub returns : goal.returns
unfolding ciphered_by rounds
returns c = cc
