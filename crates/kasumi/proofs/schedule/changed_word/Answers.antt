-- `kasumi::schedule::changed_word` meets its contract: the code's constants are C1 to C8.
-- Assumes nothing.
use Prim.Native.Nat.{ℕ}
use lib.Bits.{bit_xor}
use mathlib.Core.Path.{ap}
use Rattle.kasumi.specs.Kasumi.{key_word', constant}
use Rattle.kasumi.proofs.schedule.changed_word.Goals as goal

pub returns : goal.returns
unfolding key_word' constant
returns c = ap (λ (w : ℕ). bit_xor w (constant c.args.j)) c.word.ensures
