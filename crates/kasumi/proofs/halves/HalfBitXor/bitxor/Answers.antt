-- `kasumi::halves`, the xor of two halves,` meets its contract, word by word.
-- Assumes nothing.
use mathlib.Core.Path.{sym}
use native.Mathlib.Omega.{arith}
use lib.Bits.{xor_block}
use Rattle.kasumi.proofs.halves.HalfBitXor.bitxor.Goals as goal

pub returns : goal.returns
returns c =
    let given = c.args in
    sym (xor_block 16 given.self.l given.other.l given.self.r given.other.r (omega arith) (omega arith))
