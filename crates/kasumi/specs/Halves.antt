-- How the rounds hold their bits: 32 bits as two words, and 64 bits as two such halves. Assumes nothing.
use Rattle.std.specs.Prelude.{ℕ}
use Rattle.octets.specs.Bits.{join}
use Rattle.kasumi.specs.declared.halves.Half.{Half}
use Rattle.kasumi.specs.declared.halves.Block.{Block}

-- the 32 bits of two words
abbrev pub bits32 : Half → ℕ
bits32 x = join 16 x.l x.r

-- the 64 bits of two halves
abbrev pub bits64 : Block → ℕ
bits64 x = join 32 (bits32 x.left) (bits32 x.right)
