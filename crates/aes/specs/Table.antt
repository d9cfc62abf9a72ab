-- The table that the rounds look up. Assumes nothing.
use Rattle.std.specs.Prelude.{ℕ, List}
use Rattle.octets.specs.Bits.{listed}
use Rattle.aes.specs.Field.{◌•◌}
use Rattle.aes.specs.SBox.{sbox}
use Rattle.aes.specs.Aes.{word}

-- what an octet in row 0 of a column gives to the column: its S-box entry times 02, 01, 01 and 03 (5.1.3)
unfoldable pub entry_of : ℕ → ℕ
entry_of x = word (2 • sbox x) (sbox x) (sbox x) (3 • sbox x)

-- the table: the 256 of them
unfoldable pub table : List ℕ
table = listed entry_of 256
