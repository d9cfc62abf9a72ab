-- The table for FI: what half of FI needs of S7 and S9, in one look-up for nine bits and one for seven. Assumes nothing.
use Rattle.std.specs.Prelude.{ℕ, ◌%◌, ◌≡◌, List, ◌++◌, length, take}
use Rattle.std.specs.Int.Bits.{bit_xor}
use Rattle.octets.specs.Bits.{join, listed}
use Rattle.sboxes.specs.Tables.{s7, s9}

-- the entry of nine bits: their S9, and its lowest seven bits
unfoldable pub entry_of_nine : ℕ → ℕ
entry_of_nine a = join 7 (s9 a) (s9 a % 128)

-- the entry of seven bits: these bits themselves, and their S7 xor them
unfoldable pub entry_of_seven : ℕ → ℕ
entry_of_seven b = join 7 b (bit_xor (s7 b) b)

-- sboxes::fi_table: the 512 entries of nine bits, then the 128 of seven
unfoldable pub fi_table : List ℕ
fi_table = listed entry_of_nine 512 ++ listed entry_of_seven 128

-- a table of 640 words that has the first n entries of nine bits at its front
pub record Filled (n : ℕ) (table : List ℕ) : Type 0 where
  pub words : length table ≡ 640
  pub front : take n table ≡ listed entry_of_nine n
