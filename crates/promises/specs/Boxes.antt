-- The S-boxes: those of KASUMI by their gate equations (3GPP TS 35.202), that of AES by the inverse of an octet. Assumes nothing.
use Rattle.std.specs.Prelude.{ℕ, ◌<◌, ◌≡◌}
use Rattle.octets.specs.Bits.{listed}
use Rattle.sboxes.specs.Tables.{s7, s7_table, s9, s9_table}
use Rattle.sboxes.specs.Gates.{s7_gates, s9_gates}
use Rattle.octets.specs.Permutation.{Permutes}
use Rattle.aes.specs.Field.{◌•◌}
use Rattle.aes.specs.SBox.{inverse, sbox}

-- the S-boxes of KASUMI: each of the 128 entries of S7 and of the 512 of S9 is what its gate equations give; and the entries of S7 are the numbers below
-- 128 in another order, those of S9 the numbers below 512
pub record KasumiBoxes : Type 0 where
  pub s7_gates_lem : (x : ℕ) → x < 128 → s7 x ≡ s7_gates x
  pub s9_gates_lem : (x : ℕ) → x < 512 → s9 x ≡ s9_gates x
  pub s7_permutes : Permutes 128 s7_table
  pub s9_permutes : Permutes 512 s9_table

-- the S-box of AES: the inverse is one, of every octet but 0, which is taken to itself; and the 256 entries are the octets in another order
pub record AesBox : Type 0 where
  pub inverse_is : (x : ℕ) → 0 < x → x < 256 → (x • inverse x) ≡ 1
  pub zero_to_zero : inverse 0 ≡ 0
  pub permutes : Permutes 256 (listed sbox 256)
