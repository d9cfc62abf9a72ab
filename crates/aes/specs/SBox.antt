-- The S-box of FIPS 197, 5.1.1: the inverse in the field, and then an affine map. Assumes nothing.
use Rattle.std.specs.Prelude.{ℕ, zero, suc, ◌+◌, ◌%◌}
use Rattle.octets.specs.Bits.{listed}
use Rattle.octets.specs.LowBits.{low_bit, weighed}
use Rattle.aes.specs.Field.{◌•◌}

-- the product of the first n squares of x: x^2, x^4, x^8, ..
unfoldable pub squares : ℕ → ℕ → ℕ
squares zero x = 1
squares (suc n) x = let square = x • x in square • squares n square

-- the inverse of an octet: x^254, the product of x^2, x^4, .. and x^128. That its product with x is 1 is proved of each but 0, which has no inverse and is
-- taken to itself (aes/proofs/SBox.antt#inverse_is)
unfoldable pub inverse : ℕ → ℕ
inverse x = squares 7 x

-- bit i of the affine map of b, bit 0 the lowest, with the bits of 63 hex added
abbrev pub affine_bit : ℕ → ℕ → ℕ
affine_bit b i =
    (low_bit b i + low_bit b ((i + 4) % 8) + low_bit b ((i + 5) % 8) + low_bit b ((i + 6) % 8) + low_bit b ((i + 7) % 8) + low_bit 0x63 i) % 2

-- the affine map of b
unfoldable pub affine : ℕ → ℕ
affine b = weighed (listed (affine_bit b) 8)

-- the S-box entry of x
unfoldable pub sbox : ℕ → ℕ
sbox x = affine (inverse x)
