-- The field GF(2^8) of FIPS 197, section 4. An octet is a polynomial over 0 and 1: its bit i, bit 0 the lowest, is the coefficient of x^i. The sum of two
-- polynomials adds their coefficients modulo 2, which is the xor of the octets (4.1). Assumes nothing.
use Rattle.std.specs.Prelude.{ℕ, zero, suc, ◌+◌, ◌*◌, ◌^◌, Bool, cond, eqb}
use Rattle.std.specs.Int.Bits.{bit_xor}
use Rattle.octets.specs.LowBits.{low_bit}

-- whether a polynomial has the term x^i
abbrev pub has_term : ℕ → ℕ → Bool
has_term p i = eqb (low_bit p i) 1

-- the product of a polynomial a with the terms of b below x^n: the sum of a times x^i over each x^i that b has
unfoldable pub product : ℕ → ℕ → ℕ → ℕ
product a b zero = 0
product a b (suc n) = cond (has_term b n) (bit_xor (product a b n) (a * 2 ^ n)) (product a b n)

-- the irreducible polynomial m(x) = x^8 + x^4 + x^3 + x + 1 (4.2)
abbrev pub modulus : ℕ
modulus = 0x11B

-- what is left of a polynomial below x^(8 + n) when it is divided by m(x): from the highest term down, m(x) times x^k is taken off where x^(8 + k) stands
unfoldable pub remainder : ℕ → ℕ → ℕ
remainder zero p = p
remainder (suc n) p = remainder n (cond (has_term p (8 + n)) (bit_xor p (modulus * 2 ^ n)) p)

-- the product in the field: that of two octets has no term above x^14 (4.2)
infixl 7 ◌•◌
unfoldable pub ◌•◌ : ℕ → ℕ → ℕ
a • b = remainder 7 (product a b 8)
