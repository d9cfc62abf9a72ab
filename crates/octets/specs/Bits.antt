-- Bits, numbers and octets. The most significant bit and octet is first, everywhere (document 01, "KASUMI"; document 004, 3.2.3).
-- A bit string is a function: the bit at each place, counted from 0. Assumes nothing.
use Rattle.std.specs.Prelude.{ℕ, zero, suc, ◌+◌, ◌-◌, ◌*◌, ◌/◌, ◌%◌, ◌^◌, cond, List, [], ◌∷◌, ◌++◌, ltb, get_or}

-- bit i of a number of `width` bits, bit 0 the highest
unfoldable pub bit_at : ℕ → ℕ → ℕ → ℕ
bit_at width x i = x / 2 ^ (width - 1 - i) % 2

-- two numbers one after the other, the second of `width` bits
abbrev pub join : ℕ → ℕ → ℕ → ℕ
join width l r = l * 2 ^ width + r

-- bit i of a list of octets
unfoldable pub bit_of : List ℕ → ℕ → ℕ
bit_of octets i = bit_at 8 (get_or octets (i / 8) 0) (i % 8)

-- `count` bits of a bit string from bit `start` on; past them every bit is zero
unfoldable pub part : (ℕ → ℕ) → ℕ → ℕ → ℕ → ℕ
part bit start count i = cond (ltb i count) (bit (start + i)) 0

-- octets::octet_or_zero: the octet at a place, or 0 past the end
abbrev pub octet_or_zero : List ℕ → ℕ → ℕ
octet_or_zero octets place = get_or octets place 0

-- the number that the first n bits of a bit string write, the first bit highest
unfoldable pub number : (ℕ → ℕ) → ℕ → ℕ
number bit zero = 0
number bit (suc n) = number bit n * 2 + bit n

-- octet k of a bit string
unfoldable pub octet : (ℕ → ℕ) → ℕ → ℕ
octet bit k = number (λ j. bit (k * 8 + j)) 8

-- octets::first_bits: an octet with its first n bits, and zero for each bit after them
abbrev pub first_bits : ℕ → ℕ → ℕ
first_bits whole n = octet (part (bit_at 8 whole) 0 n) 0

-- the list f 0, f 1, .. of n elements
unfoldable pub listed : (ℕ → ℕ) → ℕ → List ℕ
listed f zero = []
listed f (suc n) = listed f n ++ (f n ∷ [])

-- octets::size: how many octets hold n bits
unfoldable pub size : ℕ → ℕ
size n = (n + 7) / 8

-- a bit string stored in octets: `count` bits of it from bit `start` on, the first bit highest, zero for each spare bit of the last octet
unfoldable pub stored : (ℕ → ℕ) → ℕ → ℕ → List ℕ
stored bit start count = listed (octet (part bit start count)) (size count)
