-- f9, the third generation's integrity (3GPP TS 35.201): a code of 32 bits over a message, and the check of a code. The rule: the padded string PS is
-- COUNT, FRESH, MESSAGE, DIRECTION, a 1 and zeros, to a multiple of 64 bits; A0 = B0 = 0, Ai = KASUMI(A(i-1) xor PSi) and Bi = B(i-1) xor Ai, for each
-- block PSi, i from 1; and the code, MAC-I, is the left half of KASUMI(B) under the key xor KM. Assumes nothing.
use Rattle.std.specs.Prelude.{ℕ, zero, suc, ◌+◌, ◌-◌, ◌*◌, ◌/◌, ◌%◌, Bool, false, not, List, [], ◌∷◌, ◌++◌, eqb, ltb, length, get_or, replicate}
use Rattle.std.specs.Int.Bits.{bit_xor}
use Rattle.refusals.specs.Refusal.{Row}
use Rattle.refusals.specs.Call.{Call, no_candidate, tells}
use Rattle.octets.specs.Bits.{bit_at, bit_of, number, listed, size}
use Rattle.octets.specs.Octets.{is_whole_key}
use Rattle.octets.specs.Xor.{xored}
use Rattle.kasumi.specs.Kasumi.{left, kasumi}
use Rattle.pair.specs.Message.{is_bit_count}
use Rattle.pair.specs.declared.F9Inputs.{F9Inputs}

-- ---- the padded string PS, a list of bits

-- the bits of a number of `width` bits, the highest first
abbrev pub bits_of : ℕ → ℕ → List ℕ
bits_of width x = listed (bit_at width x) width

-- how many zeros end the string of a message of so many bits: 0 to 63, to a whole number of blocks
unfoldable pub zeros_after : ℕ → ℕ
zeros_after bits = (64 - (32 + 32 + bits + 1 + 1) % 64) % 64

-- COUNT (32 bits), FRESH (32), the message, DIRECTION (1), a 1, and the zeros
unfoldable pub padded : F9Inputs → List ℕ → ℕ → List ℕ
padded inputs message bits =
    bits_of 32 inputs.count
    ++ bits_of 32 inputs.fresh
    ++ listed (bit_of message) bits
    ++ bits_of 1 inputs.direction
    ++ (1 ∷ [])
    ++ replicate (zeros_after bits) 0

-- the 64 bits of a block of a string as a number; blocks are counted from 0 here, so this is the PS(n+1) of the rule
unfoldable pub block_of : List ℕ → ℕ → ℕ
block_of string n = number (λ j. get_or string (64 * n + j) 0) 64

-- ---- the code

-- A after n blocks, An: at first 0, then KASUMI of the A before xor the next block
unfoldable pub chained : List ℕ → List ℕ → ℕ → ℕ
chained key string zero = 0
chained key string (suc n) = kasumi key (bit_xor (chained key string n) (block_of string n))

-- B after n blocks, Bn: at first 0, then the B before xor the new A
unfoldable pub gathered : List ℕ → List ℕ → ℕ → ℕ
gathered key string zero = 0
gathered key string (suc n) = bit_xor (gathered key string n) (chained key string (suc n))

-- the key modifier KM, 16 octets AA
unfoldable pub modifier : List ℕ
modifier = replicate 16 0xAA

-- the code of a string: the left half of KASUMI of B, after all its blocks, under the key xor KM
unfoldable pub code_of : List ℕ → List ℕ → ℕ
code_of key string = left 32 (kasumi (xored key modifier) (gathered key string (length string / 64)))

-- the code of a message's first bits
unfoldable pub f9_code : F9Inputs → List ℕ → List ℕ → ℕ → ℕ
f9_code inputs key message bits = code_of key (padded inputs message bits)

-- ---- the calls

-- the refusals of a call, in their order
unfoldable pub f9_order : F9Inputs → List ℕ → List ℕ → ℕ → List Row
f9_order inputs key message bits =
    record { number = 1; holds = not (is_whole_key key) } ∷
    record { number = 2; holds = ltb 1 inputs.direction } ∷
    record { number = 3; holds = not (is_bit_count bits) } ∷
    record { number = 5; holds = ltb (length message) (size bits) } ∷ []

-- pair::f9 hands out the code
abbrev pub f9_call : F9Inputs → List ℕ → List ℕ → ℕ → Call (Unit {0})
f9_call inputs key message bits = tells (f9_order inputs key message bits) (f9_code inputs key message bits ∷ [])

-- pair::check_code says whether a code is the message's: yes or no, and no where it is refused
abbrev pub check_call : F9Inputs → List ℕ → List ℕ → ℕ → ℕ → Call Bool
check_call inputs key message bits code = record {
  order = f9_order inputs key message bits;
  numbers = [];
  candidate_with = no_candidate;
  before = false;
  after = eqb (f9_code inputs key message bits) code;
}
