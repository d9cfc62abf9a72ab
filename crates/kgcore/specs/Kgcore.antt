-- The core keystream generator KGCORE of document 004, section 4. Assumes nothing.
use Rattle.std.specs.Prelude.{ℕ, zero, suc, ◌+◌, ◌/◌, ◌%◌, not, ◌||◌, List, [], ◌∷◌, map, eqb, ltb, length}
use Rattle.std.specs.Int.Bits.{bit_xor}
use Rattle.refusals.specs.Refusal.{Row}
use Rattle.refusals.specs.Call.{Call, puts}
use Rattle.octets.specs.Bits.{bit_at, join, size, stored}
use Rattle.octets.specs.Octets.{is_whole_key}
use Rattle.kasumi.specs.Kasumi.{kasumi}
use Rattle.kgcore.specs.declared.Inputs.{Inputs}

-- the register A at first: CC (32 bits), CB (5), CD (1), two zero bits, CA (8), CE (16), one after the other (4.4)
unfoldable pub register : Inputs → ℕ
register inputs =
    join 16 (join 8 (join 2 (join 1 (join 5 inputs.cc inputs.cb) inputs.cd) 0) inputs.ca) inputs.ce

-- the key under which the register is ciphered: each octet xor 55, the key modifier KM (4.4)
unfoldable pub modified : List ℕ → List ℕ
modified key = map (λ (octet : ℕ). bit_xor octet 0x55) key

-- the register A that the blocks use
unfoldable pub register_a : List ℕ → Inputs → ℕ
register_a key inputs = kasumi (modified key) (register inputs)

-- block n of the keystream, KSBn: block 0 is zero, and the counter of block n is n - 1 (4.5)
unfoldable pub block : List ℕ → ℕ → ℕ → ℕ
block key a zero = 0
block key a (suc n) = kasumi key (bit_xor (bit_xor a n) (block key a n))

-- how many blocks CL bits need: CL / 64, rounded up (4.5)
unfoldable pub blocks : ℕ → ℕ
blocks cl = (cl + 63) / 64

-- bit i of the output CO: the blocks from block 1 on, one after the other (4.5)
unfoldable pub key_bit : List ℕ → Inputs → ℕ → ℕ
key_bit key inputs i = bit_at 64 (block key (register_a key inputs) (i / 64 + 1)) (i % 64)

-- the refusals of a call, in their order
unfoldable pub kgcore_order : List ℕ → Inputs → ℕ → List ℕ → List Row
kgcore_order key inputs cl output =
    record { number = 1; holds = not (is_whole_key key) } ∷
    record { number = 2; holds = ltb 31 inputs.cb || ltb 1 inputs.cd } ∷
    record { number = 3; holds = eqb cl 0 || ltb 524288 cl } ∷
    record { number = 4; holds = ltb (length output) (size cl) } ∷ []

-- kgcore::kgcore puts the first CL bits of the output CO
abbrev pub kgcore_call : Inputs → List ℕ → ℕ → List ℕ → Call (List ℕ)
kgcore_call inputs key cl output = puts (kgcore_order key inputs cl output) (stored (key_bit key inputs) 0 cl) output
