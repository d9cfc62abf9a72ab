-- f8, the third generation's confidentiality (3GPP TS 35.201; document 004, annex A): KGCORE once more, xor the message. Assumes nothing.
use Rattle.std.specs.Prelude.{ℕ, not, ◌||◌, List, [], ◌∷◌, ltb, length}
use Rattle.std.specs.Int.Bits.{bit_xor}
use Rattle.refusals.specs.Refusal.{Row}
use Rattle.refusals.specs.Call.{Call, puts}
use Rattle.octets.specs.Bits.{bit_of, size, stored}
use Rattle.octets.specs.Octets.{is_whole_key}
use Rattle.kgcore.specs.declared.Inputs.{Inputs}
use Rattle.kgcore.specs.Kgcore.{key_bit}
use Rattle.pair.specs.Message.{is_bit_count}
use Rattle.pair.specs.declared.F8Inputs.{F8Inputs}

-- the inputs of KGCORE: BEARER stands in CB, COUNT in CC, DIRECTION in CD; CA and CE are zero (A.3)
unfoldable pub f8_core : F8Inputs → Inputs
f8_core inputs = record { ca = 0; cb = inputs.bearer; cc = inputs.count; cd = inputs.direction; ce = 0 }

-- bit i of the output: bit i of the message xor bit i of the keystream (A.2, the note)
unfoldable pub f8_bit : F8Inputs → List ℕ → List ℕ → ℕ → ℕ
f8_bit inputs key message i = bit_xor (bit_of message i) (key_bit key (f8_core inputs) i)

-- the output, as many bits as the message has, and zero for each spare bit of its last octet
unfoldable pub f8_output : F8Inputs → List ℕ → List ℕ → ℕ → List ℕ
f8_output inputs key message bits = stored (f8_bit inputs key message) 0 bits

-- the refusals of a call, in their order
unfoldable pub f8_order : F8Inputs → List ℕ → List ℕ → ℕ → List ℕ → List Row
f8_order inputs key message bits output =
    record { number = 1; holds = not (is_whole_key key) } ∷
    record { number = 2; holds = ltb 31 inputs.bearer || ltb 1 inputs.direction } ∷
    record { number = 3; holds = not (is_bit_count bits) } ∷
    record { number = 5; holds = ltb (length message) (size bits) } ∷
    record { number = 4; holds = ltb (length output) (size bits) } ∷ []

-- pair::f8, of the first so many bits of the message, to encipher them or to decipher them
abbrev pub f8_call : F8Inputs → List ℕ → List ℕ → ℕ → List ℕ → Call (List ℕ)
f8_call inputs key message bits output = puts (f8_order inputs key message bits output) (f8_output inputs key message bits) output
