-- The third generation pair (document 02, item 2): what f8 leaves, bit for bit, and that it undoes itself; what the padded string of f9 tells, and when a
-- code is right. Assumes nothing.
use Rattle.std.specs.Prelude.{ℕ, ◌+◌, ◌*◌, ◌%◌, ◌^◌, ◌≤◌, ◌<◌, ◌≡◌, ◌↔◌, Bool, true, List, [], ◌∷◌, length, get_or}
use Rattle.std.specs.Int.Bits.{bit_xor}
use Rattle.refusals.specs.Call.{Answered, outcome}
use Rattle.octets.specs.Bits.{bit_of, size}
use Rattle.kgcore.specs.Kgcore.{key_bit}
use Rattle.pair.specs.declared.F8Inputs.{F8Inputs}
use Rattle.pair.specs.declared.F9Inputs.{F9Inputs}
use Rattle.pair.specs.F8.{f8_core, f8_call}
use Rattle.pair.specs.F9.{padded, zeros_after, code_of, f9_call, check_call}
use Rattle.promises.specs.BitForBit.{HoldsBits}

-- two messages that are long enough, and have the same first bits
pub record BeginAlike (bits : ℕ) (message message' : List ℕ) : Type 0 where
  pub enough : size bits ≤ length message
  pub enough' : size bits ≤ length message'
  pub same : (i : ℕ) → i < bits → bit_of message i ≡ bit_of message' i

-- f8, the confidentiality of the pair: what it leaves, what it takes, that it undoes itself, and what it reads of a message
pub record Confidentiality : Type 0 where
  -- bit i of the output is bit i of the message xor bit i of KGCORE's output, in as many octets as hold the bits
  pub bit_for_bit : (inputs : F8Inputs) (key message : List ℕ) (bits octets : ℕ) (before : List ℕ) {output : List ℕ} → Answered (f8_call inputs key message bits before) 0 [] output
      → bits ≤ 8 * octets → 8 * octets < bits + 8
      → HoldsBits (λ i. bit_xor (bit_of message i) (key_bit key (f8_core inputs) i)) 0 bits octets before output
  -- so it is for every key of 16 octets and every message, in range and lent whole, with room for it: none of these is refused
  pub taken : (inputs : F8Inputs) (key message : List ℕ) (bits : ℕ) (output : List ℕ) → length key ≡ 16 → inputs.bearer ≤ 31 → inputs.direction ≤ 1
      → 0 < bits → bits ≤ 20000 → size bits ≤ length message → size bits ≤ length output
      → {refusal : ℕ} {numbers after : List ℕ} → Answered (f8_call inputs key message bits output) refusal numbers after → refusal ≡ 0
  -- f8 of what f8 left, with room for it, is not refused, and leaves the message with its spare bits cleared
  pub back : (inputs : F8Inputs) (key message : List ℕ) (bits octets : ℕ) (before again : List ℕ) {output : List ℕ} → Answered (f8_call inputs key message bits before) 0 [] output
      → bits ≤ 8 * octets → 8 * octets < bits + 8 → octets ≤ length again
      → {refusal : ℕ} {output' : List ℕ} → Answered (f8_call inputs key output bits again) refusal [] output'
      → (refusal ≡ 0) × HoldsBits (bit_of message) 0 bits octets again output'
  -- no spare bit of the message and no octet past its length plays a part
  pub reads_no_more : (inputs : F8Inputs) (key message message' : List ℕ) (bits : ℕ) (output : List ℕ) → BeginAlike bits message message'
      → outcome (f8_call inputs key message bits output) ≡ outcome (f8_call inputs key message' bits output)

-- inputs in range: what their types hold, with a DIRECTION of 0 or 1
pub record Fits (inputs : F9Inputs) : Type 0 where
  pub count : inputs.count < 2 ^ 32
  pub fresh : inputs.fresh < 2 ^ 32
  pub direction : inputs.direction ≤ 1

-- what a padded string tells: its inputs, its length, and each bit of its message
pub record Told (inputs inputs' : F9Inputs) (message message' : List ℕ) (bits bits' : ℕ) : Type 0 where
  pub inputs_are : inputs ≡ inputs'
  pub length_is : bits ≡ bits'
  pub bits_are : (i : ℕ) → i < bits → bit_of message i ≡ bit_of message' i

-- f9, the integrity of the pair: what its padded string is made of and tells, what it takes, and when a code is right
pub record Integrity : Type 0 where
  -- the padded string is a whole number of blocks, with 0 to 63 zeros at its end
  pub blocks : (inputs : F9Inputs) (message : List ℕ) (bits : ℕ) → (length (padded inputs message bits) % 64 ≡ 0) × (zeros_after bits < 64)
  -- its last 1 tells the length: it stands at place length + 65, counted from 0, and after it are zeros
  pub last_one : (inputs : F9Inputs) (message : List ℕ) (bits : ℕ)
      → (get_or (padded inputs message bits) (bits + 65) 0 ≡ 1) × ((i : ℕ) → bits + 65 < i → get_or (padded inputs message bits) i 0 ≡ 0)
  -- it gives back all that it was made of: two that are the same have the same inputs, the same length and the same message
  pub gives_back : (inputs inputs' : F9Inputs) (message message' : List ℕ) (bits bits' : ℕ) → Fits inputs → Fits inputs'
      → padded inputs message bits ≡ padded inputs' message' bits' → Told inputs inputs' message message' bits bits'
  -- so each bit of a message is read: two that differ in one have different strings
  pub reads_each : (inputs : F9Inputs) (message message' : List ℕ) (bits i : ℕ) → i < bits → (bit_of message i ≡ bit_of message' i → ⊥)
      → padded inputs message bits ≡ padded inputs message' bits → ⊥
  -- and nothing more is
  pub reads_no_more : (inputs : F9Inputs) (key message message' : List ℕ) (bits : ℕ) → BeginAlike bits message message'
      → outcome (f9_call inputs key message bits) ≡ outcome (f9_call inputs key message' bits)
  -- for every key of 16 octets and every message, in range and lent whole, f9 hands out the code of that string
  pub taken : (inputs : F9Inputs) (key message : List ℕ) (bits : ℕ) → length key ≡ 16 → inputs.direction ≤ 1
      → 0 < bits → bits ≤ 20000 → size bits ≤ length message
      → {refusal code : ℕ} → Answered (f9_call inputs key message bits) refusal (code ∷ []) tt → (refusal ≡ 0) × (code ≡ code_of key (padded inputs message bits))
  -- a check says yes exactly when f9 hands out this code; so a check that is refused says no
  pub check : (inputs : F9Inputs) (key message : List ℕ) (bits code : ℕ) {refusal : ℕ} {right : Bool} → Answered (check_call inputs key message bits code) refusal [] right
      → (right ≡ true) ↔ Answered (f9_call inputs key message bits) 0 (code ∷ []) tt

-- item 2 as a whole
pub record ThirdGeneration : Type 0 where
  pub f8 : Confidentiality
  pub f9 : Integrity
  -- no call of the three takes a key of 8 octets: it is refused with 1
  pub not_short_f8 : (inputs : F8Inputs) (key message : List ℕ) (bits : ℕ) (before : List ℕ) {refusal : ℕ} {numbers after : List ℕ} → length key ≡ 8
      → Answered (f8_call inputs key message bits before) refusal numbers after → refusal ≡ 1
  pub not_short_f9 : (inputs : F9Inputs) (key message : List ℕ) (bits : ℕ) {refusal : ℕ} {numbers : List ℕ} → length key ≡ 8
      → Answered (f9_call inputs key message bits) refusal numbers tt → refusal ≡ 1
  pub not_short_check : (inputs : F9Inputs) (key message : List ℕ) (bits code : ℕ) {refusal : ℕ} {numbers : List ℕ} {right : Bool} → length key ≡ 8
      → Answered (check_call inputs key message bits code) refusal numbers right → refusal ≡ 1
