-- The laws of f8 and f9 over their definitions: when they are not refused, that f8 of f8 is the message, and that neither reads more than the bits that it
-- is told to.
-- Assumes nothing.
use Prim.Native.Nat.{ℕ, ◌+◌, ◌<◌, ◌≤◌}
use native.Mathlib.Omega.{arith}
use mathlib.Core.Path.{◌≡◌, ap, ap₂, ◌∙◌}
use mathlib.Core.Bool.{true, false, ◌||◌}
use mathlib.Core.List.{List, [], ◌∷◌, ◌++◌}
use borrow.Author.Tests.{lt-ltb, le-ltb, le-leb}
use lib.Bits.{bit_xor, xor_lt}
use lib.Dec.{ltb}
use lib.ListN.{length, replicate}
use Rattle.refusals.specs.Refusal.{first}
use Rattle.refusals.specs.Call.{Answered, front}
use Rattle.refusals.proofs.Calls.{answered_done, head_is}
use Rattle.octets.specs.Bits.{bit_of, size, stored}
use Rattle.octets.proofs.Listed.{listed_ext}
use Rattle.octets.proofs.Octets.{whole_key}
use Rattle.octets.proofs.Stored.{bit_of_lt, stored_ext, bit_of_stored_front}
use Rattle.octets.proofs.Xored.{xor_twice}
use Rattle.kgcore.specs.Kgcore.{key_bit}
use Rattle.kgcore.proofs.Laws.{key_bit_lt}
use Rattle.pair.specs.declared.F8Inputs.{F8Inputs}
use Rattle.pair.specs.declared.F9Inputs.{F9Inputs}
use Rattle.pair.specs.Message.{is_bit_count}
use Rattle.pair.specs.F8.{f8_core, f8_bit, f8_output, f8_order, f8_call}
use Rattle.pair.specs.F9.{bits_of, zeros_after, padded, code_of, f9_code, f9_order, f9_call}

-- a bit of f8's output is 0 or 1
pub f8_bit_lt : (inputs : F8Inputs) (key message : List ℕ) (i : ℕ) → f8_bit inputs key message i < 2
unfolding f8_bit
f8_bit_lt inputs key message i = xor_lt 1 (bit_of message i) (key_bit key (f8_core inputs) i) (bit_of_lt message i) (key_bit_lt key (f8_core inputs) i)

-- f8 of what f8 puts to the front of an output holds the bits of the message again
pub f8_back : (inputs : F8Inputs) (key message : List ℕ) (bits : ℕ) (rest : List ℕ)
    → f8_output inputs key (f8_output inputs key message bits ++ rest) bits ≡ stored (bit_of message) 0 bits
unfolding f8_output f8_bit
f8_back inputs key message bits rest =
    let once : ℕ → ℕ = f8_bit inputs key message in
    stored_ext (f8_bit inputs key (stored once 0 bits ++ rest)) (bit_of message) 0 0 bits
    (λ i below.
    ap (λ (x : ℕ). bit_xor x (key_bit key (f8_core inputs) (0 + i)))
    (bit_of_stored_front once 0 bits rest (0 + i) (omega (arith, below)) (f8_bit_lt inputs key message) ∙ ap once {y = 0 + i} (omega arith))
    ∙ xor_twice (bit_of message (0 + i)) (key_bit key (f8_core inputs) (0 + i)))

-- two messages with the same first bits
module _ (message message' : List ℕ) (bits : ℕ) (same : (i : ℕ) → i < bits → bit_of message i ≡ bit_of message' i) where
  pub f8_same : (inputs : F8Inputs) (key : List ℕ) → f8_output inputs key message bits ≡ f8_output inputs key message' bits
  unfolding f8_output f8_bit
  f8_same inputs key =
      stored_ext (f8_bit inputs key message) (f8_bit inputs key message') 0 0 bits
      (λ i below. ap (λ (x : ℕ). bit_xor x (key_bit key (f8_core inputs) (0 + i))) (same (0 + i) (omega (arith, below))))

  pub padded_same : (inputs : F9Inputs) → padded inputs message bits ≡ padded inputs message' bits
  unfolding padded
  padded_same inputs =
      ap
      (λ (middle : List ℕ). bits_of 32 inputs.count ++ bits_of 32 inputs.fresh ++ middle ++ bits_of 1 inputs.direction ++ (1 ∷ []) ++ replicate (zeros_after bits) 0)
      (listed_ext (bit_of message) (bit_of message') bits same)

  pub f9_same : (inputs : F9Inputs) (key : List ℕ) → f9_code inputs key message bits ≡ f9_code inputs key message' bits
  unfolding f9_code
  f9_same inputs key = ap (code_of key) (padded_same inputs)

-- ---- for the callers

-- what is in range is a count of bits
taken_size : (bits : ℕ) → 0 < bits → bits ≤ 20000 → is_bit_count bits ≡ true
unfolding is_bit_count
taken_size bits some most = rw (lt-ltb 0 bits some, le-leb bits 20000 most)

-- where no cause of a refusal holds f8 puts its output, and the octets past it are kept
pub f8_done : (inputs : F8Inputs) (key message : List ℕ) (bits : ℕ) (before : List ℕ) {refusal : ℕ} {numbers after : List ℕ} → Answered (f8_call inputs key message bits before) refusal numbers after
    → length key ≡ 16 → inputs.bearer ≤ 31 → inputs.direction ≤ 1 → 0 < bits → bits ≤ 20000 → size bits ≤ length message → size bits ≤ length before
    → (refusal ≡ 0) × (after ≡ front (f8_output inputs key message bits) before)
unfolding first f8_order
f8_done inputs key message bits before answered sixteen bearer way some most enough room =
    let range : (ltb 31 inputs.bearer || ltb 1 inputs.direction) ≡ false = ap₂ ◌||◌ (le-ltb 31 inputs.bearer bearer) (le-ltb 1 inputs.direction way) in
    let done = answered_done (f8_call inputs key message bits before) answered
    (rw ((whole_key key).1 sixteen, range, taken_size bits some most, le-ltb (length message) (size bits) enough, le-ltb (length before) (size bits) room)) in
    (done.0, done.2)

-- and f9 hands out the code
pub f9_done : (inputs : F9Inputs) (key message : List ℕ) (bits : ℕ) {refusal code : ℕ} → Answered (f9_call inputs key message bits) refusal (code ∷ []) tt
    → length key ≡ 16 → inputs.direction ≤ 1 → 0 < bits → bits ≤ 20000 → size bits ≤ length message
    → (refusal ≡ 0) × (code ≡ f9_code inputs key message bits)
unfolding first f9_order
f9_done inputs key message bits answered sixteen way some most enough =
    let done = answered_done (f9_call inputs key message bits) answered
    (rw ((whole_key key).1 sixteen, le-ltb 1 inputs.direction way, taken_size bits some most, le-ltb (length message) (size bits) enough)) in
    (done.0, head_is done.1)
