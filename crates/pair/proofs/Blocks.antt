-- The padded string of f9, block by block, as the code makes it.
-- Assumes nothing.
use Prim.Native.Nat.{ℕ, ◌+◌, ◌-◌, ◌*◌, ◌%◌, ◌^◌, ◌<◌, ◌≤◌}
use native.Mathlib.Omega.{arith}
use native.Mathlib.Nat.{div-one, mod-eq_of_lt}
use mathlib.Core.Path.{◌≡◌, refl, sym, ap, ap₂, ◌∙◌}
use mathlib.Core.List.{List}
use lib.ListN.{get_or}
use Rattle.octets.specs.Bits.{bit_at, bit_of, part, number}
use Rattle.octets.proofs.Number.{number_ext, number_lt, number_add, number_zeros, number_whole}
use Rattle.octets.proofs.Stored.{part_in, part_out}
use Rattle.pair.specs.declared.F9Inputs.{F9Inputs}
use Rattle.pair.specs.F9.{padded, block_of}
use Rattle.pair.proofs.Padded.{count_bit, fresh_bit, message_bit, direction_bit, one_bit, zero_bit, padded_bits}

-- one bit, and two
number_1 : (f : ℕ → ℕ) → number f 1 ≡ f 0
unfolding number
number_1 f = omega arith

number_2 : (f : ℕ → ℕ) → number f 2 ≡ 2 * f 0 + f 1
unfolding number
number_2 f = omega arith

module _ (inputs : F9Inputs) (message : List ℕ) (bits : ℕ) where
  abbrev string : List ℕ
  string = padded inputs message bits

  -- a block has 64 bits
  pub block_lt : (n : ℕ) → block_of string n < 2 ^ 64
  unfolding block_of
  block_lt n = number_lt (λ j. get_or string (64 * n + j) 0) 64 (λ j. padded_bits inputs message bits (64 * n + j))

  -- block 0 is COUNT and FRESH
  pub first_block : inputs.count < 2 ^ 32 → inputs.fresh < 2 ^ 32 → block_of string 0 ≡ inputs.count * 2 ^ 32 + inputs.fresh
  unfolding block_of
  first_block count_fits fresh-fits =
      number_add (λ j. get_or string (64 * 0 + j) 0) 32 32
      ∙ ap₂ (λ (x y : ℕ). x * 2 ^ 32 + y)
      (number_ext _ (bit_at 32 inputs.count) 32 (λ j below. ap (λ (k : ℕ). get_or string k 0) (omega arith) ∙ count_bit inputs message bits j below)
      ∙ number_whole 32 inputs.count count_fits)
      (number_ext _ (bit_at 32 inputs.fresh) 32 (λ j below. ap (λ (k : ℕ). get_or string k 0) (omega arith) ∙ fresh_bit inputs message bits j below)
      ∙ number_whole 32 inputs.fresh fresh-fits)

  -- the bit at a place of a block after block 0, which begins at bit `start` of the message
  module _ (n start : ℕ) (begins : 64 * n ≡ 64 + start) where
    abbrev bit : ℕ → ℕ
    bit j = get_or string (64 * n + j) 0

    at : (j i : ℕ) → start + j ≡ i → bit j ≡ get_or string (64 + i) 0
    at j i is = ap (λ (k : ℕ). get_or string k 0) (omega (arith, begins, is))

    in_message : (j : ℕ) → start + j < bits → bit j ≡ bit_of message (start + j)
    in_message j below = at j (start + j) refl ∙ message_bit inputs message bits (start + j) below

    in_zeros : (j : ℕ) → bits + 2 ≤ start + j → bit j ≡ 0
    in_zeros j past = at j (bits + (2 + (start + j - bits - 2))) (omega (arith, past)) ∙ zero_bit inputs message bits (start + j - bits - 2)

    -- a block of the message alone
    pub message_block : start + 64 ≤ bits → block_of string n ≡ number (λ j. bit_of message (start + j)) 64
    unfolding block_of
    message_block within = number_ext _ _ 64 (λ j below. in_message j (omega (arith, within, below)))

    -- a block that the 1 begins: the message and DIRECTION have filled the one before
    pub one_block : bits + 1 ≡ start → block_of string n ≡ 2 ^ 63
    unfolding block_of
    one_block filled =
        number_zeros bit 1 63 (λ j from below. in_zeros j (omega (arith, filled, from)))
        ∙ ap (λ (x : ℕ). x * 2 ^ 63) {y = 1} (number_1 bit ∙ at 0 (bits + 1) (omega (arith, filled)) ∙ one_bit inputs message bits)

    -- a block in which the message ends, by how many of its bits are left
    module _ (left : ℕ) (ends : start + left ≡ bits) (way : inputs.direction ≤ 1) where
      abbrev rest : ℕ
      rest = number (part (bit_of message) start left) 64

      direction_is : bit left ≡ inputs.direction
      unfolding bit_at
      direction_is =
          at left (bits + 0) (omega (arith, ends)) ∙ direction_bit inputs message bits
          ∙ ap (λ (x : ℕ). x % 2) (div-one inputs.direction) ∙ mod-eq_of_lt (omega (arith, way))

      one_is : bit (left + 1) ≡ 1
      one_is = at (left + 1) (bits + 1) (omega (arith, ends)) ∙ one_bit inputs message bits

      -- what is left of the message, with zeros after it
      rest_is : left ≤ 64 → rest ≡ number bit left * 2 ^ (64 - left)
      rest_is most =
          ap (number (part (bit_of message) start left)) {y = left + (64 - left)} (omega (arith, most))
          ∙ number_zeros (part (bit_of message) start left) left (64 - left) (λ j from below. part_out (bit_of message) start left j from)
          ∙ ap (λ (x : ℕ). x * 2 ^ (64 - left))
          (number_ext _ _ left (λ j below. part_in (bit_of message) start left j below ∙ sym (in_message j (omega (arith, ends, below)))))

      -- DIRECTION is its last bit
      pub full_block : left ≡ 63 → block_of string n ≡ rest + inputs.direction
      unfolding block_of
      full_block full =
          ap (number bit) {y = left + 1} (omega (arith, full))
          ∙ number_add bit left 1
          ∙ ap₂ (λ (x y : ℕ). x + y)
          (ap (λ (k : ℕ). number bit left * 2 ^ k) {x = 1} {y = 64 - left} (omega (arith, full)) ∙ sym (rest_is (omega (arith, full))))
          (number_1 (λ j. bit (left + j)) ∙ ap bit (omega arith) ∙ direction_is)

      -- DIRECTION, the 1 and zeros follow in it
      pub ended_block : left ≤ 62 → block_of string n ≡ rest + (2 * inputs.direction + 1) * 2 ^ (62 - left)
      unfolding block_of
      ended_block room =
          ap (number bit) {y = left + (64 - left)} (omega (arith, room))
          ∙ number_add bit left (64 - left)
          ∙ ap₂ (λ (x y : ℕ). x + y)
          (sym (rest_is (omega (arith, room))))
          (ap (number (λ j. bit (left + j))) {y = 2 + (62 - left)} (omega (arith, room))
          ∙ number_zeros (λ j. bit (left + j)) 2 (62 - left) (λ j from below. in_zeros (left + j) (omega (arith, ends, from)))
          ∙ ap (λ (x : ℕ). x * 2 ^ (62 - left))
          (number_2 (λ j. bit (left + j)) ∙ ap₂ (λ (x y : ℕ). 2 * x + y) (ap bit (omega arith) ∙ direction_is) one_is))
