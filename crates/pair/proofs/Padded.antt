-- The padded string of f9, bit by bit.
-- Assumes nothing.
use Prim.Native.Nat.{ℕ, zero, suc, ◌+◌, ◌<◌}
use native.Mathlib.Omega.{arith}
use mathlib.Core.Path.{◌≡◌, refl, ap, ◌∙◌}
use mathlib.Core.List.{List, [], ◌∷◌, ◌++◌, append_assoc}
use lib.Dec.{lit<}
use lib.ListN.{length, get_or, replicate, length-append, length-replicate, get_or-append}
use Rattle.octets.specs.Bits.{bit_at, bit_of, listed}
use Rattle.octets.proofs.Listed.{length-listed, get_or-listed, get_or-zeros, get_d_past}
use Rattle.octets.proofs.Number.{bit_at_lt}
use Rattle.octets.proofs.Stored.{bit_of_lt}
use Rattle.pair.specs.declared.F9Inputs.{F9Inputs}
use Rattle.pair.specs.F9.{bits_of, zeros_after, padded}

-- a list of bits, and another after it, are bits
record AreBits (l : List ℕ) : Type 0 where
  at : (i : ℕ) → get_or l i 0 < 2

appended : (l m : List ℕ) → ((i : ℕ) → get_or l i 0 < 2) → ((i : ℕ) → get_or m i 0 < 2) → (i : ℕ) → get_or (l ++ m) i 0 < 2
appended [] m first second i = second i
appended (x ∷ l) m first second zero = first 0
appended (x ∷ l) m first second (suc i) = appended l m (λ j. first (suc j)) second i

append_bits : (l m : List ℕ) → AreBits l → AreBits m → AreBits (l ++ m)
append_bits l m first second = record { at = appended l m first.at second.at }

one_bits : (x : ℕ) → x < 2 → AreBits (x ∷ [])
one_bits x below = record { at = only }
  where
    only : (i : ℕ) → get_or (x ∷ []) i 0 < 2
    only zero = below
    only (suc i) = lit< tt

listed_bits : (f : ℕ → ℕ) (n : ℕ) → ((i : ℕ) → f i < 2) → AreBits (listed f n)
unfolding listed
listed_bits f zero bits = record { at = λ i. lit< tt }
listed_bits f (suc n) bits = append_bits (listed f n) (f n ∷ []) (listed_bits f n bits) (one_bits (f n) (bits n))

zeros_bits : (n : ℕ) → AreBits (replicate n 0)
zeros_bits n = record { at = λ i. rw (get_or-zeros n i) (lit< tt) }

module _ (inputs : F9Inputs) (message : List ℕ) (bits : ℕ) where
  -- what comes after the message, after FRESH, and after COUNT
  abbrev ending : List ℕ
  ending = bits_of 1 inputs.direction ++ 1 ∷ replicate (zeros_after bits) 0

  abbrev tail : List ℕ
  tail = listed (bit_of message) bits ++ ending

  abbrev fresh_on : List ℕ
  fresh_on = bits_of 32 inputs.fresh ++ tail

  abbrev whole : List ℕ
  whole = bits_of 32 inputs.count ++ fresh_on

  in_parts : padded inputs message bits ≡ whole
  unfolding padded
  in_parts = simp append_assoc

  pub count_bit : (i : ℕ) → i < 32 → get_or (padded inputs message bits) i 0 ≡ bit_at 32 inputs.count i
  count_bit i below =
      ap (λ (l : List ℕ). get_or l i 0) in_parts
      ∙ get_or-append (bits_of 32 inputs.count) fresh_on 0 i (omega (arith, length-listed (bit_at 32 inputs.count) 32))
      ∙ get_or-listed (bit_at 32 inputs.count) 32 i 0 below

  pub fresh_bit : (i : ℕ) → i < 32 → get_or (padded inputs message bits) (32 + i) 0 ≡ bit_at 32 inputs.fresh i
  fresh_bit i below =
      ap (λ (l : List ℕ). get_or l (32 + i) 0) in_parts
      ∙ get_d_past (bits_of 32 inputs.count) fresh_on 32 i (length-listed (bit_at 32 inputs.count) 32)
      ∙ get_or-append (bits_of 32 inputs.fresh) tail 0 i (omega (arith, length-listed (bit_at 32 inputs.fresh) 32))
      ∙ get_or-listed (bit_at 32 inputs.fresh) 32 i 0 below

  tail_bit : (i : ℕ) → get_or (padded inputs message bits) (64 + i) 0 ≡ get_or tail i 0
  tail_bit i =
      ap (λ (l : List ℕ). get_or l (64 + i) 0) in_parts
      ∙ ap (λ (k : ℕ). get_or whole k 0) {y = 32 + (32 + i)} (omega arith)
      ∙ get_d_past (bits_of 32 inputs.count) fresh_on 32 (32 + i) (length-listed (bit_at 32 inputs.count) 32)
      ∙ get_d_past (bits_of 32 inputs.fresh) tail 32 i (length-listed (bit_at 32 inputs.fresh) 32)

  pub message_bit : (i : ℕ) → i < bits → get_or (padded inputs message bits) (64 + i) 0 ≡ bit_of message i
  message_bit i below =
      tail_bit i
      ∙ get_or-append (listed (bit_of message) bits) ending 0 i (omega (arith, length-listed (bit_of message) bits))
      ∙ get_or-listed (bit_of message) bits i 0 below

  ending_bit : (i : ℕ) → get_or (padded inputs message bits) (64 + (bits + i)) 0 ≡ get_or ending i 0
  ending_bit i = tail_bit (bits + i) ∙ get_d_past (listed (bit_of message) bits) ending bits i (length-listed (bit_of message) bits)

  pub direction_bit : get_or (padded inputs message bits) (64 + (bits + 0)) 0 ≡ bit_at 1 inputs.direction 0
  unfolding listed
  direction_bit = ending_bit 0

  pub one_bit : get_or (padded inputs message bits) (64 + (bits + 1)) 0 ≡ 1
  unfolding listed
  one_bit = ending_bit 1

  pub zero_bit : (i : ℕ) → get_or (padded inputs message bits) (64 + (bits + (2 + i))) 0 ≡ 0
  unfolding listed
  zero_bit i = ending_bit (2 + i) ∙ get_d_past (bits_of 1 inputs.direction ++ (1 ∷ [])) (replicate (zeros_after bits) 0) 2 i refl ∙ get_or-zeros (zeros_after bits) i

  pub length-padded : length (padded inputs message bits) ≡ 66 + bits + zeros_after bits
  unfolding listed
  length-padded =
      ap length in_parts
      ∙ length-append (bits_of 32 inputs.count) fresh_on
      ∙ omega (
        arith,
        length-listed (bit_at 32 inputs.count) 32,
        length-append (bits_of 32 inputs.fresh) tail,
        length-listed (bit_at 32 inputs.fresh) 32,
        length-append (listed (bit_of message) bits) ending,
        length-listed (bit_of message) bits,
        length-append (bits_of 1 inputs.direction) (1 ∷ replicate (zeros_after bits) 0),
        length-replicate {A = ℕ} (zeros_after bits) 0,
      )

  -- it is a list of bits
  are_bits : AreBits (padded inputs message bits)
  unfolding padded
  are_bits =
      append_bits _ (replicate (zeros_after bits) 0)
      (append_bits _ (1 ∷ [])
      (append_bits _ (bits_of 1 inputs.direction)
      (append_bits _ (listed (bit_of message) bits)
      (append_bits (bits_of 32 inputs.count) (bits_of 32 inputs.fresh)
      (listed_bits (bit_at 32 inputs.count) 32 (bit_at_lt 32 inputs.count))
      (listed_bits (bit_at 32 inputs.fresh) 32 (bit_at_lt 32 inputs.fresh)))
      (listed_bits (bit_of message) bits (bit_of_lt message)))
      (listed_bits (bit_at 1 inputs.direction) 1 (bit_at_lt 1 inputs.direction)))
      (one_bits 1 (lit< tt)))
      (zeros_bits (zeros_after bits))

  pub padded_bits : (i : ℕ) → get_or (padded inputs message bits) i 0 < 2
  padded_bits i = are_bits.at i
