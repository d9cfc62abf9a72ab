-- The padded string of f9 tells what it was made of: two that are the same have the same message, of the same length, and the same inputs.
-- Assumes nothing.
use Prim.Native.Nat.{ℕ, ◌+◌, ◌-◌, ◌^◌, ◌<◌, ◌≤◌}
use native.Mathlib.Decide.{dec_lt}
use native.Mathlib.Omega.{arith}
use mathlib.Core.Path.{◌≡◌, sym, ap, ◌∙◌}
use mathlib.Core.List.{List}
use lib.ListN.{get_or}
use Rattle.octets.specs.Bits.{bit_at, bit_of}
use Rattle.octets.proofs.Number.{number_ext, number_whole}
use Rattle.pair.specs.declared.F9Inputs.{F9Inputs}
use Rattle.pair.specs.F9.{padded}
use Rattle.pair.proofs.Padded.{count_bit, fresh_bit, message_bit, direction_bit, one_bit, zero_bit}

-- past a longer message the string has a 1 where that of a shorter one has a zero
not_longer : (inputs inputs' : F9Inputs) (message message' : List ℕ) (bits bits' : ℕ) → padded inputs message bits ≡ padded inputs' message' bits' → bits < bits' → ⊥
not_longer inputs inputs' message message' bits bits' same longer =
    let wrong : ◌≡◌ {A = ℕ} 0 1 =
    sym (zero_bit inputs message bits (bits' - bits - 1))
    ∙ ap (λ (k : ℕ). get_or (padded inputs message bits) k 0) {y = 64 + (bits' + 1)} (omega (arith, longer))
    ∙ ap (λ (l : List ℕ). get_or l (64 + (bits' + 1)) 0) same
    ∙ one_bit inputs' message' bits' in
    absurd (omega arith)

module _ (inputs inputs' : F9Inputs) (message message' : List ℕ) (bits bits' : ℕ) (same : padded inputs message bits ≡ padded inputs' message' bits') where
  at : (i : ℕ) → get_or (padded inputs message bits) i 0 ≡ get_or (padded inputs' message' bits') i 0
  at i = ap (λ (l : List ℕ). get_or l i 0) same

  pub bits_told : bits ≡ bits'
  bits_told =
      elim (dec_lt bits bits') [
        | yes longer ↦ absurd (not_longer inputs inputs' message message' bits bits' same longer)
        | no not-less ↦
            elim (dec_lt bits' bits) [
              | yes shorter ↦ absurd (not_longer inputs' inputs message' message bits' bits (sym same) shorter)
              | no not_more ↦ omega (arith, not-less, not_more)
            ]
      ]

  pub message_told : (i : ℕ) → i < bits → bit_of message i ≡ bit_of message' i
  message_told i below = sym (message_bit inputs message bits i below) ∙ at (64 + i) ∙ message_bit inputs' message' bits' i (omega (arith, below, bits_told))

  pub count_told : inputs.count < 2 ^ 32 → inputs'.count < 2 ^ 32 → inputs.count ≡ inputs'.count
  count_told fits fits' =
      sym (number_whole 32 inputs.count fits)
      ∙ number_ext (bit_at 32 inputs.count) (bit_at 32 inputs'.count) 32
      (λ i below. sym (count_bit inputs message bits i below) ∙ at i ∙ count_bit inputs' message' bits' i below)
      ∙ number_whole 32 inputs'.count fits'

  pub fresh_told : inputs.fresh < 2 ^ 32 → inputs'.fresh < 2 ^ 32 → inputs.fresh ≡ inputs'.fresh
  fresh_told fits fits' =
      sym (number_whole 32 inputs.fresh fits)
      ∙ number_ext (bit_at 32 inputs.fresh) (bit_at 32 inputs'.fresh) 32
      (λ i below. sym (fresh_bit inputs message bits i below) ∙ at (32 + i) ∙ fresh_bit inputs' message' bits' i below)
      ∙ number_whole 32 inputs'.fresh fits'

  pub direction_told : inputs.direction ≤ 1 → inputs'.direction ≤ 1 → inputs.direction ≡ inputs'.direction
  direction_told way way' =
      sym (number_whole 1 inputs.direction (omega (arith, way)))
      ∙ number_ext (bit_at 1 inputs.direction) (bit_at 1 inputs'.direction) 1
      (λ i below.
      ap (bit_at 1 inputs.direction) {y = 0} (omega (arith, below))
      ∙ sym (direction_bit inputs message bits)
      ∙ at (64 + (bits + 0))
      ∙ ap (λ (n : ℕ). get_or (padded inputs' message' bits') (64 + (n + 0)) 0) bits_told
      ∙ direction_bit inputs' message' bits'
      ∙ ap (bit_at 1 inputs'.direction) {x = 0} {y = i} (omega (arith, below)))
      ∙ number_whole 1 inputs'.direction (omega (arith, way'))
