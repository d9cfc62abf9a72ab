-- The definitions over bits that are held as words and halves: a half of two joined numbers, a step of FO, a round.
-- Assumes nothing.
use Prim.Native.Nat.{ℕ, ◌%◌, ◌^◌, ◌<◌}
use native.Mathlib.Omega.{arith}
use mathlib.Core.Path.{◌≡◌, sym, ap, ap₂, ◌∙◌}
use borrow.Author.Tests.{eq-eqb, ne_eqb}
use lib.Bits.{bit_xor}
use Rattle.octets.specs.Bits.{join}
use Rattle.kasumi.specs.Kasumi.{left, right, fl, fo_step, fo, f, round}
use Rattle.kasumi.specs.declared.schedule.Keys.{Keys}

-- the halves of two words, and of two halves
pub left_16 : (l r : ℕ) → r < 2 ^ 16 → left 16 (join 16 l r) ≡ l
left_16 l r fits = omega arith

pub right_16 : (l r : ℕ) → r < 2 ^ 16 → right 16 (join 16 l r) ≡ r
right_16 l r fits = omega arith

pub left_32 : (l r : ℕ) → r < 2 ^ 32 → left 32 (join 32 l r) ≡ l
left_32 l r fits = omega arith

pub right_32 : (l r : ℕ) → r < 2 ^ 32 → right 32 (join 32 l r) ≡ r
right_32 l r fits = omega arith

-- a step of FO on two words
pub fo_step_words : (FI : ℕ → ℕ → ℕ) (ko ki l r : ℕ) → r < 2 ^ 16 → fo_step FI ko ki (join 16 l r) ≡ join 16 r (bit_xor (FI ki (bit_xor l ko)) r)
unfolding fo_step
fo_step_words FI ko ki l r fits = ap₂ (λ (x y : ℕ). join 16 y (bit_xor (FI ki (bit_xor x ko)) y)) (left_16 l r fits) (right_16 l r fits)

-- FO on two words, by the words that its first two steps make
pub fo_words : (FI : ℕ → ℕ → ℕ) (keys : Keys) (l r : ℕ) {first second : ℕ} → r < 2 ^ 16
    → first ≡ bit_xor (FI keys.ki1 (bit_xor l keys.ko1)) r → first < 2 ^ 16
    → second ≡ bit_xor (FI keys.ki2 (bit_xor r keys.ko2)) first → second < 2 ^ 16
    → fo FI keys (join 16 l r) ≡ join 16 second (bit_xor (FI keys.ki3 (bit_xor first keys.ko3)) second)
unfolding fo
fo_words FI keys l r {first} {second} fits is_first fits-first is-second fits-second =
    ap (fo_step FI keys.ko3 keys.ki3)
    (ap (fo_step FI keys.ko2 keys.ki2) (fo_step_words FI keys.ko1 keys.ki1 l r fits ∙ ap (join 16 r) (sym is_first))
    ∙ fo_step_words FI keys.ko2 keys.ki2 r first fits-first
    ∙ ap (join 16 first) (sym is-second))
    ∙ fo_step_words FI keys.ko3 keys.ki3 first second fits-second

-- a round on two halves
pub round_halves : (FI : ℕ → ℕ → ℕ) (keys_of : ℕ → Keys) (i l r : ℕ) → r < 2 ^ 32
    → round FI keys_of i (join 32 l r) ≡ join 32 (bit_xor r (f FI keys_of i l)) l
unfolding round
round_halves FI keys_of i l r fits = ap₂ (λ (x y : ℕ). join 32 (bit_xor y (f FI keys_of i x)) x) (left_32 l r fits) (right_32 l r fits)

-- f in odd rounds, and in even ones
pub f_odd : (FI : ℕ → ℕ → ℕ) (keys_of : ℕ → Keys) (i x : ℕ) → i % 2 ≡ 1 → f FI keys_of i x ≡ fo FI (keys_of i) (fl (keys_of i).kl1 (keys_of i).kl2 x)
unfolding f
f_odd FI keys_of i x odd = rw (eq-eqb (i % 2) 1 odd)

pub f_even : (FI : ℕ → ℕ → ℕ) (keys_of : ℕ → Keys) (i x : ℕ) → i % 2 ≡ 0 → f FI keys_of i x ≡ fl (keys_of i).kl1 (keys_of i).kl2 (fo FI (keys_of i) x)
unfolding f
f_even FI keys_of i x even = rw (ne_eqb (i % 2) 1 (omega arith))

-- so an odd round is as round 1 with its keys, and an even one as round 2
pub round_odd : (FI : ℕ → ℕ → ℕ) (keys_of : ℕ → Keys) (i x : ℕ) → i % 2 ≡ 1 → round FI (λ _. keys_of i) 1 x ≡ round FI keys_of i x
unfolding round f
round_odd FI keys_of i x odd = rw (eq-eqb (i % 2) 1 odd)

pub round_even : (FI : ℕ → ℕ → ℕ) (keys_of : ℕ → Keys) (i x : ℕ) → i % 2 ≡ 0 → round FI (λ _. keys_of i) 2 x ≡ round FI keys_of i x
unfolding round f
round_even FI keys_of i x even = rw (ne_eqb (i % 2) 1 (omega arith))
