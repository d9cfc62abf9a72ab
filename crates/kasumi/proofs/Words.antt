-- Words of 16 bits: a rotation by shifts.
-- Assumes nothing.
use Prim.Native.Nat.{ℕ, ◌+◌, ◌-◌, ◌*◌, ◌/◌, ◌%◌, ◌^◌, ◌<◌, ◌≤◌}
use native.Mathlib.Nat.{mul-mod_left, add-zero, add_comm}
use native.Mathlib.Omega.{arith}
use mathlib.Core.Path.{◌≡◌, sym, subst, ◌∙◌}
use lib.Bits.{bit_or, or_shifted}
use lib.Pow.{mod-pow-add, shl-shr, shr_lt}
use Rattle.kasumi.specs.Kasumi.{rot}

-- of a shift to the left by k, j + k bits are kept: a multiple of 2 ^ k
kept : (x k j : ℕ) → x * 2 ^ k % 2 ^ (j + k) ≡ (x % 2 ^ j) * 2 ^ k
kept x k j = rw (mod-pow-add, shl-shr, mul-mod_left) (add-zero ((x % 2 ^ j) * 2 ^ k))

-- so it has no bit in common with what a shift to the right by j leaves
disjoint : (x k j : ℕ) → x < 2 ^ (j + k) → bit_or (x * 2 ^ k % 2 ^ (j + k)) (x / 2 ^ j) ≡ x * 2 ^ k % 2 ^ (j + k) + x / 2 ^ j
disjoint x k j l = rw kept (or_shifted (x % 2 ^ j) k (x / 2 ^ j) (shr_lt k j (rw (add_comm k j) l)))

-- a rotation by two shifts
rot_shifts : (k x : ℕ) → k ≤ 16 → x < 2 ^ 16 → bit_or (x * 2 ^ k % 2 ^ 16) (x / 2 ^ (16 - k)) ≡ rot k x
unfolding rot
rot_shifts k x l w =
    let whole : (16 - k) + k ≡ 16 = omega arith in
    subst (λ (n : ℕ). bit_or (x * 2 ^ k % 2 ^ n) (x / 2 ^ (16 - k)) ≡ x * 2 ^ k % 2 ^ n + x / 2 ^ (16 - k)) whole
    (disjoint x k (16 - k) (subst (λ (n : ℕ). x < 2 ^ n) (sym whole) w))

-- what the library's rotation gives at a number of bits that stands in the code
pub rotated : (k x : ℕ) {result : ℕ} → result ≡ bit_or (x * 2 ^ k % 2 ^ 16) (x / 2 ^ (16 - k)) → k ≤ 16 → x < 2 ^ 16 → result ≡ rot k x
rotated k x is l w = is ∙ rot_shifts k x l w
