-- Under one offset INPUT tells a frame's service and its number, below 2^27; at 2^27 it no longer does. Assumes nothing.
use Rattle.std.proofs.Common.{◌≡◌, ℕ, ◌+◌, ◌*◌, ◌/◌, ◌%◌, ◌^◌, ◌<◌, ◌≤◌, eqb, ◌⊎◌, sym, ap, ◌∙◌, ap₂, inl, inr, mod-lt, arith, lit<, eqb-true}
use borrow.Author.Tests.{eqb-false}
use lib.Bits.{bit_xor, xor_zero_r, xor_comm, xor_add_and, xor_block, xor_shr, xor_mod}
use Rattle.refusals.proofs.Tests.{by-test}
use Rattle.octets.proofs.Xored.{xor_twice}
use Rattle.link.specs.Input.{sx, input_of}

-- SX leaves the low 27 bits of an offset as they are
low_bits : (iov sapi : ℕ) → bit_xor iov (sx sapi) % 2 ^ 27 ≡ iov % 2 ^ 27
unfolding sx
low_bits iov sapi = xor_mod iov (sx sapi) 27 ∙ ap (bit_xor (iov % 2 ^ 27)) {x = sx sapi % 2 ^ 27} {y = 0} (omega arith) ∙ xor_zero_r (iov % 2 ^ 27)

-- and of a service number of four bits all of SX counts
all_bits : (iov sapi : ℕ) → sapi ≤ 15 → bit_xor iov (sx sapi) % 2 ^ 32 ≡ bit_xor (sx sapi) (iov % 2 ^ 32)
unfolding sx
all_bits iov sapi most = xor_mod iov (sx sapi) 32 ∙ ap (bit_xor (iov % 2 ^ 32)) {x = sx sapi % 2 ^ 32} {y = sx sapi} (omega arith) ∙ xor_comm (iov % 2 ^ 32) (sx sapi)

-- two frames that share an INPUT are of one service and have one number
pub input_tells : (iov : ℕ) {s t m n : ℕ} → s ≤ 15 → t ≤ 15 → m < 2 ^ 27 → n < 2 ^ 27 → input_of iov s m ≡ input_of iov t n → (s ≡ t) × (m ≡ n)
unfolding input_of sx
input_tells iov {s} {t} {m} {n} s-most t-most m-below n-below same =
    let number : m ≡ n = omega (arith, low_bits iov s, low_bits iov t) in
    let from-service : bit_xor iov (sx s) % 2 ^ 32 ≡ bit_xor iov (sx t) % 2 ^ 32 = omega arith in
    let offset : ℕ = iov % 2 ^ 32 in
    let of_service : sx s ≡ sx t =
    sym (xor_twice (sx s) offset) ∙ ap (λ (x : ℕ). bit_xor x offset) (sym (all_bits iov s s-most) ∙ from-service ∙ all_bits iov t t-most) ∙ xor_twice (sx t) offset in
    (omega arith, number)

-- where the frames of a service begin: SX turns over the high bits of the offset, and leaves the low 27
begin : (iov sapi : ℕ) → bit_xor iov (sx sapi) ≡ bit_xor (iov / 2 ^ 27) (sapi + 16) * 2 ^ 27 + iov % 2 ^ 27
unfolding sx
begin iov sapi =
    let parts : iov ≡ iov / 2 ^ 27 * 2 ^ 27 + iov % 2 ^ 27 = omega arith in
    let high : sx sapi ≡ (sapi + 16) * 2 ^ 27 + 0 = omega arith in
    ap₂ bit_xor parts high
    ∙ xor_block 27 (iov / 2 ^ 27) (sapi + 16) (iov % 2 ^ 27) 0 (mod-lt iov (lit< tt)) (lit< tt)
    ∙ ap (λ (x : ℕ). bit_xor (iov / 2 ^ 27) (sapi + 16) * 2 ^ 27 + x) (xor_zero_r (iov % 2 ^ 27))

-- at 2^27 services 2 and 3 meet whatever the offset: they differ in their lowest bit alone, so that the one ends where the other begins
pub two_meets_three : (iov : ℕ) → (input_of iov 2 (2 ^ 27) ≡ input_of iov 3 0) ⊎ (input_of iov 3 (2 ^ 27) ≡ input_of iov 2 0)
unfolding input_of
two_meets_three iov =
    let high : ℕ = iov / 2 ^ 27 in
    let above : bit_xor high 18 / 2 ≡ bit_xor high 19 / 2 = xor_shr high 18 1 ∙ sym (xor_shr high 19 1) in
    by-test (eqb (high % 2) 0) ((input_of iov 2 (2 ^ 27) ≡ input_of iov 3 0) ⊎ (input_of iov 3 (2 ^ 27) ≡ input_of iov 2 0))
    (λ even.
    let next : bit_xor high 19 ≡ bit_xor high 18 + 1 = omega (arith, above, xor_add_and high 18, xor_add_and high 19, eqb-true (high % 2) 0 even) in
    inl (ap (λ (x : ℕ). x % 2 ^ 32) (omega (arith, next, begin iov 2, begin iov 3))))
    (λ odd.
    let next : bit_xor high 18 ≡ bit_xor high 19 + 1 = omega (arith, above, xor_add_and high 18, xor_add_and high 19, eqb-false (high % 2) 0 odd) in
    inr (ap (λ (x : ℕ). x % 2 ^ 32) (omega (arith, next, begin iov 2, begin iov 3))))
