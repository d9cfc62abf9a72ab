-- The octets of the modified key, and the blocks of the keystream, one after the other, as octets.
-- Assumes nothing.
use mathlib.Core.Path.{◌≡◌, sym, ap, ap₂, ◌∙◌}
use mathlib.Core.List.{List, [], ◌∷◌, ◌++◌}
use Prim.Native.Nat.{ℕ, zero, suc, ◌+◌, ◌-◌, ◌*◌, ◌/◌, ◌%◌, ◌^◌, ◌≤◌, ◌<◌}
use native.Mathlib.Nat.{div-one}
use native.Mathlib.Numerals.{add-one}
use native.Mathlib.Omega.{arith}
use lib.Bits.{bit_xor, xor_lt}
use lib.Dec.{lit<}
use lib.ListN.{take}
use lib.Seq.{take-append_seam}
use Rattle.std.specs.Int.{to_be_bytes}
use Rattle.std.proofs.Common.{w64}
use Rattle.octets.specs.Bits.{bit_at, octet, listed}
use Rattle.octets.specs.Octets.{AreOctets}
use Rattle.octets.proofs.Number.{number_ext, number_bits}
use Rattle.octets.proofs.Listed.{length-listed, listed_add}
use Rattle.kasumi.specs.Kasumi.{kasumi}
use Rattle.kgcore.specs.Kgcore.{block, modified}

-- the modified key is octets, as the key is
pub modified_octets : (key : List ℕ) → AreOctets key → AreOctets (modified key)
unfolding modified
modified_octets [] each i = lit< tt
modified_octets (octet ∷ rest) each zero = xor_lt 8 octet 0x55 (each 0) (lit< tt)
modified_octets (octet ∷ rest) each (suc i) = modified_octets rest (λ j. each (suc j)) i

-- bit i of the blocks from block 1 on, under a register A
abbrev pub stream_bit : List ℕ → ℕ → ℕ → ℕ
stream_bit key a i = bit_at 64 (block key a (i / 64 + 1)) (i % 64)

-- the block after block n, as the generator has it
pub block_next : (key : List ℕ) (a n : ℕ) → block key a (n + 1) ≡ kasumi key (bit_xor (bit_xor a n) (block key a n))
unfolding block
block_next key a n = rw (add-one n)

-- octet j of a block is its field of eight digits that has 56 - 8 * j after it
pub block_octet : (x j : ℕ) → j < 8 → x / 2 ^ (56 - 8 * j) % 256 ≡ octet (bit_at 64 x) j
unfolding octet
block_octet x j below = sym (number_bits 64 x (j * 8) 8 (omega arith) ∙ ap (λ (k : ℕ). x / 2 ^ k % 256) (omega arith))

-- so the octets of a block are those of `to_be_bytes`, as many as are taken
pub block_octets : (x n : ℕ) → n ≤ 8 → take n (to_be_bytes w64 x) ≡ listed (octet (bit_at 64 x)) n
unfolding listed
block_octets x n most =
    let f : ℕ → ℕ = octet (bit_at 64 x) in
    let whole : to_be_bytes w64 x ≡ listed f 8 =
    λ i. block_octet x 0 (lit< tt) i
    ∷ block_octet x 1 (lit< tt) i
    ∷ block_octet x 2 (lit< tt) i
    ∷ block_octet x 3 (lit< tt) i
    ∷ block_octet x 4 (lit< tt) i
    ∷ block_octet x 5 (lit< tt) i
    ∷ block_octet x 6 (lit< tt) i
    ∷ (ap (λ (y : ℕ). y % 256) (sym (div-one x)) ∙ block_octet x 7 (lit< tt)) i
    ∷ [] in
    ap (take n) (whole ∙ ap (listed f) {x = 8} {y = n + (8 - n)} (omega arith) ∙ listed_add f n (8 - n))
    ∙ ap (λ (k : ℕ). take k (listed f n ++ listed (λ i. f (n + i)) (8 - n))) (sym (length-listed f n))
    ∙ take-append_seam (listed f n) (listed (λ i. f (n + i)) (8 - n))

-- octet j of block n + 1 is octet 8 * n + j of them all
pub stream_octet : (key : List ℕ) (a n j : ℕ) → j < 8 → octet (bit_at 64 (block key a (n + 1))) j ≡ octet (stream_bit key a) (8 * n + j)
unfolding octet
stream_octet key a n j below =
    number_ext _ _ 8 λ i within.
    ap₂ (λ (m bit : ℕ). bit_at 64 (block key a (m + 1)) bit) (omega arith) (omega arith)
