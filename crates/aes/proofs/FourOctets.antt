-- Words of four octets: their octets, their xor, and a word turned by whole octets.
-- Assumes nothing.
use Prim.Native.Nat.{ℕ, zero, suc, ◌*◌, ◌/◌, ◌%◌, ◌^◌, ◌<◌}
use native.Mathlib.Nat.{not-suc-le-zero, le_of_suc-le-suc, div-add-mod', div-one}
use native.Mathlib.Omega.{arith}
use mathlib.Core.Path.{◌≡◌, sym, ap, ap₂, ◌∙◌}
use mathlib.Core.List.{[], ◌∷◌}
use lib.Bits.{bit_or, bit_xor, xor_block}
use lib.Dec.{lit<}
use lib.Pow.{shr-shr}
use Rattle.std.specs.Int.{w32, from_be_bytes, rotate_right}
use Rattle.std.specs.Int.Bits.{or_shifted_r}
use Rattle.octets.specs.Bits.{join}
use Rattle.aes.specs.Aes.{word, octet_of}

-- what holds of each number below 4
pub each_of_4 : (P : ℕ → Type 0) → P 0 → P 1 → P 2 → P 3 → (r : ℕ) → r < 4 → P r
each_of_4 P p q s t zero below = p
each_of_4 P p q s t (suc zero) below = q
each_of_4 P p q s t (suc (suc zero)) below = s
each_of_4 P p q s t (suc (suc (suc zero))) below = t
each_of_4 P p q s t (suc (suc (suc (suc r)))) below =
    absurd (not-suc-le-zero (le_of_suc-le-suc (le_of_suc-le-suc (le_of_suc-le-suc (le_of_suc-le-suc below)))))

-- the word of four octets, as `from_be_bytes` puts it
pub of_octets : (a b c d : ℕ) → from_be_bytes w32 (a ∷ b ∷ c ∷ d ∷ []) ≡ word a b c d
of_octets a b c d = omega arith

-- octet r of the word of four octets f 0, f 1, f 2 and f 3
pub octet_word : (f : ℕ → ℕ) → ((k : ℕ) → k < 4 → f k < 256) → (r : ℕ) → r < 4 → octet_of (word (f 0) (f 1) (f 2) (f 3)) r ≡ f r
octet_word f fits r below =
    let f0 : f 0 < 256 = fits 0 (lit< tt) in
    let f1 : f 1 < 256 = fits 1 (lit< tt) in
    let f2 : f 2 < 256 = fits 2 (lit< tt) in
    let f3 : f 3 < 256 = fits 3 (lit< tt) in
    each_of_4 (λ (k : ℕ). octet_of (word (f 0) (f 1) (f 2) (f 3)) k ≡ f k) (omega arith) (omega arith) (omega arith) (omega arith) r below

-- words of four octets
module _ (a b c d : ℕ) (fits-a : a < 256) (fits-b : b < 256) (fits-c : c < 256) (fits-d : d < 256) where
  -- turned to the right by one octet, by two and by three
  pub turned_1 : rotate_right w32 (word a b c d) 8 ≡ word d a b c
  turned_1 =
      ap (bit_or (word a b c d / 2 ^ 8)) {y = d * 2 ^ 24} (omega arith) ∙ or_shifted_r d 24 (word a b c d / 2 ^ 8) (omega arith) ∙ omega arith

  pub turned_2 : rotate_right w32 (word a b c d) 16 ≡ word c d a b
  turned_2 =
      ap (bit_or (word a b c d / 2 ^ 16)) {y = join 8 c d * 2 ^ 16} (omega arith)
      ∙ or_shifted_r (join 8 c d) 16 (word a b c d / 2 ^ 16) (omega arith)
      ∙ omega arith

  pub turned_3 : rotate_right w32 (word a b c d) 24 ≡ word b c d a
  turned_3 =
      ap (bit_or (word a b c d / 2 ^ 24)) {y = join 8 (join 8 b c) d * 2 ^ 8} (omega arith)
      ∙ or_shifted_r (join 8 (join 8 b c) d) 8 (word a b c d / 2 ^ 24) (omega arith)
      ∙ omega arith

  -- the xor of two words is that of their octets
  pub word_xor : (e f g h : ℕ) → f < 256 → g < 256 → h < 256
      → bit_xor (word a b c d) (word e f g h) ≡ word (bit_xor a e) (bit_xor b f) (bit_xor c g) (bit_xor d h)
  word_xor e f g h fits-f fits-g fits-h =
      xor_block 8 (join 8 (join 8 a b) c) (join 8 (join 8 e f) g) d h fits-d fits-h
      ∙ ap (λ (x : ℕ). join 8 x (bit_xor d h))
      (xor_block 8 (join 8 a b) (join 8 e f) c g fits-c fits-g ∙ ap (λ (x : ℕ). join 8 x (bit_xor c g)) (xor_block 8 a e b f fits-b fits-f))

-- the octets of a word make it again
pub octets_word : (w : ℕ) → w < 2 ^ 32 → word (octet_of w 0) (octet_of w 1) (octet_of w 2) (octet_of w 3) ≡ w
octets_word w fits =
    ap (λ (x : ℕ). join 8 (join 8 (join 8 x (octet_of w 1)) (octet_of w 2)) (octet_of w 3)) {y = w / 2 ^ 16 / 256} (omega (arith, shr-shr w 16 8))
    ∙ ap (λ (x : ℕ). join 8 (join 8 x (octet_of w 2)) (octet_of w 3)) (div-add-mod' (w / 2 ^ 16) 256 ∙ sym (shr-shr w 8 8))
    ∙ ap₂ (join 8) (div-add-mod' (w / 2 ^ 8) 256) (ap (λ (x : ℕ). x % 256) (div-one w))
    ∙ div-add-mod' w 256

-- a word of four octets xor any word
pub xor_with : (a b c d w : ℕ) → a < 256 → b < 256 → c < 256 → d < 256 → w < 2 ^ 32
    → bit_xor (word a b c d) w ≡ word (bit_xor a (octet_of w 0)) (bit_xor b (octet_of w 1)) (bit_xor c (octet_of w 2)) (bit_xor d (octet_of w 3))
xor_with a b c d w fits-a fits-b fits-c fits-d fits =
    ap (bit_xor (word a b c d)) (sym (octets_word w fits))
    ∙ word_xor a b c d fits-a fits-b fits-c fits-d (octet_of w 0) (octet_of w 1) (octet_of w 2) (octet_of w 3) (omega arith) (omega arith) (omega arith)
