-- The table of the rounds: what stands in it, and that four look-ups are a column after SubBytes, ShiftRows and MixColumns.
-- Assumes nothing.
use Prim.Native.Nat.{ℕ, ◌/◌, ◌%◌, ◌<◌}
use native.Mathlib.Nat.{mod-lt}
use native.Mathlib.Omega.{arith}
use mathlib.Core.Path.{◌≡◌, refl, sym, ap, ap₂, ◌∙◌}
use mathlib.Core.Bool.{Bool}
use mathlib.Core.List.{List}
use lib.Bits.{bit_xor, xor_lt}
use lib.Dec.{T, eqb, eqb→eq, lit<}
use lib.ListN.{length, get_or}
use lib.Seq.{ext_get_or}
use Rattle.std.specs.Int.{w32, rotate_right}
use Rattle.refusals.proofs.Tests.{all, at_place}
use Rattle.octets.proofs.Listed.{length-listed, get_or-listed}
use Rattle.aes.specs.Field.{◌•◌}
use Rattle.aes.specs.SBox.{sbox}
use Rattle.aes.specs.Aes.{word, octet_of, coefficient, mix, mix_columns}
use Rattle.aes.specs.Table.{entry_of, table}
use Rattle.aes.specs.Columns.{column_of, gathered}
use Rattle.aes.proofs.SBox.{entries, sbox_entry, sbox_lt, once, twice_lt, thrice_lt}
use Rattle.aes.proofs.FourOctets.{turned_1, turned_2, turned_3, word_xor}

-- ---- what stands in the table

pub looked_up : (x : ℕ) → x < 256 → get_or table x 0 ≡ entry_of x
unfolding table
looked_up x below = get_or-listed entry_of 256 x 0 below

-- whether a word is the entry of x, by the S-box's entry as a number
abbrev is_entry : ℕ → ℕ → Bool
is_entry x w = let entry = get_or entries x 0 in eqb w (word (2 • entry) entry entry (3 • entry))

-- one test over 256 words, and they are the table
pub is_table : (words : List ℕ) → length words ≡ 256 → T (all is_entry 0 words) → words ≡ table
unfolding table entry_of
is_table words long held =
    ext_get_or 0 words table (long ∙ sym (length-listed entry_of 256))
    (λ x below.
    let within : x < 256 = rw long at below in
    eqb→eq (get_or words x 0) (word (2 • get_or entries x 0) (get_or entries x 0) (get_or entries x 0) (3 • get_or entries x 0)) (at_place is_entry words 0 held x below)
    ∙ ap (λ (entry : ℕ). word (2 • entry) entry entry (3 • entry)) (sym (sbox_entry x within))
    ∙ sym (get_or-listed entry_of 256 x 0 within))

-- the third octet of an entry is the S-box's
pub entry_sbox : (x : ℕ) → x < 256 → entry_of x / 0x100 % 0x100 ≡ sbox x
unfolding entry_of
entry_sbox x below = omega (arith, twice_lt x below, sbox_lt x below, thrice_lt x below)

-- ---- four look-ups

module _ (w0 w1 w2 w3 : ℕ) where
  abbrev a : ℕ
  a = sbox (octet_of w0 0)

  abbrev b : ℕ
  b = sbox (octet_of w1 1)

  abbrev c : ℕ
  c = sbox (octet_of w2 2)

  abbrev d : ℕ
  d = sbox (octet_of w3 3)

  octet : (w r : ℕ) → octet_of w r < 256
  octet w r = mod-lt _ (lit< tt)

  -- the entries of the four rows, the last three turned to their rows
  row_0 : entry_of (octet_of w0 0) ≡ word (2 • a) a a (3 • a)
  unfolding entry_of
  row_0 = refl

  row_1 : rotate_right w32 (entry_of (octet_of w1 1)) 8 ≡ word (3 • b) (2 • b) b b
  unfolding entry_of
  row_1 = turned_1 (2 • b) b b (3 • b) (twice_lt _ (octet w1 1)) (sbox_lt _ (octet w1 1)) (sbox_lt _ (octet w1 1)) (thrice_lt _ (octet w1 1))

  row_2 : rotate_right w32 (entry_of (octet_of w2 2)) 16 ≡ word c (3 • c) (2 • c) c
  unfolding entry_of
  row_2 = turned_2 (2 • c) c c (3 • c) (twice_lt _ (octet w2 2)) (sbox_lt _ (octet w2 2)) (sbox_lt _ (octet w2 2)) (thrice_lt _ (octet w2 2))

  row_3 : rotate_right w32 (entry_of (octet_of w3 3)) 24 ≡ word d d (3 • d) (2 • d)
  unfolding entry_of
  row_3 = turned_3 (2 • d) d d (3 • d) (twice_lt _ (octet w3 3)) (sbox_lt _ (octet w3 3)) (sbox_lt _ (octet w3 3)) (thrice_lt _ (octet w3 3))

  -- their xor, octet by octet
  gathered_words : bit_xor (bit_xor (bit_xor (word (2 • a) a a (3 • a)) (word (3 • b) (2 • b) b b)) (word c (3 • c) (2 • c) c)) (word d d (3 • d) (2 • d))
      ≡ word (bit_xor (bit_xor (bit_xor (2 • a) (3 • b)) c) d) (bit_xor (bit_xor (bit_xor a (2 • b)) (3 • c)) d)
      (bit_xor (bit_xor (bit_xor a b) (2 • c)) (3 • d)) (bit_xor (bit_xor (bit_xor (3 • a) b) c) (2 • d))
  gathered_words =
      let a1 : a < 256 = sbox_lt _ (octet w0 0) in
      let a2 : (2 • a) < 256 = twice_lt _ (octet w0 0) in
      let a3 : (3 • a) < 256 = thrice_lt _ (octet w0 0) in
      let b1 : b < 256 = sbox_lt _ (octet w1 1) in
      let b2 : (2 • b) < 256 = twice_lt _ (octet w1 1) in
      let b3 : (3 • b) < 256 = thrice_lt _ (octet w1 1) in
      let c1 : c < 256 = sbox_lt _ (octet w2 2) in
      let c2 : (2 • c) < 256 = twice_lt _ (octet w2 2) in
      let c3 : (3 • c) < 256 = thrice_lt _ (octet w2 2) in
      let d1 : d < 256 = sbox_lt _ (octet w3 3) in
      let d2 : (2 • d) < 256 = twice_lt _ (octet w3 3) in
      let d3 : (3 • d) < 256 = thrice_lt _ (octet w3 3) in
      let e0 : bit_xor (2 • a) (3 • b) < 256 = xor_lt 8 (2 • a) (3 • b) a2 b3 in
      let e1 : bit_xor a (2 • b) < 256 = xor_lt 8 a (2 • b) a1 b2 in
      let e2 : bit_xor a b < 256 = xor_lt 8 a b a1 b1 in
      let e3 : bit_xor (3 • a) b < 256 = xor_lt 8 (3 • a) b a3 b1 in
      ap (λ (w : ℕ). bit_xor (bit_xor w (word c (3 • c) (2 • c) c)) (word d d (3 • d) (2 • d)))
      (word_xor (2 • a) a a (3 • a) a2 a1 a1 a3 (3 • b) (2 • b) b b b2 b1 b1)
      ∙ ap (λ (w : ℕ). bit_xor w (word d d (3 • d) (2 • d)))
      (word_xor (bit_xor (2 • a) (3 • b)) (bit_xor a (2 • b)) (bit_xor a b) (bit_xor (3 • a) b) e0 e1 e2 e3 c (3 • c) (2 • c) c c3 c2 c1)
      ∙ word_xor (bit_xor (bit_xor (2 • a) (3 • b)) c) (bit_xor (bit_xor a (2 • b)) (3 • c)) (bit_xor (bit_xor a b) (2 • c)) (bit_xor (bit_xor (3 • a) b) c)
      (xor_lt 8 _ c e0 c1) (xor_lt 8 _ (3 • c) e1 c3) (xor_lt 8 _ (2 • c) e2 c2) (xor_lt 8 _ c e3 c1)
      d d (3 • d) (2 • d) d1 d3 d2

  -- which is the product with the fixed polynomial
  pub mixed_column : bit_xor
      (bit_xor
      (bit_xor (entry_of (octet_of w0 0)) (rotate_right w32 (entry_of (octet_of w1 1)) 8))
      (rotate_right w32 (entry_of (octet_of w2 2)) 16))
      (rotate_right w32 (entry_of (octet_of w3 3)) 24)
      ≡ column_of (mix_columns (gathered w0 w1 w2 w3)) 0
  unfolding column_of mix_columns coefficient mix gathered
  mixed_column =
      let a-once : a ≡ (1 • a) = sym (once _ (octet w0 0)) in
      let b-once : b ≡ (1 • b) = sym (once _ (octet w1 1)) in
      let c-once : c ≡ (1 • c) = sym (once _ (octet w2 2)) in
      let d-once : d ≡ (1 • d) = sym (once _ (octet w3 3)) in
      ap₂ bit_xor (ap₂ bit_xor (ap₂ bit_xor row_0 row_1) row_2) row_3
      ∙ gathered_words
      ∙ λ i.
      word (bit_xor (bit_xor (bit_xor (2 • a) (3 • b)) (c-once i)) (d-once i)) (bit_xor (bit_xor (bit_xor (a-once i) (2 • b)) (3 • c)) (d-once i))
      (bit_xor (bit_xor (bit_xor (a-once i) (b-once i)) (2 • c)) (3 • d)) (bit_xor (bit_xor (bit_xor (3 • a) (b-once i)) (c-once i)) (2 • d))
