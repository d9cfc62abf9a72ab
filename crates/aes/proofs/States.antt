-- States whose sixteen octets agree give the same columns, and the rounds keep every octet of a state an octet.
-- Assumes nothing.
use Prim.Native.Nat.{ℕ, zero, suc, ◌+◌, ◌-◌, ◌*◌, ◌/◌, ◌%◌, ◌^◌, ◌<◌}
use native.Mathlib.Nat.{mod-lt, not-suc-le-zero}
use native.Mathlib.Omega.{arith}
use mathlib.Core.Path.{◌≡◌, refl, sym, ap, ap₂, subst, ◌∙◌}
use mathlib.Core.List.{List}
use lib.Bits.{bit_xor, xor_lt}
use lib.Dec.{lit<}
use lib.ListN.{get_or}
use Rattle.octets.specs.Octets.{AreOctets}
use Rattle.octets.proofs.Listed.{listed_ext, get_or-listed}
use Rattle.aes.specs.Field.{◌•◌}
use Rattle.aes.specs.SBox.{sbox}
use Rattle.aes.specs.Aes.{State, state_of, word, octet_of, sub_bytes, shift_rows, coefficient, mix, mix_columns, add_round_key, round, last_round, rounds, block_of, cipher, key_word}
use Rattle.aes.specs.Columns.{column_of, columns_of, held, gathered}
use Rattle.aes.proofs.SBox.{sbox_lt, once, twice_lt, thrice_lt}
use Rattle.aes.proofs.FourOctets.{each_of_4, octet_word, xor_with}

-- ---- states that agree

-- in the four rows and four columns
abbrev pub Alike : State → State → Type 0
Alike s t = (r c : ℕ) → r < 4 → c < 4 → s r c ≡ t r c

pub columns_alike : (s t : State) → Alike s t → columns_of s ≡ columns_of t
unfolding columns_of column_of
columns_alike s t same =
    listed_ext (column_of s) (column_of t) 4
    (λ c below i. word (same 0 c (lit< tt) below i) (same 1 c (lit< tt) below i) (same 2 c (lit< tt) below i) (same 3 c (lit< tt) below i))

add_alike : (words : List ℕ) (n : ℕ) (s t : State) → Alike s t → Alike (add_round_key words n s) (add_round_key words n t)
unfolding add_round_key
add_alike words n s t same r c row column = ap (λ (x : ℕ). bit_xor x (octet_of (get_or words (4 * n + c) 0) r)) (same r c row column)

shifted_alike : (s t : State) → Alike s t → Alike (shift_rows (sub_bytes s)) (shift_rows (sub_bytes t))
unfolding shift_rows sub_bytes
shifted_alike s t same r c row column = ap sbox (same r ((c + r) % 4) row (mod-lt (c + r) (lit< tt)))

mixed_alike : (s t : State) → Alike s t → Alike (mix_columns s) (mix_columns t)
unfolding mix_columns coefficient
mixed_alike s t same r c row column =
    let meets : (k j : ℕ) → k < 4 → (mix j • s k c) ≡ (mix j • t k c) = λ k j below. ap (λ (x : ℕ). mix j • x) (same k c below column) in
    ap₂ bit_xor
    (ap₂ bit_xor (ap₂ bit_xor (meets 0 r (lit< tt)) (meets 1 ((r + 3) % 4) (lit< tt))) (meets 2 ((r + 2) % 4) (lit< tt)))
    (meets 3 ((r + 1) % 4) (lit< tt))

pub round_alike : (words : List ℕ) (n : ℕ) (s t : State) → Alike s t → Alike (round words n s) (round words n t)
unfolding round
round_alike words n s t same =
    add_alike words n (mix_columns (shift_rows (sub_bytes s))) (mix_columns (shift_rows (sub_bytes t)))
    (mixed_alike (shift_rows (sub_bytes s)) (shift_rows (sub_bytes t)) (shifted_alike s t same))

pub last_round_alike : (words : List ℕ) (n : ℕ) (s t : State) → Alike s t → Alike (last_round words n s) (last_round words n t)
unfolding last_round
last_round_alike words n s t same = add_alike words n (shift_rows (sub_bytes s)) (shift_rows (sub_bytes t)) (shifted_alike s t same)

-- ---- states of octets

abbrev pub Octets : State → Type 0
Octets s = (r c : ℕ) → r < 4 → c < 4 → s r c < 256

-- the columns of such a state hold it
pub held_columns : (s : State) → Octets s → Alike (held (columns_of s)) s
unfolding held columns_of column_of
held_columns s octets r c row column =
    ap (λ (w : ℕ). octet_of w r) (get_or-listed (column_of s) 4 c 0 column)
    ∙ octet_word (λ (k : ℕ). s k c) (λ k below. octets k c below column) r row

-- whatever columns hold is octets
pub held_octets : (x : List ℕ) → Octets (held x)
unfolding held
held_octets x r c row column = mod-lt _ (lit< tt)

-- a block of octets is a state of octets
pub state_octets : (block : List ℕ) → AreOctets block → Octets (state_of block)
unfolding state_of
state_octets block octets r c row column = octets (r + 4 * c)

add_octets : (words : List ℕ) (n : ℕ) (s : State) → Octets s → Octets (add_round_key words n s)
unfolding add_round_key
add_octets words n s octets r c row column = xor_lt 8 (s r c) (octet_of (get_or words (4 * n + c) 0) r) (octets r c row column) (mod-lt _ (lit< tt))

pub shifted_octets : (s : State) → Octets s → Octets (shift_rows (sub_bytes s))
unfolding shift_rows sub_bytes
shifted_octets s octets r c row column = sbox_lt (s r ((c + r) % 4)) (octets r ((c + r) % 4) row (mod-lt (c + r) (lit< tt)))

-- the products of an S-box entry with the fixed polynomial
times_mix : (x : ℕ) → x < 256 → (k : ℕ) → k < 4 → (mix k • sbox x) < 256
unfolding mix
times_mix x below = each_of_4 (λ (k : ℕ). (mix k • sbox x) < 256) (twice_lt x below) (single x below) (single x below) (thrice_lt x below)
  where
    single : (x : ℕ) → x < 256 → (1 • sbox x) < 256
    single x below = subst (λ (y : ℕ). y < 256) (sym (once x below)) (sbox_lt x below)

pub mixed_octets : (s : State) → Octets s → Octets (mix_columns (shift_rows (sub_bytes s)))
unfolding mix_columns coefficient shift_rows sub_bytes
mixed_octets s octets r c row column =
    let from : (k : ℕ) → k < 4 → (j : ℕ) → j < 4 → (mix j • sbox (s k ((c + k) % 4))) < 256 =
    λ k below j place. times_mix (s k ((c + k) % 4)) (octets k ((c + k) % 4) below (mod-lt (c + k) (lit< tt))) j place in
    xor_lt 8 _ _
    (xor_lt 8 _ _ (xor_lt 8 _ _ (from 0 (lit< tt) r row) (from 1 (lit< tt) ((r + 3) % 4) (mod-lt (r + 3) (lit< tt)))) (from 2 (lit< tt) ((r + 2) % 4) (mod-lt (r + 2) (lit< tt))))
    (from 3 (lit< tt) ((r + 1) % 4) (mod-lt (r + 1) (lit< tt)))

pub round_octets : (words : List ℕ) (n : ℕ) (s : State) → Octets s → Octets (round words n s)
unfolding round
round_octets words n s octets = add_octets words n (mix_columns (shift_rows (sub_bytes s))) (mixed_octets s octets)

-- a column xor its word of the round key
pub add_column : (words : List ℕ) (n : ℕ) (s : State) (c : ℕ) → ((r : ℕ) → r < 4 → s r c < 256) → get_or words (4 * n + c) 0 < 2 ^ 32
    → bit_xor (column_of s c) (get_or words (4 * n + c) 0) ≡ column_of (add_round_key words n s) c
unfolding column_of add_round_key
add_column words n s c octets fits =
    xor_with (s 0 c) (s 1 c) (s 2 c) (s 3 c) (get_or words (4 * n + c) 0) (octets 0 (lit< tt)) (octets 1 (lit< tt)) (octets 2 (lit< tt)) (octets 3 (lit< tt)) fits

-- ---- what the code reads for column c

pub block_column : (block : List ℕ) (c : ℕ) → c < 4 → key_word block c ≡ column_of (state_of block) c
unfolding key_word column_of state_of
block_column block c below = each_of_4 (λ (k : ℕ). key_word block k ≡ column_of (state_of block) k) refl refl refl refl c below

-- row k of column c comes from the column k places to the right
module _ (x : List ℕ) where
  abbrev shifted : ℕ → State
  shifted c = gathered (get_or x c 0) (get_or x ((c + 1) % 4) 0) (get_or x ((c + 2) % 4) 0) (get_or x ((c + 3) % 4) 0)

  pub shifted_column : (c : ℕ) → c < 4 → column_of (shifted c) 0 ≡ column_of (shift_rows (sub_bytes (held x))) c
  unfolding column_of shift_rows sub_bytes held gathered
  shifted_column c below = each_of_4 (λ (k : ℕ). column_of (shifted k) 0 ≡ column_of (shift_rows (sub_bytes (held x))) k) refl refl refl refl c below

  pub shifted_mixed_column : (c : ℕ) → c < 4 → column_of (mix_columns (shifted c)) 0 ≡ column_of (mix_columns (shift_rows (sub_bytes (held x)))) c
  unfolding column_of mix_columns coefficient shift_rows sub_bytes held gathered
  shifted_mixed_column c below =
      each_of_4 (λ (k : ℕ). column_of (mix_columns (shifted k)) 0 ≡ column_of (mix_columns (shift_rows (sub_bytes (held x)))) k) refl refl refl refl c below

-- ---- all rounds over a block of octets

module _ (words block : List ℕ) (octets : AreOctets block) where
  pub rounds_octets : (n : ℕ) → Octets (rounds words n (state_of block))
  unfolding rounds
  rounds_octets zero = add_octets words 0 (state_of block) (state_octets block octets)
  rounds_octets (suc n) = round_octets words (suc n) (rounds words n (state_of block)) (rounds_octets n)

  -- one round more, over the columns that hold the rounds before it
  pub one_round_more : (n : ℕ) (x : List ℕ) → 0 < n → x ≡ columns_of (rounds words (n - 1) (state_of block))
      → columns_of (round words n (held x)) ≡ columns_of (rounds words n (state_of block))
  unfolding rounds
  one_round_more zero x some is = absurd (not-suc-le-zero some)
  one_round_more (suc m) x some is =
      let before : State = rounds words m (state_of block) in
      let one_less : suc m - 1 ≡ m = omega arith in
      ap (λ (y : List ℕ). columns_of (round words (suc m) (held y))) (is ∙ ap (λ (k : ℕ). columns_of (rounds words k (state_of block))) one_less)
      ∙ columns_alike (round words (suc m) (held (columns_of before))) (round words (suc m) before)
      (round_alike words (suc m) (held (columns_of before)) before (held_columns before (rounds_octets m)))

  -- and the block that the columns of the last round hold
  pub block_encrypted : (x : List ℕ) → x ≡ columns_of (rounds words 9 (state_of block)) → block_of (held (columns_of (last_round words 10 (held x)))) ≡ cipher words block
  unfolding block_of cipher last_round
  block_encrypted x is =
      let before : State = rounds words 9 (state_of block) in
      let last : State = last_round words 10 before in
      let same : Alike (held (columns_of (last_round words 10 (held x)))) last =
      λ r c row column.
      held_columns (last_round words 10 (held x)) (add_octets words 10 (shift_rows (sub_bytes (held x))) (shifted_octets (held x) (held_octets x))) r c row column
      ∙ last_round_alike words 10 (held x) before
      (λ r c row column. ap (λ (y : List ℕ). held y r c) is ∙ held_columns before (rounds_octets 9) r c row column)
      r
      c
      row
      column in
      listed_ext _ _ 16 (λ i below. same (i % 4) (i / 4) (mod-lt i (lit< tt)) (omega arith))
