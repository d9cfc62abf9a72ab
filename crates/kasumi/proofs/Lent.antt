-- With the table and the round keys that are handed out for it, `cipher_block` is KASUMI. Assumes nothing.
use Prim.Native.Nat.{ℕ, zero, suc, ◌+◌, ◌-◌, ◌*◌, ◌%◌, ◌^◌, ◌<◌, ◌≤◌}
use native.Mathlib.Nat.{add-mul-mod_self_left, eq-or-lt_of_le, le_of_suc-le-suc, not-suc-le-zero}
use native.Mathlib.Omega.{arith}
use mathlib.Core.Path.{◌≡◌, refl, sym, ap, ap₂, ◌∙◌}
use mathlib.Core.Bool.{Bool, true, false, cond}
use mathlib.Core.List.{List, [], ◌∷◌, ◌++◌}
use mathlib.Core.Logic.{⊎_elim}
use lib.Bits.{bit_xor, bit_and, bit_or, xor_lt, or_lt, and_le_l, xor_block, xor_mod, xor_comm}
use lib.Dec.{ltb, ltb→lt, eqb, lit<, lit≤}
use lib.ListN.{length, get_or, length-append, get_or-append}
use lib.Seq.{get_or-append-add}
use Rattle.refusals.proofs.Tests.{at_place}
use Rattle.octets.specs.Bits.{join}
use Rattle.octets.specs.Octets.{AreOctets}
use Rattle.octets.proofs.Xored.{xor_assoc}
use Rattle.sboxes.specs.Tables.{s7, s9}
use Rattle.sboxes.specs.FiTable.{entry_of_nine, entry_of_seven, fi_table}
use Rattle.sboxes.proofs.Looked.{entry_of_nine_lem, entry_of_seven_lem}
use Rattle.sboxes.proofs.SBoxes.{s7_lt, s9_lt}
use Rattle.kasumi.specs.Kasumi.{left, right, rot, fl, fi, fo_step, fo, f, round, rounds, kasumi, key_word, key_word', constant, round_keys}
use Rattle.kasumi.specs.Lent.{half, fi_by, words_of, round_words, keys_at, ciphered_by}
use Rattle.kasumi.specs.declared.schedule.Keys.{Keys}

-- ---- FI

-- the paper's line of the nine bits, c and g; and that of the seven, d before it is xored with the key, and h
abbrev nine_line : ℕ → ℕ → ℕ
nine_line a b = bit_xor (s9 a) b

abbrev seven_line : ℕ → ℕ → ℕ
seven_line a b = bit_xor (s7 b) (nine_line a b % 128)

nine_lt : (a b : ℕ) → b < 2 ^ 7 → nine_line a b < 2 ^ 9
nine_lt a b below = xor_lt 9 (s9 a) b (s9_lt a) (omega arith)

seven_lt : (a b : ℕ) → seven_line a b < 2 ^ 7
seven_lt a b = xor_lt 7 (s7 b) (nine_line a b % 128) (s7_lt b) (omega arith)

-- half of FI by the table is these two lines
half_lines : (a b : ℕ) → a < 2 ^ 9 → b < 2 ^ 7 → half fi_table (join 7 a b) ≡ join 7 (nine_line a b) (seven_line a b)
unfolding entry_of_nine entry_of_seven
half_lines a b below-a below-b =
    let low : ℕ = s9 a % 128 in
    ap₂ (λ (x y : ℕ). bit_xor (get_or fi_table x 0) (get_or fi_table (512 + y) 0)) {y = a} {v = b} (omega arith) (omega arith)
    ∙ ap₂ bit_xor (entry_of_nine_lem a below-a) (entry_of_seven_lem b below-b)
    ∙ xor_block 7 (s9 a) b low (bit_xor (s7 b) b) (omega arith) (xor_lt 7 (s7 b) b (s7_lt b) below-b)
    ∙ ap (join 7 (nine_line a b))
    (xor_comm low (bit_xor (s7 b) b)
    ∙ xor_assoc (s7 b) b low
    ∙ ap (bit_xor (s7 b)) (xor_comm b low ∙ sym (xor_mod (s9 a) b 7 ∙ ap (bit_xor low) {y = b} (omega arith))))

-- the key of FI with its nine bits on the left, and a result with its seven bits there
turned : (ki : ℕ) → ki < 2 ^ 16 → rot 7 ki ≡ join 7 (right 9 ki) (left 9 ki)
unfolding rot
turned ki below = omega arith

exchanged : (g h : ℕ) → g < 2 ^ 9 → h < 2 ^ 7 → rot 9 (join 7 g h) ≡ join 9 h g
unfolding rot
exchanged g h below-g below-h =
    let sum : join 7 g h * 512 ≡ h * 512 + 65536 * g = omega arith in
    let top : join 7 g h * 512 % 65536 ≡ h * 512 = ap (λ (n : ℕ). n % 65536) sum ∙ add-mul-mod_self_left (h * 512) 65536 g ∙ omega arith in
    ap₂ ◌+◌ {v = g} top (omega arith)

-- FI by the table is FI
pub fi_by_table : (ki x : ℕ) → ki < 2 ^ 16 → x < 2 ^ 16 → fi_by fi_table ki x ≡ fi ki x
unfolding fi_by fi
fi_by_table ki x below-ki below-x =
    let a : ℕ = left 7 x in
    let b : ℕ = right 7 x in
    let k : ℕ = left 9 ki in
    let m : ℕ = right 9 ki in
    let c : ℕ = nine_line a b in
    let e : ℕ = bit_xor c m in
    let d : ℕ = bit_xor (seven_line a b) k in
    let below-e : e < 2 ^ 9 = xor_lt 9 c m (nine_lt a b (omega arith)) (omega arith) in
    let below-d : d < 2 ^ 7 = xor_lt 7 (seven_line a b) k (seven_lt a b) (omega arith) in
    let g : ℕ = nine_line e d in
    let h : ℕ = seven_line e d in
    let below-g : g < 2 ^ 9 = nine_lt e d below-d in
    let below-h : h < 2 ^ 7 = seven_lt e d in
    let met : bit_xor (half fi_table x) (rot 7 ki) ≡ join 7 e d
    = ap₂ bit_xor
    {v = join 7 m k}
    (ap (half fi_table) {y = join 7 a b} (omega arith) ∙ half_lines a b (omega arith) (omega arith))
    (turned ki below-ki)
    ∙ xor_block 7 c m (seven_line a b) k (seven_lt a b) (omega arith) in
    ap (rot 9) (ap (half fi_table) met ∙ half_lines e d below-e below-d) ∙ exchanged g h below-g below-h

-- ---- the keys

pub length-round_words : (key : List ℕ) (n : ℕ) → length (round_words key n) ≡ 8 * n
unfolding round_words
length-round_words key zero = refl
length-round_words key (suc n) =
    length-append (round_words key n) (words_of (round_keys key (suc n))) ∙ ap (λ (k : ℕ). k + 8) (length-round_words key n) ∙ omega arith

-- word j of the keys of round m + 1, among those of n rounds
word_at : (key : List ℕ) (n m j : ℕ) → m < n → j < 8 → get_or (round_words key n) (8 * m + j) 0 ≡ get_or (words_of (round_keys key (suc m))) j 0
unfolding round_words
word_at key zero m j below within = absurd (not-suc-le-zero below)
word_at key (suc n) m j below within =
    let some : List ℕ = round_words key n in
    let last : List ℕ = words_of (round_keys key (suc n)) in
    let room : m < n → 8 * m + j < 8 * n = λ before. omega arith in
    ⊎_elim
    (λ same.
    ap (λ (k : ℕ). get_or (some ++ last) (k + j) 0) (ap (λ (k : ℕ). 8 * k) same ∙ sym (length-round_words key n))
    ∙ get_or-append-add some last j 0
    ∙ ap (λ (k : ℕ). get_or (words_of (round_keys key (suc k))) j 0) (sym same))
    (λ before.
    get_or-append some last 0 (8 * m + j) (rw length-round_words (room before)) ∙ word_at key n m j before within)
    (eq-or-lt_of_le (le_of_suc-le-suc below))

-- the keys of a round, read from the words of all rounds
pub keys_at_round : (key : List ℕ) (m : ℕ) → m < 8 → keys_at (round_words key 8) (suc m) ≡ round_keys key (suc m)
keys_at_round key m below =
    let words : List ℕ = round_words key 8 in
    let at : (j k : ℕ) → k ≡ 8 * m + j → j < 8 → get_or words k 0 ≡ get_or (words_of (round_keys key (suc m))) j 0
    = λ j k is within. ap (λ (n : ℕ). get_or words n 0) is ∙ word_at key 8 m j below within in
    λ i. record {
      kl1 = at 0 (8 * (suc m - 1)) (omega arith) (lit< tt) i;
      kl2 = at 1 (8 * (suc m - 1) + 1) (omega arith) (lit< tt) i;
      ko1 = at 2 (8 * (suc m - 1) + 2) (omega arith) (lit< tt) i;
      ko2 = at 3 (8 * (suc m - 1) + 3) (omega arith) (lit< tt) i;
      ko3 = at 4 (8 * (suc m - 1) + 4) (omega arith) (lit< tt) i;
      ki1 = at 5 (8 * (suc m - 1) + 5) (omega arith) (lit< tt) i;
      ki2 = at 6 (8 * (suc m - 1) + 6) (omega arith) (lit< tt) i;
      ki3 = at 7 (8 * (suc m - 1) + 7) (omega arith) (lit< tt) i;
    }

-- ---- every word has 16 bits

-- the keys of a round are words
record AreWords (keys : Keys) : Type 0 where
  kl1 : keys.kl1 < 2 ^ 16
  kl2 : keys.kl2 < 2 ^ 16
  ko1 : keys.ko1 < 2 ^ 16
  ko2 : keys.ko2 < 2 ^ 16
  ko3 : keys.ko3 < 2 ^ 16
  ki1 : keys.ki1 < 2 ^ 16
  ki2 : keys.ki2 < 2 ^ 16
  ki3 : keys.ki3 < 2 ^ 16

module _ (key : List ℕ) (octets : AreOctets key) where
  key_word_lt : (j : ℕ) → key_word key j < 2 ^ 16
  unfolding key_word
  key_word_lt j = omega (arith, octets ((j - 1) % 8 * 2), octets ((j - 1) % 8 * 2 + 1))

  changed_word_lt : (j : ℕ) → key_word' key j < 2 ^ 16
  unfolding key_word' constant
  changed_word_lt j =
      let constants : List ℕ = 0x0123 ∷ 0x4567 ∷ 0x89AB ∷ 0xCDEF ∷ 0xFEDC ∷ 0xBA98 ∷ 0x7654 ∷ 0x3210 ∷ [] in
      xor_lt 16 (key_word key j) (constant j) (key_word_lt j)
      (ltb→lt (constant j) (2 ^ 16) (at_place (λ (k y : ℕ). ltb y (2 ^ 16)) constants 0 tt ((j - 1) % 8) (omega arith)))

  round_keys_words : (i : ℕ) → AreWords (round_keys key i)
  unfolding round_keys rot
  round_keys_words i = record {
    kl1 = omega (arith, key_word_lt i);
    kl2 = changed_word_lt (i + 2);
    ko1 = omega (arith, key_word_lt (i + 1));
    ko2 = omega (arith, key_word_lt (i + 5));
    ko3 = omega (arith, key_word_lt (i + 6));
    ki1 = changed_word_lt (i + 4);
    ki2 = changed_word_lt (i + 3);
    ki3 = changed_word_lt (i + 7);
  }

rot_1_lt : (x : ℕ) → x < 2 ^ 16 → rot 1 x < 2 ^ 16
unfolding rot
rot_1_lt x below = omega arith

fl_lt : (kl1 kl2 x : ℕ) → kl2 < 2 ^ 16 → x < 2 ^ 32 → fl kl1 kl2 x < 2 ^ 32
unfolding fl
fl_lt kl1 kl2 x word below =
    let l : ℕ = left 16 x in
    let r : ℕ = right 16 x in
    let r' : ℕ = bit_xor r (rot 1 (bit_and l kl1)) in
    let both : bit_and l kl1 < 2 ^ 16 = omega (arith, and_le_l l kl1) in
    let below-r : r' < 2 ^ 16 = xor_lt 16 r (rot 1 (bit_and l kl1)) (omega arith) (rot_1_lt (bit_and l kl1) both) in
    let below-l : bit_xor l (rot 1 (bit_or r' kl2)) < 2 ^ 16
    = xor_lt 16 l (rot 1 (bit_or r' kl2)) (omega arith) (rot_1_lt (bit_or r' kl2) (or_lt 16 r' kl2 below-r word)) in
    omega arith

fi_lt : (ki x : ℕ) → ki < 2 ^ 16 → fi ki x < 2 ^ 16
unfolding fi
fi_lt ki x word =
    let a : ℕ = left 7 x in
    let b : ℕ = right 7 x in
    let e : ℕ = bit_xor (nine_line a b) (right 9 ki) in
    let d : ℕ = bit_xor (seven_line a b) (left 9 ki) in
    let below-d : d < 2 ^ 7 = xor_lt 7 (seven_line a b) (left 9 ki) (seven_lt a b) (omega arith) in
    omega (arith, nine_lt e d below-d, seven_lt e d)

-- ---- the rounds

-- a step of FO stays within 32 bits, and is the same by the table
step_lt : (ko ki x : ℕ) → ki < 2 ^ 16 → fo_step fi ko ki x < 2 ^ 32
unfolding fo_step
step_lt ko ki x word =
    let l : ℕ = bit_xor (left 16 x) ko in
    omega (arith, xor_lt 16 (fi ki l) (right 16 x) (fi_lt ki l word) (omega arith))

step_by_table : (ko ki x : ℕ) → ko < 2 ^ 16 → ki < 2 ^ 16 → x < 2 ^ 32 → fo_step (fi_by fi_table) ko ki x ≡ fo_step fi ko ki x
unfolding fo_step
step_by_table ko ki x word word' below =
    ap (λ (y : ℕ). join 16 (right 16 x) (bit_xor y (right 16 x)))
    (fi_by_table ki (bit_xor (left 16 x) ko) word' (xor_lt 16 (left 16 x) ko (omega arith) word))

module _ (keys : Keys) (words : AreWords keys) where
  fo_lt : (x : ℕ) → fo fi keys x < 2 ^ 32
  unfolding fo
  fo_lt x = step_lt keys.ko3 keys.ki3 (fo_step fi keys.ko2 keys.ki2 (fo_step fi keys.ko1 keys.ki1 x)) words.ki3

  fo_by_table : (x : ℕ) → x < 2 ^ 32 → fo (fi_by fi_table) keys x ≡ fo fi keys x
  unfolding fo
  fo_by_table x below =
      let one : ℕ = fo_step fi keys.ko1 keys.ki1 x in
      let two : ℕ = fo_step fi keys.ko2 keys.ki2 one in
      let step : ℕ → ℕ → ℕ → ℕ = fo_step (fi_by fi_table) in
      ap (λ (y : ℕ). step keys.ko3 keys.ki3 (step keys.ko2 keys.ki2 y))
      (step_by_table keys.ko1 keys.ki1 x words.ko1 words.ki1 below)
      ∙ ap (step keys.ko3 keys.ki3)
      (step_by_table keys.ko2 keys.ki2 one words.ko2 words.ki2 (step_lt keys.ko1 keys.ki1 x words.ki1))
      ∙ step_by_table keys.ko3 keys.ki3 two words.ko3 words.ki3 (step_lt keys.ko2 keys.ki2 one words.ki2)

cond_lt : (test : Bool) (x y n : ℕ) → x < n → y < n → cond test x y < n
cond_lt true x y n below-x below-y = below-x
cond_lt false x y n below-x below-y = below-y

-- so is a round
module _ (keys_of keysOf' : ℕ → Keys) (i : ℕ) (same : keys_of i ≡ keysOf' i) (words : AreWords (keysOf' i)) where
  f_lt : (x : ℕ) → x < 2 ^ 32 → f fi keysOf' i x < 2 ^ 32
  unfolding f
  f_lt x below =
      let keys : Keys = keysOf' i in
      cond_lt (eqb (i % 2) 1) (fo fi keys (fl keys.kl1 keys.kl2 x)) (fl keys.kl1 keys.kl2 (fo fi keys x)) (2 ^ 32)
      (fo_lt keys words (fl keys.kl1 keys.kl2 x))
      (fl_lt keys.kl1 keys.kl2 (fo fi keys x) words.kl2 (fo_lt keys words x))

  f_by_table : (x : ℕ) → x < 2 ^ 32 → f (fi_by fi_table) keys_of i x ≡ f fi keysOf' i x
  unfolding f
  f_by_table x below =
      let keys : Keys = keysOf' i in
      let FO : Keys → ℕ → ℕ = fo (fi_by fi_table) in
      ap₂ (cond (eqb (i % 2) 1))
      (ap (λ (k : Keys). FO k (fl k.kl1 k.kl2 x)) same
      ∙ fo_by_table keys words (fl keys.kl1 keys.kl2 x) (fl_lt keys.kl1 keys.kl2 x words.kl2 below))
      (ap (λ (k : Keys). fl k.kl1 k.kl2 (FO k x)) same ∙ ap (fl keys.kl1 keys.kl2) (fo_by_table keys words x below))

  round_lt : (x : ℕ) → x < 2 ^ 64 → round fi keysOf' i x < 2 ^ 64
  unfolding round
  round_lt x below =
      let l : ℕ = left 32 x in
      omega (arith, xor_lt 32 (right 32 x) (f fi keysOf' i l) (omega arith) (f_lt l (omega arith)))

  round_by_table : (x : ℕ) → x < 2 ^ 64 → round (fi_by fi_table) keys_of i x ≡ round fi keysOf' i x
  unfolding round
  round_by_table x below = ap (λ (y : ℕ). join 32 (bit_xor (right 32 x) y) (left 32 x)) (f_by_table (left 32 x) (omega arith))

-- and so are all eight
module _ (key : List ℕ) (octets : AreOctets key) (block : ℕ) (below : block < 2 ^ 64) where
  rounds_lt : (n : ℕ) → rounds fi (round_keys key) n block < 2 ^ 64
  unfolding rounds
  rounds_lt zero = below
  rounds_lt (suc n) = round_lt (round_keys key) (round_keys key) (suc n) refl (round_keys_words key octets (suc n)) (rounds fi (round_keys key) n block) (rounds_lt n)

  rounds_by_table : (n : ℕ) → n ≤ 8 → rounds (fi_by fi_table) (keys_at (round_words key 8)) n block ≡ rounds fi (round_keys key) n block
  unfolding rounds
  rounds_by_table zero most = refl
  rounds_by_table (suc n) most =
      let keys_of : ℕ → Keys = keys_at (round_words key 8) in
      ap (round (fi_by fi_table) keys_of (suc n)) (rounds_by_table n (omega arith))
      ∙ round_by_table keys_of (round_keys key) (suc n) (keys_at_round key n (omega arith)) (round_keys_words key octets (suc n))
      (rounds fi (round_keys key) n block)
      (rounds_lt n)

  -- with the table and the keys that are handed out, it is KASUMI
  pub ciphered_kasumi : ciphered_by fi_table (round_words key 8) block ≡ kasumi key block
  unfolding ciphered_by kasumi
  ciphered_kasumi = rounds_by_table 8 (lit≤ tt)
