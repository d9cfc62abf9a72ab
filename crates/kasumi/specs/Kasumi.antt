-- The block cipher KASUMI of 3GPP TS 35.202, as document 01 has it: a block is one number of 64 bits, a key 16 octets.
-- Most significant bit and octet first, everywhere. Assumes nothing.
use Rattle.std.specs.Prelude.{ℕ, zero, suc, ◌+◌, ◌-◌, ◌*◌, ◌/◌, ◌%◌, ◌^◌, cond, not, List, [], ◌∷◌, eqb, get_or}
use Rattle.std.specs.Int.Bits.{bit_xor, bit_and, bit_or}
use Rattle.refusals.specs.Refusal.{Row}
use Rattle.refusals.specs.Call.{Call, tells}
use Rattle.octets.specs.Bits.{join}
use Rattle.octets.specs.Octets.{is_whole_key}
use Rattle.sboxes.specs.Tables.{s7, s9}
use Rattle.kasumi.specs.declared.schedule.Keys.{Keys}

-- a number but for its lowest w bits, and those w bits
abbrev pub left : ℕ → ℕ → ℕ
left w x = x / 2 ^ w

abbrev pub right : ℕ → ℕ → ℕ
right w x = x % 2 ^ w

-- a word of 16 bits, rotated to the left by k
unfoldable pub rot : ℕ → ℕ → ℕ
rot k x = x * 2 ^ k % 2 ^ 16 + x / 2 ^ (16 - k)

-- the key word Kj, j from 1; indices go round after 8
unfoldable pub key_word : List ℕ → ℕ → ℕ
key_word key j = get_or key ((j - 1) % 8 * 2) 0 * 256 + get_or key ((j - 1) % 8 * 2 + 1) 0

-- the constants C1 to C8
unfoldable pub constant : ℕ → ℕ
constant j = get_or (0x0123 ∷ 0x4567 ∷ 0x89AB ∷ 0xCDEF ∷ 0xFEDC ∷ 0xBA98 ∷ 0x7654 ∷ 0x3210 ∷ []) ((j - 1) % 8) 0

-- the key word K'j
unfoldable pub key_word' : List ℕ → ℕ → ℕ
key_word' key j = bit_xor (key_word key j) (constant j)

-- the keys of round i, i from 1 to 8
unfoldable pub round_keys : List ℕ → ℕ → Keys
round_keys key i = record {
  kl1 = rot 1 (key_word key i);
  kl2 = key_word' key (i + 2);
  ko1 = rot 5 (key_word key (i + 1));
  ko2 = rot 8 (key_word key (i + 5));
  ko3 = rot 13 (key_word key (i + 6));
  ki1 = key_word' key (i + 4);
  ki2 = key_word' key (i + 3);
  ki3 = key_word' key (i + 7);
}

-- FL on the halves L, R of 16 bits: R' = R xor rot1(L and KL1); L' = L xor rot1(R' or KL2)
unfoldable pub fl : ℕ → ℕ → ℕ → ℕ
fl kl1 kl2 x =
    let l = left 16 x in
    let r = right 16 x in
    let r' = bit_xor r (rot 1 (bit_and l kl1)) in
    let l' = bit_xor l (rot 1 (bit_or r' kl2)) in
    join 16 l' r'

-- FI on 16 bits, which it splits into nine and seven; its key into seven and nine
unfoldable pub fi : ℕ → ℕ → ℕ
fi ki x =
    let a = left 7 x in
    let b = right 7 x in
    let k = left 9 ki in
    let m = right 9 ki in
    let c = bit_xor (s9 a) b in
    let d = bit_xor (bit_xor (s7 b) (c % 128)) k in
    let e = bit_xor c m in
    let g = bit_xor (s9 e) d in
    let h = bit_xor (s7 d) (g % 128) in
    join 9 h g

-- FO and the rounds are of a function FI and of the keys of each round. For KASUMI these are the two above; Lent.antt has FI from a table and
-- keys from a list

-- one of the three steps of FO on 32 bits: new R = FI(L xor KOj, KIj) xor R; new L = old R
unfoldable pub fo_step : (ℕ → ℕ → ℕ) → ℕ → ℕ → ℕ → ℕ
fo_step FI ko ki x =
    let l = left 16 x in
    let r = right 16 x in
    join 16 r (bit_xor (FI ki (bit_xor l ko)) r)

-- FO: three of these
unfoldable pub fo : (ℕ → ℕ → ℕ) → Keys → ℕ → ℕ
fo FI keys x = fo_step FI keys.ko3 keys.ki3 (fo_step FI keys.ko2 keys.ki2 (fo_step FI keys.ko1 keys.ki1 x))

-- the function f of round i on 32 bits: FL, then FO in odd rounds; FO, then FL in even ones
unfoldable pub f : (ℕ → ℕ → ℕ) → (ℕ → Keys) → ℕ → ℕ → ℕ
f FI keys_of i x =
    let keys = keys_of i in
    cond (eqb (i % 2) 1) (fo FI keys (fl keys.kl1 keys.kl2 x)) (fl keys.kl1 keys.kl2 (fo FI keys x))

-- round i over the halves of 64 bits: the new right is the old left; the new left is the old right xor f of the old left
unfoldable pub round : (ℕ → ℕ → ℕ) → (ℕ → Keys) → ℕ → ℕ → ℕ
round FI keys_of i x =
    let l = left 32 x in
    let r = right 32 x in
    join 32 (bit_xor r (f FI keys_of i l)) l

-- the first n rounds
unfoldable pub rounds : (ℕ → ℕ → ℕ) → (ℕ → Keys) → ℕ → ℕ → ℕ
rounds FI keys_of zero x = x
rounds FI keys_of (suc n) x = round FI keys_of (suc n) (rounds FI keys_of n x)

-- KASUMI of a block under a key: eight rounds, L8 then R8
unfoldable pub kasumi : List ℕ → ℕ → ℕ
kasumi key block = rounds fi (round_keys key) 8 block

-- the refusals of a call: 1 where the key is not 16 octets
unfoldable pub kasumi_order : List ℕ → List Row
kasumi_order key = record { number = 1; holds = not (is_whole_key key) } ∷ []

-- kasumi::kasumi hands out the ciphered block
abbrev pub kasumi_call : List ℕ → ℕ → Call (Unit {0})
kasumi_call key block = tells (kasumi_order key) (kasumi key block ∷ [])
