-- What is prepared once for many blocks and lent to each: a table for FI, and the keys of all rounds. `kasumi::cipher_block`
-- takes any table and any keys; with those that are handed out for it, it is KASUMI (kasumi/proofs/Lent.antt#ciphered_kasumi).
-- Assumes nothing.
use Rattle.std.specs.Prelude.{ℕ, zero, suc, ◌+◌, ◌-◌, ◌*◌, List, [], ◌∷◌, ◌++◌, get_or, replicate}
use Rattle.std.specs.Int.Bits.{bit_xor}
use Rattle.refusals.specs.Call.{Call, makes}
use Rattle.kasumi.specs.Kasumi.{left, right, rot, round_keys, rounds, kasumi_order}
use Rattle.kasumi.specs.declared.schedule.Keys.{Keys}

-- ---- FI

-- half of FI by a table: the entry of the nine bits on the left xor the entry of the seven on the right. With the table that
-- is handed out for it, a and b become c (nine bits) and S7[b] xor c (seven); these, xored with the key, become g and h. docs/FI.md has it by hand
abbrev pub half : List ℕ → ℕ → ℕ
half table x = bit_xor (get_or table (left 7 x) 0) (get_or table (512 + right 7 x) 0)

-- FI by a table. A half has its nine bits on the left; the key and the result of FI have them on the right
unfoldable pub fi_by : List ℕ → ℕ → ℕ → ℕ
fi_by table ki x = rot 9 (half table (bit_xor (half table x) (rot 7 ki)))

-- ---- the keys

-- the eight words of the keys of one round
abbrev pub words_of : Keys → List ℕ
words_of keys = keys.kl1 ∷ keys.kl2 ∷ keys.ko1 ∷ keys.ko2 ∷ keys.ko3 ∷ keys.ki1 ∷ keys.ki2 ∷ keys.ki3 ∷ []

-- the words of the keys of rounds 1 to n
unfoldable pub round_words : List ℕ → ℕ → List ℕ
round_words key zero = []
round_words key (suc n) = round_words key n ++ words_of (round_keys key (suc n))

-- kasumi::round_keys makes the 64 words of the keys of all eight rounds, or hands back 64 zeros
abbrev pub round_keys_call : List ℕ → Call (List ℕ)
round_keys_call key = makes (kasumi_order key) (replicate 64 0) (round_words key 8)

-- the keys of round i among such words
abbrev pub keys_at : List ℕ → ℕ → Keys
keys_at words i =
    let at = 8 * (i - 1) in
    record {
      kl1 = get_or words at 0;
      kl2 = get_or words (at + 1) 0;
      ko1 = get_or words (at + 2) 0;
      ko2 = get_or words (at + 3) 0;
      ko3 = get_or words (at + 4) 0;
      ki1 = get_or words (at + 5) 0;
      ki2 = get_or words (at + 6) 0;
      ki3 = get_or words (at + 7) 0;
    }

-- ---- the cipher

-- kasumi::cipher_block: the eight rounds by a table and the words of round keys
unfoldable pub ciphered_by : List ℕ → List ℕ → ℕ → ℕ
ciphered_by table words block = rounds (fi_by table) (keys_at words) 8 block
