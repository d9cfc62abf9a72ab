-- The block cipher AES-128 of FIPS 197, encryption alone. A block and a key are 16 octets; a word is four octets, held as a number, the first octet
-- highest. Assumes nothing.
use Rattle.std.specs.Prelude.{ℕ, zero, suc, ◌+◌, ◌-◌, ◌*◌, ◌/◌, ◌%◌, ◌^◌, cond, not, List, [], ◌∷◌, ◌++◌, eqb, ltb, length, get_or, replicate}
use Rattle.std.specs.Int.Bits.{bit_xor}
use Rattle.refusals.specs.Refusal.{Row}
use Rattle.refusals.specs.Call.{Call, puts, makes}
use Rattle.octets.specs.Bits.{listed, join}
use Rattle.octets.specs.Octets.{is_whole_key}
use Rattle.aes.specs.Field.{◌•◌}
use Rattle.aes.specs.SBox.{sbox}

-- ---- words

-- the word of four octets
abbrev pub word : ℕ → ℕ → ℕ → ℕ → ℕ
word a b c d = join 8 (join 8 (join 8 a b) c) d

-- octet r of a word, r from 0 to 3
abbrev pub octet_of : ℕ → ℕ → ℕ
octet_of w r = w / 2 ^ (24 - 8 * r) % 256

-- ---- the state (3.4)

-- the octet that stands in row r and column c
abbrev pub State : Type 0
State = ℕ → ℕ → ℕ

-- the state that a block is, column by column
unfoldable pub state_of : List ℕ → State
state_of block r c = get_or block (r + 4 * c) 0

-- the block that a state is
unfoldable pub block_of : State → List ℕ
block_of s = listed (λ i. s (i % 4) (i / 4)) 16

-- ---- the parts of a round (5.1)

-- each octet through the S-box
unfoldable pub sub_bytes : State → State
sub_bytes s r c = sbox (s r c)

-- row r moves r places to the left
unfoldable pub shift_rows : State → State
shift_rows s r c = s r ((c + r) % 4)

-- the coefficient of x^i in the product of two polynomials of four terms modulo x^4 + 1 (4.3): that of x^k in the second is multiplied by that of
-- x^(i - k) in the first, and exponents go round after 3
unfoldable pub coefficient : (ℕ → ℕ) → (ℕ → ℕ) → ℕ → ℕ
coefficient a b i = bit_xor (bit_xor (bit_xor (a i • b 0) (a ((i + 3) % 4) • b 1)) (a ((i + 2) % 4) • b 2)) (a ((i + 1) % 4) • b 3)

-- the fixed polynomial a(x) = 03 x^3 + 01 x^2 + 01 x + 02 (5.1.3), by the exponent
unfoldable pub mix : ℕ → ℕ
mix i = get_or (2 ∷ 1 ∷ 1 ∷ 3 ∷ []) i 0

-- a column is the polynomial whose x^k has the octet of row k, and becomes its product with a(x)
unfoldable pub mix_columns : State → State
mix_columns s r c = coefficient mix (λ k. s k c) r

-- column c is xored with word 4 n + c of the expanded key
unfoldable pub add_round_key : List ℕ → ℕ → State → State
add_round_key words n s r c = bit_xor (s r c) (octet_of (get_or words (4 * n + c) 0) r)

-- ---- the cipher (5.1)

-- round n, and the last, which mixes no columns
unfoldable pub round : List ℕ → ℕ → State → State
round words n s = add_round_key words n (mix_columns (shift_rows (sub_bytes s)))

unfoldable pub last_round : List ℕ → ℕ → State → State
last_round words n s = add_round_key words n (shift_rows (sub_bytes s))

-- the state after the first round key and n rounds
unfoldable pub rounds : List ℕ → ℕ → State → State
rounds words zero s = add_round_key words 0 s
rounds words (suc n) s = round words (suc n) (rounds words n s)

-- aes::encrypt_block: ten rounds over a block, by the words of an expanded key
unfoldable pub cipher : List ℕ → List ℕ → List ℕ
cipher words block = block_of (last_round words 10 (rounds words 9 (state_of block)))

-- ---- the key expansion (5.2)

-- word i of the key
unfoldable pub key_word : List ℕ → ℕ → ℕ
key_word key i = word (get_or key (4 * i) 0) (get_or key (4 * i + 1) 0) (get_or key (4 * i + 2) 0) (get_or key (4 * i + 3) 0)

-- each octet of a word through the S-box
unfoldable pub sub_word : ℕ → ℕ
sub_word w = word (sbox (octet_of w 0)) (sbox (octet_of w 1)) (sbox (octet_of w 2)) (sbox (octet_of w 3))

-- the octets of a word one place to the left, the first going last
unfoldable pub rot_word : ℕ → ℕ
rot_word w = word (octet_of w 1) (octet_of w 2) (octet_of w 3) (octet_of w 0)

-- x^n in the field
unfoldable pub power_of_x : ℕ → ℕ
power_of_x zero = 1
power_of_x (suc n) = power_of_x n • 2

-- the round constant of round j, j from 1: x^(j - 1) and three zero octets
unfoldable pub rcon : ℕ → ℕ
rcon j = word (power_of_x (j - 1)) 0 0 0

-- word i of the expanded key, from the words before it: one of the key's four, or the word four places before it xor the word before it, which at every
-- fourth word is changed first
unfoldable pub next_word : List ℕ → List ℕ → ℕ → ℕ
next_word key words i =
    let before = get_or words (i - 1) 0 in
    cond (ltb i 4) (key_word key i)
    (bit_xor (get_or words (i - 4) 0) (cond (eqb (i % 4) 0) (bit_xor (sub_word (rot_word before)) (rcon (i / 4))) before))

-- the first n words of the expanded key
unfoldable pub expanded : List ℕ → ℕ → List ℕ
expanded key zero = []
expanded key (suc n) = expanded key n ++ (next_word key (expanded key n) n ∷ [])

-- AES-128 of a block under a key: eleven round keys of four words
unfoldable pub aes : List ℕ → List ℕ → List ℕ
aes key block = cipher (expanded key 44) block

-- ---- the calls

-- the refusals of expanding a key: 1 where it is not 16 octets
unfoldable pub expand_key_order : List ℕ → List Row
expand_key_order key = record { number = 1; holds = not (is_whole_key key) } ∷ []

-- aes::expand_key makes the 44 words of the expanded key, or hands back 44 zeros
abbrev pub expand_key_call : List ℕ → Call (List ℕ)
expand_key_call key = makes (expand_key_order key) (replicate 44 0) (expanded key 44)

-- the refusals of a block's encryption, in their order: 1 for the key, 5 where the block is not 16 octets, 4 for want of room
unfoldable pub aes_order : List ℕ → List ℕ → List ℕ → List Row
aes_order key block output =
    record { number = 1; holds = not (is_whole_key key) } ∷
    record { number = 5; holds = not (eqb (length block) 16) } ∷
    record { number = 4; holds = ltb (length output) 16 } ∷ []

-- aes::aes
abbrev pub aes_call : List ℕ → List ℕ → List ℕ → Call (List ℕ)
aes_call key block output = puts (aes_order key block output) (aes key block) output
