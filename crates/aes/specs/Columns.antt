-- How the rounds hold the state: four columns, each one word (FIPS 197, 3.5). Assumes nothing.
use Rattle.std.specs.Prelude.{ℕ, List, [], ◌∷◌, get_or}
use Rattle.octets.specs.Bits.{listed}
use Rattle.aes.specs.Aes.{State, word, octet_of}
use Rattle.aes.specs.SBox.{sbox}

-- column c of a state, as a word
unfoldable pub column_of : State → ℕ → ℕ
column_of s c = word (s 0 c) (s 1 c) (s 2 c) (s 3 c)

-- the columns of a state
unfoldable pub columns_of : State → List ℕ
columns_of s = listed (column_of s) 4

-- the state that columns hold
unfoldable pub held : List ℕ → State
held x r c = octet_of (get_or x c 0) r

-- a state of one column, whose row k is the S-box of octet k of the kth of four words: what SubBytes and ShiftRows leave of the columns that they are
-- taken from
unfoldable pub gathered : ℕ → ℕ → ℕ → ℕ → State
gathered a b c d k _ = sbox (octet_of (get_or (a ∷ b ∷ c ∷ d ∷ []) k 0) k)
