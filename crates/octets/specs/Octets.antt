-- Lists of octets, and a key that is 16 of them. Assumes nothing.
use Rattle.std.specs.Prelude.{ℕ, ◌<◌, Bool, List, eqb, length, get_or}

-- every element of a list is an octet
abbrev pub AreOctets : List ℕ → Type 0
AreOctets octets = (i : ℕ) → get_or octets i 0 < 256

-- a key of 16 octets, 128 bits
abbrev pub is_whole_key : List ℕ → Bool
is_whole_key key = eqb (length key) 16
