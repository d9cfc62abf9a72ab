-- The key of a keystream and of a link's end, and the 16 octets that it yields (document 02, item 1). Assumes nothing.
use Rattle.std.specs.Prelude.{ℕ, ◌-◌, Bool, cond, not, ◌||◌, List, [], ◌∷◌, ◌++◌, eqb, ltb, length, replicate}
use Rattle.refusals.specs.Refusal.{Row}
use Rattle.refusals.specs.Call.{Call, makes}
use Rattle.octets.specs.Octets.{is_whole_key}

-- a key is 8 octets, for A5/3 and GEA3, or 16, for A5/4 and GEA4
unfoldable pub is_key : List ℕ → Bool
is_key key = eqb (length key) 8 || is_whole_key key

-- the 16 octets that a key yields for KGCORE: a key of 8 octets yields itself twice, one of 16 itself
unfoldable pub prepared : List ℕ → List ℕ
prepared key = cond (eqb (length key) 8) (key ++ key) key

-- document 004's rule for them (5.3, 6.3, 7.3), in octets: up to its end the key is taken as it is, CK[i] = Kc[i], and past it from its first octet
-- on, CK[KLEN + i] = Kc[i]. So place i of the 16 has this octet of a key of `size` octets
unfoldable pub source_of : ℕ → ℕ → ℕ
source_of size i = cond (ltb i size) i (i - size)

-- the refusals of preparing a key: 1 where it is none
unfoldable pub key_order : List ℕ → List Row
key_order key = record { number = 1; holds = not (is_key key) } ∷ []

-- keystreams::prepare_key: the prepared key, or 16 zeros
abbrev pub prepare_key_call : List ℕ → Call (List ℕ)
prepare_key_call key = makes (key_order key) (replicate 16 0) (prepared key)
