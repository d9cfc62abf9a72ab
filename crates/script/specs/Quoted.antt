-- A quoted text as octets. Assumes nothing.
use Rattle.std.specs.Prelude.{ℕ, List, [], ◌∷◌}
use Prim.Native.Char.{code}
use Prim.Native.String.{String, [] as ended, ◌∷◌ as ◌then◌}

-- the octets of a quoted text, one for each letter
abbrev pub quoted : String → List ℕ
quoted ended = []
quoted (letter then rest) = code letter ∷ quoted rest
