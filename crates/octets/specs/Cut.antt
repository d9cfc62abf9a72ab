-- What cutting a bit string out of octets answers. Assumes nothing.
use Rattle.std.specs.Prelude.{ℕ, List, [], ◌∷◌, ltb, length}
use Rattle.refusals.specs.Refusal.{Row}
use Rattle.refusals.specs.Call.{Call, puts}
use Rattle.octets.specs.Bits.{bit_of, size, stored}

-- the refusals of a cut of `count` bits: 4 where the output has no room for them
unfoldable pub cut_order : ℕ → List ℕ → List Row
cut_order count output = record { number = 4; holds = ltb (length output) (size count) } ∷ []

-- octets::cut, of `count` bits from bit `start` of the source on. Bits past the source's end are zero
abbrev pub cut_call : List ℕ → ℕ → ℕ → List ℕ → Call (List ℕ)
cut_call source start count output = puts (cut_order count output) (stored (bit_of source) start count) output
