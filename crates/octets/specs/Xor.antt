-- What the xor of octets with octets answers. Assumes nothing.
use Rattle.std.specs.Prelude.{ℕ, List, [], ◌∷◌, ltb, length, get_or}
use Rattle.std.specs.Int.Bits.{bit_xor}
use Rattle.refusals.specs.Refusal.{Row}
use Rattle.refusals.specs.Call.{Call, puts}
use Rattle.octets.specs.Bits.{listed}

-- each octet of a list xor the octet of a stream at its place; where the stream has ended, xor 0
unfoldable pub xored : List ℕ → List ℕ → List ℕ
xored source stream = listed (λ i. bit_xor (get_or source i 0) (get_or stream i 0)) (length source)

-- the refusals of an xor: 4 where the output is shorter than the source
unfoldable pub xor_order : List ℕ → List ℕ → List Row
xor_order source output = record { number = 4; holds = ltb (length output) (length source) } ∷ []

-- octets::xor
abbrev pub xor_call : List ℕ → List ℕ → List ℕ → Call (List ℕ)
xor_call source stream output = puts (xor_order source output) (xored source stream) output
