-- GEA4 for GPRS (document 004, section 7): M octets of keystream for an INPUT and a direction. Assumes nothing.
use Rattle.std.specs.Prelude.{ℕ, ◌*◌, not, ◌||◌, List, [], ◌∷◌, eqb, ltb, length}
use Rattle.refusals.specs.Refusal.{Row}
use Rattle.refusals.specs.Call.{Call, puts}
use Rattle.octets.specs.Bits.{stored}
use Rattle.kgcore.specs.declared.Inputs.{Inputs}
use Rattle.kgcore.specs.Kgcore.{key_bit}
use Rattle.keystreams.specs.Key.{is_key, prepared}

-- GEA4's row, the inputs of KGCORE: CA is FF, CC is INPUT (32 bits), CD the direction; CB and CE are zero; CL, 8M, is in the output below
unfoldable pub gea4_inputs : ℕ → ℕ → Inputs
gea4_inputs input direction = record { ca = 0xFF; cb = 0; cc = input; cd = direction; ce = 0 }

-- the output: the 8M bits of KGCORE as M octets
unfoldable pub gea4_output : List ℕ → ℕ → ℕ → ℕ → List ℕ
gea4_output key input direction m = stored (key_bit (prepared key) (gea4_inputs input direction)) 0 (8 * m)

-- the refusals of a call, in their order
unfoldable pub gea4_order : List ℕ → ℕ → ℕ → List ℕ → List Row
gea4_order key direction m output =
    record { number = 1; holds = not (is_key key) } ∷
    record { number = 2; holds = ltb 1 direction } ∷
    record { number = 3; holds = eqb m 0 || ltb 65536 m } ∷
    record { number = 4; holds = ltb (length output) m } ∷ []

-- keystreams::gea4 puts M octets
abbrev pub gea4_call : List ℕ → ℕ → ℕ → ℕ → List ℕ → Call (List ℕ)
gea4_call key input direction m output = puts (gea4_order key direction m output) (gea4_output key input direction m) output
