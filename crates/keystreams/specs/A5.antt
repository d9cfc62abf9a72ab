-- A5/4 for GSM and for ECSD (document 004, sections 5 and 6): two blocks of keystream for a COUNT. Assumes nothing.
use Rattle.std.specs.Prelude.{ℕ, ◌/◌, not, ◌||◌, List, [], ◌∷◌, ltb, length}
use Rattle.refusals.specs.Refusal.{Row}
use Rattle.refusals.specs.Call.{Call, Outputs, puts_two}
use Rattle.octets.specs.Bits.{size, stored}
use Rattle.kgcore.specs.declared.Inputs.{Inputs}
use Rattle.kgcore.specs.Kgcore.{key_bit}
use Rattle.keystreams.specs.Key.{is_key, prepared}

-- the fixed inputs of a kind
pub record Kind : Type 0 where
  pub ca : ℕ
  pub cb : ℕ
  pub ce : ℕ
  pub cl : ℕ

-- the fixed inputs of each kind; CB and CE are zero. GSM: CA 0F, CL 228
unfoldable pub gsm_kind : Kind
gsm_kind = record { ca = 0x0F; cb = 0; ce = 0; cl = 228 }

-- ECSD: CA F0, CL 696
unfoldable pub ecsd_kind : Kind
ecsd_kind = record { ca = 0xF0; cb = 0; ce = 0; cl = 696 }

-- the inputs of KGCORE: COUNT stands in the right 22 bits of CC, and CD is 0
unfoldable pub a5_inputs : Kind → ℕ → Inputs
a5_inputs kind count = record { ca = kind.ca; cb = kind.cb; cc = count; cd = 0; ce = kind.ce }

-- how many bits a block has: half of CL, 114 for GSM and 348 for ECSD
unfoldable pub half : Kind → ℕ
half kind = kind.cl / 2

-- BLOCK1: the first half of the bits, 0 to 113 for GSM and 0 to 347 for ECSD
unfoldable pub block1 : Kind → List ℕ → ℕ → List ℕ
block1 kind key count = stored (key_bit (prepared key) (a5_inputs kind count)) 0 (half kind)

-- BLOCK2: the second half, 114 to 227 and 348 to 695
unfoldable pub block2 : Kind → List ℕ → ℕ → List ℕ
block2 kind key count = stored (key_bit (prepared key) (a5_inputs kind count)) (half kind) (half kind)

-- the refusals of a call, in their order; no size is asked for, so there is no 3
unfoldable pub a5_order : Kind → List ℕ → ℕ → Outputs → List Row
a5_order kind key count outputs =
    record { number = 1; holds = not (is_key key) } ∷
    record { number = 2; holds = ltb 4194303 count } ∷
    record { number = 4; holds = ltb (length outputs.one) (size (half kind)) || ltb (length outputs.two) (size (half kind)) } ∷ []

-- keystreams::gsm and keystreams::ecsd, by their kind: BLOCK1 into the one output, BLOCK2 into the other
abbrev pub a5_call : Kind → List ℕ → ℕ → Outputs → Call Outputs
a5_call kind key count outputs =
    puts_two (a5_order kind key count outputs) (record { one = block1 kind key count; two = block2 kind key count }) outputs
