-- The first sentence of promise 2, bit for bit: what a keystream call leaves in a lent output is KGCORE's output (document 004, sections 4 to 7).
-- Assumes nothing.
use Rattle.std.specs.Prelude.{ℕ, ◌+◌, ◌*◌, ◌≤◌, ◌<◌, ◌≡◌, List, [], length, drop}
use Rattle.octets.specs.Bits.{bit_of}
use Rattle.kgcore.specs.declared.Inputs.{Inputs}
use Rattle.refusals.specs.Call.{Answered, Outputs}
use Rattle.kgcore.specs.Kgcore.{key_bit, kgcore_call}
use Rattle.keystreams.specs.Key.{prepared, prepare_key_call}
use Rattle.keystreams.specs.A5.{gsm_kind, ecsd_kind, a5_inputs, a5_call}
use Rattle.keystreams.specs.Gea4.{gea4_inputs, gea4_call}

-- so many bits of a bit string, from bit `start` on, stand in the first octets of a buffer; the spare bits after them are zero; and the octets past
-- them are as they were
pub record HoldsBits (bit : ℕ → ℕ) (start count octets : ℕ) (before after : List ℕ) : Type 0 where
  pub bits : (i : ℕ) → i < count → bit_of after i ≡ bit (start + i)
  pub spare : (i : ℕ) → count ≤ i → i < 8 * octets → bit_of after i ≡ 0
  pub past : drop octets after ≡ drop octets before

-- a key Kc as document 004 fills it up to CK, of 128 bits: CK[i] is Kc[i] up to Kc's end, and CK[KLEN + i] is Kc[i] from there on
pub record FilledUp (kc ck : List ℕ) : Type 0 where
  pub size : length ck ≡ 16
  pub own : (i : ℕ) → i < 8 * length kc → bit_of ck i ≡ bit_of kc i
  pub anew : (i : ℕ) → 8 * length kc + i < 128 → bit_of ck (8 * length kc + i) ≡ bit_of kc i

-- the preparation of a key, KGCORE and the three keystreams, bit for bit: what each leaves where it is not refused
pub record BitForBit : Type 0 where
  -- what the preparation hands out for a key is `prepared key`, under which the three keystreams below run KGCORE, and it is CK
  pub preparation : (key : List ℕ) {octets : List ℕ} → Answered (prepare_key_call key) 0 [] octets → (octets ≡ prepared key) × FilledUp key octets
  -- KGCORE: the first CL bits, in CL / 8 octets, rounded up
  pub kgcore : (inputs : Inputs) (key : List ℕ) (cl octets : ℕ) (before : List ℕ) {output : List ℕ} → Answered (kgcore_call inputs key cl before) 0 [] output
      → cl ≤ 8 * octets → 8 * octets < cl + 8
      → HoldsBits (key_bit key inputs) 0 cl octets before output
  -- GSM: BLOCK1 is bits 0 to 113, BLOCK2 bits 114 to 227, in 15 octets each
  pub gsm : (key : List ℕ) (count : ℕ) (before : Outputs) {blocks : Outputs} → Answered (a5_call gsm_kind key count before) 0 [] blocks
      → HoldsBits (key_bit (prepared key) (a5_inputs gsm_kind count)) 0 114 15 before.one blocks.one
      × HoldsBits (key_bit (prepared key) (a5_inputs gsm_kind count)) 114 114 15 before.two blocks.two
  -- ECSD: BLOCK1 is bits 0 to 347, BLOCK2 bits 348 to 695, in 44 octets each
  pub ecsd : (key : List ℕ) (count : ℕ) (before : Outputs) {blocks : Outputs} → Answered (a5_call ecsd_kind key count before) 0 [] blocks
      → HoldsBits (key_bit (prepared key) (a5_inputs ecsd_kind count)) 0 348 44 before.one blocks.one
      × HoldsBits (key_bit (prepared key) (a5_inputs ecsd_kind count)) 348 348 44 before.two blocks.two
  -- GEA4: bits 0 to 8M - 1, in M octets
  pub gea4 : (key : List ℕ) (input direction m : ℕ) (before : List ℕ) {output : List ℕ} → Answered (gea4_call key input direction m before) 0 [] output
      → HoldsBits (key_bit (prepared key) (gea4_inputs input direction)) 0 (8 * m) m before output
