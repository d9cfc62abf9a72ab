-- The examples that document 01 marks P, as one table: what the definitions give, and what the document says. Assumes nothing.
use Rattle.std.specs.Prelude.{ℕ, ◌<◌, ◌≡◌, List, [], ◌∷◌, length, get_or}
use Rattle.refusals.specs.Refusal.{first}
use Rattle.kgcore.specs.Kgcore.{register, blocks}
use Rattle.keystreams.specs.A5.{gsm_kind, ecsd_kind, a5_inputs}
use Rattle.keystreams.specs.Gea4.{gea4_inputs}
use Rattle.numbering.specs.declared.Numbering.{Numbering}
use Rattle.numbering.specs.Numbering.{width, numbering_of, candidate, candidate_order, accepted}
use Rattle.link.specs.Input.{input_of}

-- an example: what a definition gives, and what the document says
pub record Example : Type 0 where
  pub given : ℕ
  pub said : ℕ

-- a receiver's numbering at V that has accepted V - 1 alone of its window
abbrev pub at : ℕ → Numbering
at v = numbering_of v 1

-- the examples P1 to P11
unfoldable pub marked : List Example
marked =
    -- P1 to P4: INPUT of IOV, SAPI and n; P2 to P4 are arithmetic of the formula alone, since SAPI 0 and 15 are reserved
    record { given = input_of 0 3 0; said = 0x98000000 } ∷
    record { given = input_of 0xFFFFFFFF 0 1; said = 0x80000000 } ∷
    record { given = input_of 0x7FFFFFFF 0 1; said = 0x00000000 } ∷
    record { given = input_of 0 15 512; said = 0xF8000200 } ∷
    -- P5: GEA4, INPUT 98000000, direction 1
    record { given = register (gea4_inputs 0x98000000 1); said = 0x9800000004FF0000 } ∷
    -- P6: GSM, COUNT 1
    record { given = register (a5_inputs gsm_kind 1); said = 0x00000001000F0000 } ∷
    -- P7: ECSD, COUNT 3FFFFF
    record { given = register (a5_inputs ecsd_kind 0x3FFFFF); said = 0x003FFFFF00F00000 } ∷
    -- P8: blocks needed
    record { given = blocks 1; said = 1 } ∷
    record { given = blocks 64; said = 1 } ∷
    record { given = blocks 65; said = 2 } ∷
    record { given = blocks 228; said = 4 } ∷
    record { given = blocks 696; said = 11 } ∷
    -- P9: V 4, N 500: refusal 9
    record { given = first (candidate_order width (at 4) 500); said = 9 } ∷
    -- P10: V 480, N 448: not refused, 448, and late, so that V stays
    record { given = first (candidate_order width (at 480) 448); said = 0 } ∷
    record { given = candidate width 480 448; said = 448 } ∷
    record { given = (accepted width (at 480) 448).next; said = 480 } ∷
    -- P11: V 480, N 447: not refused, 959, and new, so that V is one more
    record { given = first (candidate_order width (at 480) 447); said = 0 } ∷
    record { given = candidate width 480 447; said = 959 } ∷
    record { given = (accepted width (at 480) 959).next; said = 960 } ∷ []

-- example k of a table
unfoldable pub example_at : List Example → ℕ → Example
example_at examples k = get_or examples k (record { given = 0; said = 0 })

-- in every example the definitions give what the document says
unfoldable pub Agree : List Example → Type 0
Agree examples = (k : ℕ) → k < length examples → (example_at examples k).given ≡ (example_at examples k).said
