-- The marked examples agree with the definitions: one computed test over the table, and the law that it means what it says.
-- Assumes nothing.
use Prim.Native.Nat.{ℕ}
use mathlib.Core.Bool.{Bool}
use lib.Dec.{eqb, eqb→eq}
use Rattle.refusals.specs.Refusal.{first}
use Rattle.refusals.proofs.Tests.{at_place}
use Rattle.kgcore.specs.Kgcore.{register, blocks}
use Rattle.keystreams.specs.A5.{gsm_kind, ecsd_kind, a5_inputs}
use Rattle.keystreams.specs.Gea4.{gea4_inputs}
use Rattle.numbering.specs.Numbering.{end, first_from, candidate, is_below0, is_past_end, marks_of, mark, is_accepted, candidate_order, accepted}
use Rattle.link.specs.Input.{sx, input_of}
use Rattle.examples.specs.Marked.{Example, marked, example_at, Agree}

-- the test: an example's two numbers are one
abbrev agree : ℕ → Example → Bool
agree k example = eqb example.given example.said

pub marked_agree : Agree marked
unfolding Agree example_at marked sx input_of register blocks gsm_kind ecsd_kind a5_inputs gea4_inputs first end first_from candidate is_below0 is_past_end marks_of mark is_accepted candidate_order accepted
marked_agree k l = eqb→eq (example_at marked k).given (example_at marked k).said (at_place agree marked (record { given = 0; said = 0 }) tt k l)
