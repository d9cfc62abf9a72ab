-- `lines::program::answer_all` meets its contract: each piece is heard where the pieces before it have led, and the end leads where a line feed would,
-- or nowhere. The output keeps its room, and what `finish` puts is within it.
-- Assumes nothing.
use native.Mathlib.Omega.{arith}
use lib.ListN.{take}
use lib.Seq.{length-take-le}
use mathlib.Core.Path.{◌≡◌, sym, ap, ◌∙◌}
use mathlib.Core.List.{List, [], ◌∷◌, ◌++◌}
use mathlib.Core.Logic.{inl, inr}
use Prim.Native.Nat.{ℕ}
use Rattle.lines.specs.Hearing.{Rules, Standing, silence, hearing, heard_after, Finished, Reached}
use Rattle.lines.proofs.Callers.{put_within, room_ok}
use Rattle.lines.proofs.Hearing.{heard_pieces}
use Rattle.lines.proofs.program.answer_all.Goals as goal

module _ {S : Type 0} (rules : Rules S) (first : S) where
  -- where a program stands that has heard octets
  abbrev heard : List ℕ → Standing S
  heard octets = heard_after rules (record { state = first; heard = silence }) octets

  finished : (at then : Standing S) (octets : List ℕ) → at ≡ heard octets → Finished rules at then → Reached rules first then.state
  unfolding heard_after
  finished at then octets is (inl same) = (octets, ap (λ (s : Standing S). s.state) (sym is ∙ sym same))
  finished at then octets is (inr fed) = (
    octets ++ 10 ∷ [],
    ap (λ (s : Standing S). s.state)
        (heard_pieces rules (record { state = first; heard = silence }) octets (10 ∷ []) ∙ ap (λ (s : Standing S). hearing rules s 10) (sym is) ∙ sym fed),
  )

pub loop-init : goal.loop-init
unfolding heard_after
loop-init g c = ([], c.new-hearer.ensures)

pub loop-preserved : goal.loop-preserved
loop-preserved g c =
    let piece : List ℕ = take c.in_ok-size.size c.read.new.buf in (
      c.loop.invariant.0 ++ piece,
      c.in_ok-hear_piece.ensures
          ∙ ap (λ (s : Standing g.P.Program.State). heard_after g.P.Program.rules s piece) c.loop.invariant.1
          ∙ sym (heard_pieces g.P.Program.rules _ c.loop.invariant.0 piece),
    )

pub hear_piece-requires : goal.hear_piece-requires
hear_piece-requires g c = omega arith

pub unwrap-written-requires : goal.unwrap-written-requires
unwrap-written-requires g c = room_ok g.P.Program.rules.room _ _ _ c.finish.ensures.said.said_is (omega arith)

pub slice_bounds-write_all-end : goal.slice_bounds-write_all-end
slice_bounds-write_all-end g c = put_within _ _ _ (rw c.unwrap-written.ensures at c.finish.ensures.said.said_is)

pub slice_bounds-write_all-end-2 : goal.slice_bounds-write_all-end-2
slice_bounds-write_all-end-2 g c = sym (length-take-le c.unwrap-written.result c.finish.new.output (put_within _ _ _ (rw c.unwrap-written.ensures at c.finish.ensures.said.said_is)))

pub returns : goal.returns
returns g c =
    finished g.P.Program.rules (g.P.Program.state c.args.program) _ _ c.loop.invariant.0 c.loop.invariant.1 c.finish.ensures.then
