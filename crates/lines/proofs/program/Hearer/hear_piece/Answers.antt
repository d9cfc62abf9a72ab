-- The output keeps its room, so that no octet is refused, and what is written is within it; an octet heard leaves one octet less of the piece; and past
-- the last none is left.
-- Assumes nothing.
use native.Mathlib.Omega.{arith}
use lib.Seq.{length-take-le}
use mathlib.Core.Path.{sym, ◌∙◌}
use Rattle.lines.specs.Hearing.{stands}
use Rattle.lines.proofs.Hearing.{heard_on, heard_all}
use Rattle.lines.proofs.Callers.{put_within, room_ok}
use Rattle.lines.proofs.program.Hearer.hear_piece.Goals as goal

pub unwrap-written-requires : goal.unwrap-written-requires
unwrap-written-requires g c = room_ok g.P.Program.rules.room _ _ _ c.hear.ensures.said_is (omega arith)

pub slice_bounds-write_all-end : goal.slice_bounds-write_all-end
slice_bounds-write_all-end g c = put_within _ _ _ (rw c.unwrap-written.ensures at c.hear.ensures.said_is)

pub slice_bounds-write_all-end-in-loop-octet : goal.slice_bounds-write_all-end-in-loop-octet
slice_bounds-write_all-end-in-loop-octet g c = sym (length-take-le c.unwrap-written.result c.hear.new.output (put_within _ _ _ (rw c.unwrap-written.ensures at c.hear.ensures.said_is)))

pub loop-octet-preserved : goal.loop-octet-preserved
loop-octet-preserved g c =
    c.loop-octet.invariant
    ∙ heard_on g.P.Program.rules (stands g.P.Program.state c.loop-octet.self) c.args.piece.now c.loop-octet.octet-index (omega arith) (rw c.unwrap-written.ensures at c.hear.ensures.then_is)

pub returns : goal.returns
returns g c =
    sym (c.loop-octet.invariant ∙ heard_all g.P.Program.rules (stands g.P.Program.state c.loop-octet.self) c.args.piece.now c.loop-octet.octet-index (omega arith))
