-- `lines::program::Hearer::finish` meets its contract: a last line is answered where one was heard and there is room.
-- Assumes nothing.
use native.Mathlib.Omega.{arith}
use Rattle.lines.proofs.Calls.{finish_no_room, finish_empty, finish_line}
use mathlib.Core.Logic.{inr}
use Rattle.lines.specs.Hearing.{hearing}
use Rattle.lines.proofs.program.Hearer.finish.Goals as goal

pub answer_heard-requires : goal.answer_heard-requires
answer_heard-requires g c = omega (arith, c.ROOM.ensures, g.met.P.Program.room)

pub returns-then-output-ROOM-clause-said : goal.returns-then-output-ROOM-clause-said
returns-then-output-ROOM-clause-said g c = finish_no_room g.P.Program.rules _ (omega (arith, c.ROOM.ensures, g.met.P.Program.room))

pub returns-then-self-eq0-clause-said : goal.returns-then-self-eq0-clause-said
returns-then-self-eq0-clause-said g c = finish_empty g.P.Program.rules _ (omega (arith, c.ROOM.ensures, g.met.P.Program.room)) c.if-self-eq0.true

pub returns-clause-said : goal.returns-clause-said
returns-clause-said g c =
    finish_line g.P.Program.rules _ (omega (arith, c.ROOM.ensures, g.met.P.Program.room)) c.if-self-eq0.false c.answer_heard.ensures.answer

pub returns-clause-then : goal.returns-clause-then
unfolding hearing
returns-clause-then g c = inr (λ i. record { state = c.answer_heard.ensures.state i; heard = c.answer_heard.ensures.heard i })
