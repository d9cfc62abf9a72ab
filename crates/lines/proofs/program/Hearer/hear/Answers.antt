-- `lines::program::Hearer::hear` meets its contract: the tests of the room and of the octet pick the case.
-- Assumes nothing.
use native.Mathlib.Omega.{arith}
use Rattle.lines.proofs.Calls.{hear_no_room, hear_feed, hear_other}
use Rattle.lines.proofs.program.Hearer.hear.Goals as goal

pub answer_heard-requires : goal.answer_heard-requires
answer_heard-requires g c = omega (arith, c.ROOM.ensures, g.met.P.Program.room)

pub returns-then-output-ROOM : goal.returns-then-output-ROOM
returns-then-output-ROOM g c = hear_no_room g.P.Program.rules _ _ (omega (arith, c.ROOM.ensures, g.met.P.Program.room))

pub returns-then-octet-eq-LINE_FEED : goal.returns-then-octet-eq-LINE_FEED
returns-then-octet-eq-LINE_FEED g c =
    hear_feed g.P.Program.rules _ (omega (arith, c.ROOM.ensures, g.met.P.Program.room)) c.if-octet-eq-LINE_FEED.true
    (λ i. record { state = c.answer_heard.ensures.state i; heard = c.answer_heard.ensures.heard i })
    c.answer_heard.ensures.answer

pub returns : goal.returns
returns g c =
    hear_other g.P.Program.rules _ (omega (arith, c.ROOM.ensures, g.met.P.Program.room)) c.if-octet-eq-LINE_FEED.false
    (λ i. record { state = g.P.Program.state c.args.self.now.program; heard = c.kept-self.ensures i })
