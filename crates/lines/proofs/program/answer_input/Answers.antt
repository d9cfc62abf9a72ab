-- `lines::program::answer_input` meets its contract: it is refused where the output has less than the room of the rules, and only there;
-- what is handed on has that room.
-- Assumes nothing.
use native.Mathlib.Omega.{arith}
use mathlib.Core.Path.{sym}
use Rattle.lines.proofs.Text.{room_enough, room_short}
use Rattle.lines.proofs.program.answer_input.Goals as goal

pub answer_all-requires : goal.answer_all-requires
answer_all-requires g c = omega (arith, c.ROOM.ensures, g.met.P.Program.room)

pub returns-then-output-ROOM-clause-room : goal.returns-then-output-ROOM-clause-room
returns-then-output-ROOM-clause-room g c = sym (room_short _ _ (omega (arith, c.ROOM.ensures, g.met.P.Program.room)))

pub returns-clause-room : goal.returns-clause-room
returns-clause-room g c = sym (room_enough _ _ (omega (arith, c.ROOM.ensures, g.met.P.Program.room)))
