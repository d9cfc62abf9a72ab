-- `lines::program::Hearer::hear_piece` meets its contract. The loop's invariant: what is left of the piece, heard from where the program stands, ends
-- where the whole piece ends.
-- Assumes nothing.
use lib.ListN.{drop}
use mathlib.Core.Path.{◌≡◌}
use Rattle.lines.specs.Hearing.{stands, heard_after}
use Rattle.lines.proofs.program.Hearer.hear_piece.Given as goal

abbrev pub invariant-loop-octet : goal.invariant-loop-octet
invariant-loop-octet g l =
    heard_after g.P.Program.rules (stands g.P.Program.state l.initial.self) l.piece
    ≡ heard_after g.P.Program.rules (stands g.P.Program.state l.self) (drop l.octet-index l.piece)
