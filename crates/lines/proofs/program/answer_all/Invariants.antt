-- `lines::program::answer_all` meets its contract: the program stands where hearing the pieces read so far has led it.
-- Assumes nothing.
use mathlib.Core.Path.{◌≡◌}
use mathlib.Core.List.{List}
use Prim.Native.Nat.{ℕ}
use Rattle.lines.specs.Hearing.{stands, silence, heard_after}
use Rattle.lines.proofs.program.answer_all.Given as goal

abbrev pub invariant-loop : goal.invariant-loop
invariant-loop g l =
    (octets : List ℕ) × (stands g.P.Program.state l.hearer ≡ heard_after g.P.Program.rules (record { state = g.P.Program.state l.fn.program; heard = silence }) octets)
