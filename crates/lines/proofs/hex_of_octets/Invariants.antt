-- `lines::hex_of_octets` meets its contract. The loop's invariant: the hex of the first k octets stands at the front of the output, and the rest
-- is as it was.
-- Assumes nothing.
use Prim.Native.Nat.{◌*◌}
use lib.ListN.{take, drop}
use mathlib.Core.List.{◌++◌}
use mathlib.Core.Path.{◌≡◌}
use Rattle.lines.specs.Text.{hex_text}
use Rattle.lines.proofs.hex_of_octets.Given as goal

abbrev pub invariant-loop-k : goal.invariant-loop-k
invariant-loop-k l = l.output ≡ hex_text (take l.k l.octets) ++ drop (2 * l.k) l.initial.output
