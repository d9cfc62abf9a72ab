-- `lines::octets_of_hex` meets its contract. The loop's invariant: the octets of the first k pairs stand at the front of the output, and the rest
-- is as it was.
-- Assumes nothing.
use Prim.Native.Nat.{◌*◌}
use lib.ListN.{take, drop}
use mathlib.Core.List.{◌++◌}
use mathlib.Core.Path.{◌≡◌}
use Rattle.lines.specs.Text.{hex_octets}
use Rattle.lines.proofs.octets_of_hex.Given as goal

abbrev pub invariant-loop-k : goal.invariant-loop-k
invariant-loop-k l = l.output ≡ hex_octets (take (2 * l.k) l.text) ++ drop l.k l.initial.output
