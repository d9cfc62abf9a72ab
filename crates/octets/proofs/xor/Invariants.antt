-- `octets::xor` meets its contract: each turn of the loop puts the next octet.
-- Assumes nothing.
use Prim.Native.Nat.{ℕ}
use mathlib.Core.Path.{◌≡◌}
use mathlib.Core.List.{List, ◌++◌}
use lib.Bits.{bit_xor}
use lib.ListN.{get_or, drop}
use Rattle.octets.specs.Bits.{listed}
use Rattle.octets.proofs.xor.Given as goal

-- octet i of the xor
abbrev pub at : List ℕ → List ℕ → ℕ → ℕ
at source stream i = bit_xor (get_or source i 0) (get_or stream i 0)

-- the first i octets of the xor stand at the front of the output
abbrev pub invariant-loop-i : goal.invariant-loop-i
invariant-loop-i l = l.output ≡ listed (at l.source l.stream) l.i ++ drop l.i l.initial.output
