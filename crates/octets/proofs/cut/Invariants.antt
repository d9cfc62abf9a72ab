-- `octets::cut` meets its contract: each turn of the loop puts the next octet, of the eight bits there as many as are left.
-- Assumes nothing.
use mathlib.Core.Path.{◌≡◌}
use mathlib.Core.List.{List, ◌++◌}
use Prim.Native.Nat.{ℕ}
use lib.ListN.{drop}
use Rattle.octets.specs.Bits.{bit_of, part, octet, listed}
use Rattle.octets.proofs.cut.Given as goal

-- octet k of what is asked
abbrev pub asked : List ℕ → ℕ → ℕ → ℕ → ℕ
asked source start count k = octet (part (bit_of source) start count) k

-- the first k octets of what is asked stand at the front of the output
abbrev pub invariant-loop-k : goal.invariant-loop-k
invariant-loop-k l = l.output ≡ listed (asked l.source l.start l.count) l.k ++ drop l.k l.initial.output
