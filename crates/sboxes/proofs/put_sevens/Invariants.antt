-- `sboxes::put_sevens` meets its contract: each turn of the loop puts the next entry behind the 512 that stay.
-- Assumes nothing.
use Prim.Native.Nat.{◌+◌}
use mathlib.Core.Path.{◌≡◌}
use mathlib.Core.List.{◌++◌}
use lib.ListN.{take, drop}
use Rattle.octets.specs.Bits.{listed}
use Rattle.sboxes.specs.FiTable.{entry_of_seven}
use Rattle.sboxes.proofs.put_sevens.Given as goal

-- the first b entries stand behind the 512
abbrev pub invariant-loop-b : goal.invariant-loop-b
invariant-loop-b l = l.table ≡ (take 512 l.initial.table ++ listed entry_of_seven l.b) ++ drop (512 + l.b) l.initial.table
