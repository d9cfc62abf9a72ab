-- `sboxes::put_nines` meets its contract. The invariant of its loop: the entries up to 2^k stand at the front.
-- Assumes nothing.
use Prim.Native.Nat.{◌^◌}
use Rattle.sboxes.specs.FiTable.{Filled}
use Rattle.sboxes.proofs.put_nines.Given as goal

abbrev pub invariant-loop-k : goal.invariant-loop-k
invariant-loop-k l = Filled (2 ^ l.k) l.table
