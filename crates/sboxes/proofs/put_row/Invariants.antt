-- `sboxes::put_row` meets its contract. The invariant of its loop: the entries up to 2^k + 2^j stand at the front.
-- Assumes nothing.
use Prim.Native.Nat.{◌+◌, ◌^◌}
use Rattle.sboxes.specs.FiTable.{Filled}
use Rattle.sboxes.proofs.put_row.Given as goal

abbrev pub invariant-loop-j : goal.invariant-loop-j
invariant-loop-j l = Filled (2 ^ l.k + 2 ^ l.j) l.table
