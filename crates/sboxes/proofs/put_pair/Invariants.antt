-- `sboxes::put_pair` meets its contract. The invariant of its loop: i entries more stand at the front.
-- Assumes nothing.
use Prim.Native.Nat.{◌+◌, ◌≤◌}
use Rattle.sboxes.specs.FiTable.{Filled}
use Rattle.sboxes.proofs.put_pair.Given as goal

abbrev pub invariant-loop-i : goal.invariant-loop-i
invariant-loop-i l = (l.high + l.low + l.low ≤ 512) × Filled (l.high + l.low + l.i) l.table
