-- `aes::schedule::expanded` meets its contract. The invariant of its loop: the first i words stand at the front, and the last of them is at hand.
-- Assumes nothing.
use Prim.Native.Nat.{◌-◌}
use mathlib.Core.Path.{◌≡◌}
use mathlib.Core.List.{◌++◌}
use lib.ListN.{get_or, drop}
use Rattle.aes.specs.Aes.{expanded}
use Rattle.aes.proofs.schedule.expanded.Given as goal

abbrev pub invariant-loop-i : goal.invariant-loop-i
invariant-loop-i l = (l.words ≡ expanded l.key l.i ++ drop l.i l.initial.words) × (l.before ≡ get_or l.words (l.i - 1) 0)
