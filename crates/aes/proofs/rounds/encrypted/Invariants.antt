-- `aes::rounds::encrypted` meets its contract. The invariant of its loop: the columns are those of the state after n - 1 rounds.
-- Assumes nothing.
use Prim.Native.Nat.{◌-◌}
use mathlib.Core.Path.{◌≡◌}
use Rattle.aes.specs.Aes.{state_of, rounds}
use Rattle.aes.specs.Columns.{columns_of}
use Rattle.aes.proofs.rounds.encrypted.Given as goal

abbrev pub invariant-loop-n : goal.invariant-loop-n
invariant-loop-n l = l.x ≡ columns_of (rounds l.words (l.n - 1) (state_of l.block))
