-- `kasumi::schedule::keys_of_rounds` meets its contract. The invariant of its loop: the words of the first i rounds stand at the front.
-- Assumes nothing.
use Prim.Native.Nat.{◌*◌}
use mathlib.Core.Path.{◌≡◌}
use mathlib.Core.List.{◌++◌}
use lib.ListN.{drop}
use Rattle.kasumi.specs.Lent.{round_words}
use Rattle.kasumi.proofs.schedule.keys_of_rounds.Given as goal

abbrev pub invariant-loop-i : goal.invariant-loop-i
invariant-loop-i l = l.words ≡ round_words l.key l.i ++ drop (8 * l.i) l.initial.words
