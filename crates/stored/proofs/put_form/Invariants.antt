-- `stored::put_form` meets its contract: what stands before the words is put, and each turn of the loop puts the next word.
-- Assumes nothing.
use Prim.Native.Nat.{◌+◌, ◌*◌}
use mathlib.Core.Path.{◌≡◌}
use mathlib.Core.List.{◌++◌}
use lib.ListN.{drop}
use Rattle.stored.proofs.Writing.{up_to}
use Rattle.stored.proofs.put_form.Given as goal

-- the form up to word k stands at the front of the output
abbrev pub invariant-loop-k : goal.invariant-loop-k
invariant-loop-k l = l.output ≡ up_to l.fn.link l.words l.k ++ drop (25 + 4 * l.k) l.fn.output
