-- `kgcore::modified` meets its contract: each turn of the loop changes the next octet.
-- Assumes nothing.
use native.Mathlib.Omega.{arith}
use mathlib.Core.List.{List}
use Prim.Native.Nat.{ℕ}
use Rattle.std.proofs.lemmas.List.{get_or_default}
use Rattle.std.proofs.lemmas.List.Edits.{map_over_more}
use Rattle.kgcore.proofs.modified.Invariants.{changed_octet}
use Rattle.kgcore.proofs.modified.Goals as goal

pub loop-octet-preserved : goal.loop-octet-preserved
loop-octet-preserved c =
    let items : List ℕ = c.loop-octet.octet-items in
    let at : ℕ = c.loop-octet.octet-index in
    map_over_more changed_octet c.args.key.now items at _ (omega arith) c.loop-octet.invariant (get_or_default items at 0 _ (omega arith))
