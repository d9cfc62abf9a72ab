-- `milenage::strings::put` meets its contract: all of the octets are copied.
-- Assumes nothing.
use mathlib.Core.Path.{ap}
use mathlib.Core.List.{List, ◌++◌}
use Prim.Native.Nat.{ℕ}
use lib.ListN.{length, drop}
use Rattle.refusals.specs.Call.{front}
use Rattle.milenage.proofs.strings.put.Goals as goal

pub returns : goal.returns
unfolding front
returns c =
    let given = c.args in
    let octets : List ℕ = given.octets.now in
    ap (λ (l : List ℕ). l ++ drop (length octets) given.output.now) c.copy_from_slice.ensures.after
