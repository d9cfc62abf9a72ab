-- `milenage::f2` meets its contract: the octets of OUT2 from octet 8 on are its second half.
-- Assumes nothing.
use mathlib.Core.List.{List}
use Prim.Native.Nat.{ℕ}
use Rattle.milenage.specs.Milenage.{fixed2, out, f2_output}
use Rattle.milenage.proofs.Parts.{length-out, to_the_end, answered_same}
use Rattle.milenage.proofs.f2.Goals as goal

pub returns : goal.returns
unfolding fixed2 f2_output
returns c =
    let given = c.args in
    let string : List ℕ = out fixed2 given.key.now given.opc.now given.rand.now in
    answered_same (to_the_end 8 8 string (length-out _ _ _ _)) c.result.ensures
