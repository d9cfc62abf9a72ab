-- `milenage::f1_star` meets its contract: the octets of OUT1 from octet 8 on are its second half.
-- Assumes nothing.
use mathlib.Core.List.{List}
use Prim.Native.Nat.{ℕ}
use Rattle.milenage.specs.Milenage.{out1, f1_star_output}
use Rattle.milenage.proofs.Parts.{length-out1, to_the_end, answered_same}
use Rattle.milenage.proofs.f1_star.Goals as goal

pub returns : goal.returns
unfolding f1_star_output
returns c =
    let given = c.args in
    let string : List ℕ = out1 given.key.now given.opc.now given.rand.now given.sqn.now given.amf.now in
    answered_same (to_the_end 8 8 string (length-out1 _ _ _ _ _)) c.code.ensures
