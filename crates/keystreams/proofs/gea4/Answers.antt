-- `keystreams::gea4` meets its contract: under a prepared key KGCORE refuses nothing here, and fills the output.
-- Assumes nothing.
use Prim.Native.Nat.{◌*◌}
use native.Mathlib.Omega.{arith}
use mathlib.Core.Path.{refl}
use Rattle.std.proofs.lemmas.Bool.Decides.{nat_tests}
use Rattle.refusals.specs.Refusal.{first}
use Rattle.octets.specs.Bits.{size}
use Rattle.kgcore.proofs.Laws.{kgcore_done}
use Rattle.keystreams.specs.Key.{prepared}
use Rattle.keystreams.specs.Gea4.{gea4_inputs, gea4_output, gea4_order}
use Rattle.keystreams.proofs.Keys.{length-prepared, prepare_done}
use Rattle.keystreams.proofs.gea4.Goals as goal

pub returns : goal.returns
unfolding first gea4_order gea4_inputs gea4_output size
returns c =
    let given = c.args in
    let key = prepare_done given.key.now c.in_ok-prepared.ensures refl in
    let done = kgcore_done (gea4_inputs given.input given.direction) (prepared given.key.now) (8 * given.m) given.output.now (rw (c.inputs-inputs.ensures, key.1) at c.kgcore.ensures) (length-prepared given.key.now key.0) (omega arith) (omega arith) (omega arith) (omega arith) (omega arith) in
    rw done.0 (record { refusal_is = rw key.0 (grind (arith, nat_tests)); numbers_are = refl; lent_is = done.1 })
