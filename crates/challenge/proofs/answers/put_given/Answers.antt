-- `challenge::answers::put_given` meets its contract: OPc as given, a refusal, or OPc as it was made.
-- Assumes nothing.
use mathlib.Core.Path.{refl, sym}
use Rattle.refusals.proofs.Number.{number_some}
use Rattle.challenge.proofs.Known.{opc_refused, with_made}
use Rattle.challenge.proofs.answers.put_given.Goals as goal

pub returns-in-Err : goal.returns-in-Err
returns-in-Err c =
    let given = c.args.given in
    rw (
      c.if-not-given.false,
      sym (opc_refused given.numbered given.key.now given.operator.now given.rand.now given.sqn.now given.amf.now c.in-Err.ensures (number_some c.in-Err.refusal)),
    )
    c.put_refusal.ensures

pub returns : goal.returns
returns c =
    let given = c.args.given in
    rw (
      c.if-not-given.false,
      sym (with_made given.numbered given.key.now given.operator.now given.rand.now given.sqn.now given.amf.now c.in_default.ensures refl),
    )
    c.put_known-2.ensures
