-- `challenge::answers::put_known` meets its contract: a refusal, or the values.
-- Assumes nothing.
use lib.ListN.{length}
use mathlib.Core.Path.{◌≡◌, sym}
use native.Mathlib.Omega.{arith}
use Rattle.refusals.proofs.Number.{number_some}
use Rattle.lines.proofs.Placed.{at_front_more}
use Rattle.challenge.proofs.Known.{results_refused, opc_size, results_end, known_without, codes_refused, known_with}
use Rattle.challenge.proofs.answers.put_known.Goals.{In-Ok}
use Rattle.challenge.proofs.answers.put_known.Goals as goal

-- where the results have been made, OPc has 16 octets
opc_sixteen : (c : In-Ok) → length c.args.opc.now ≡ 16
opc_sixteen c =
    let given = c.args.given in
    opc_size given.numbered given.key.now c.args.opc.now given.rand.now given.sqn.now given.amf.now c.in-Ok.ensures.refusal c.in-Ok.ensures.results

pub returns-in-Err : goal.returns-in-Err
returns-in-Err c =
    let given = c.args.given in
    rw (sym (results_refused given.numbered given.key.now c.args.opc.now given.rand.now given.sqn.now given.amf.now c.in-Err.ensures.refusal (number_some c.in-Err.refusal))) c.put_refusal.ensures

pub put_results-requires : goal.put_results-requires
put_results-requires c = (opc_sixteen (goal.at.put_results-requires c).In-Ok, omega arith)

pub returns-then-not-given : goal.returns-then-not-given
returns-then-not-given c =
    let given = c.args.given in
    rw (sym (known_without given.numbered given.key.now c.args.opc.now given.rand.now given.sqn.now given.amf.now c.in-Ok.ensures.refusal c.in-Ok.ensures.results c.if-not-given.true)) c.put_results.ensures

pub returns-in-Err-codes_of : goal.returns-in-Err-codes_of
returns-in-Err-codes_of c =
    let given = c.args.given in
    rw (sym (codes_refused given.numbered given.key.now c.args.opc.now given.rand.now given.sqn.now given.amf.now c.in-Ok.ensures.refusal c.in-Ok.ensures.results c.if-not-given.false
    c.in-Err-codes_of.ensures.refusal (number_some c.in-Err-codes_of.refusal)))
    c.put_refusal-in-Err-codes_of.ensures

pub put_results-end-requires : goal.put_results-end-requires
put_results-end-requires c = (opc_sixteen (goal.at.put_results-end-requires c).In-Ok, omega arith)

pub add_codes-requires : goal.add_codes-requires
add_codes-requires c =
    let given = c.args.given in
    let ends = results_end given.numbered given.key.now c.args.opc.now given.rand.now given.sqn.now given.amf.now c.in-Ok.ensures.refusal c.in-Ok.ensures.results in
    omega (arith, c.put_results-end.ensures.written_is, ends, c.put_results-end.auto.output)

pub returns : goal.returns
returns c =
    let given = c.args.given in
    rw (sym (known_with given.numbered given.key.now c.args.opc.now given.rand.now given.sqn.now given.amf.now c.in-Ok.ensures.refusal c.in-Ok.ensures.results c.if-not-given.false
    c.in-Ok-codes_of.ensures.refusal c.in-Ok-codes_of.ensures.codes))
    (at_front_more c.put_results-end.ensures c.add_codes.ensures)
