-- `challenge::answers::codes_of` meets its contract: the calls are refused alike, and what each answers is its outcome.
-- Assumes nothing.
use lib.ListN.{replicate}
use Rattle.std.proofs.lemmas.Result.{err_from_is_err_and}
use Rattle.refusals.specs.Refusal.{first}
use Rattle.refusals.specs.Call.{outcome}
use Rattle.refusals.proofs.Calls.{is_outcome}
use Rattle.milenage.specs.Calls.{code_order, f1_call, f1_star_call}
use Rattle.challenge.specs.Calls.{codes_refusal, codes_of}
use Rattle.challenge.proofs.answers.codes_of.Goals as goal

pub returns-in_err-f1-clause-refusal : goal.returns-in_err-f1-clause-refusal
unfolding codes_refusal outcome first code_order
returns-in_err-f1-clause-refusal c =
    let p = err_from_is_err_and c.from_residual.result c.from_residual.ensures.1 in
    rw (p.1, p.2) c.in_err-f1.ensures.refusal_is

pub returns-in_err-f1_star-clause-refusal : goal.returns-in_err-f1_star-clause-refusal
unfolding codes_refusal outcome first code_order
returns-in_err-f1_star-clause-refusal c =
    let p = err_from_is_err_and c.from_residual-in_err-f1_star.result c.from_residual-in_err-f1_star.ensures.1 in
    rw (p.1, p.2) c.in_err-f1_star.ensures.refusal_is

pub returns : goal.returns
unfolding codes_of codes_refusal outcome
returns c =
    let given = c.args.given in
    let opc = c.args.opc.now in
    let network_is = is_outcome (f1_call given.key.now opc given.rand.now given.sqn.now given.amf.now (replicate 8 0)) c.in_ok-f1.ensures in
    let phone_is = is_outcome (f1_star_call given.key.now opc given.rand.now given.sqn.now given.amf.now (replicate 8 0)) c.in_ok-f1_star.ensures in
    record {
      refusal = c.in_ok-f1.ensures.refusal_is;
      codes = λ i. record { network = (network_is i).lent; phone = (phone_is i).lent };
    }
