-- `challenge::answers::results_of` meets its contract: the calls are refused alike, and what each answers is its outcome.
-- Assumes nothing.
use lib.ListN.{replicate}
use Rattle.std.proofs.lemmas.Result.{err_from_is_err_and}
use Rattle.refusals.specs.Refusal.{first}
use Rattle.refusals.specs.Call.{outcome}
use Rattle.refusals.proofs.Calls.{is_outcome}
use Rattle.milenage.specs.Calls.{result_order, f2_call, f3_call, f4_call, f5_call}
use Rattle.challenge.specs.Calls.{results_refusal, results_of}
use Rattle.challenge.proofs.answers.results_of.Goals as goal

pub returns-in_err-f2-clause-refusal : goal.returns-in_err-f2-clause-refusal
unfolding results_refusal outcome first result_order
returns-in_err-f2-clause-refusal c =
    let p = err_from_is_err_and c.from_residual.result c.from_residual.ensures.1 in
    rw (p.1, p.2) c.in_err-f2.ensures.refusal_is

pub returns-in_err-f3-clause-refusal : goal.returns-in_err-f3-clause-refusal
unfolding results_refusal outcome first result_order
returns-in_err-f3-clause-refusal c =
    let p = err_from_is_err_and c.from_residual-in_err-f3.result c.from_residual-in_err-f3.ensures.1 in
    rw (p.1, p.2) c.in_err-f3.ensures.refusal_is

pub returns-in_err-f4-clause-refusal : goal.returns-in_err-f4-clause-refusal
unfolding results_refusal outcome first result_order
returns-in_err-f4-clause-refusal c =
    let p = err_from_is_err_and c.from_residual-in_err-f4.result c.from_residual-in_err-f4.ensures.1 in
    rw (p.1, p.2) c.in_err-f4.ensures.refusal_is

pub returns-in_err-f5-clause-refusal : goal.returns-in_err-f5-clause-refusal
unfolding results_refusal outcome first result_order
returns-in_err-f5-clause-refusal c =
    let p = err_from_is_err_and c.from_residual-in_err-f5.result c.from_residual-in_err-f5.ensures.1 in
    rw (p.1, p.2) c.in_err-f5.ensures.refusal_is

pub returns : goal.returns
unfolding results_of results_refusal outcome
returns c =
    let key = c.args.key.now in
    let opc = c.args.opc.now in
    let rand = c.args.rand.now in
    let res_is = is_outcome (f2_call key opc rand (replicate 8 0)) c.in_ok-f2.ensures in
    let ck_is = is_outcome (f3_call key opc rand (replicate 16 0)) c.in_ok-f3.ensures in
    let ik_is = is_outcome (f4_call key opc rand (replicate 16 0)) c.in_ok-f4.ensures in
    let ak_is = is_outcome (f5_call key opc rand (replicate 6 0)) c.in_ok-f5.ensures in
    record {
      refusal = c.in_ok-f2.ensures.refusal_is;
      results = λ i. record { res = (res_is i).lent; ck = (ck_is i).lent; ik = (ik_is i).lent; ak = (ak_is i).lent };
    }
