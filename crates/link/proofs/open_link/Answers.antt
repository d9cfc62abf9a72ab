-- `link::open_link` meets its contract: each refusal is given where its cause is the first that holds, and else the link has the prepared key.
-- Assumes nothing.
use Rattle.std.proofs.Common.{◌≡◌, false, sym, refl, ◌∙◌}
use borrow.Author.Tests.{eqb-false}
use Rattle.std.proofs.lemmas.Result.{err_from_is_err_and}
use Rattle.refusals.specs.Number.{number_of}
use Rattle.refusals.specs.Refusal.{first}
use Rattle.refusals.proofs.Number.{number_some}
use Rattle.refusals.proofs.Calls.{refused}
use Rattle.keystreams.specs.Key.{is_key, key_order}
use Rattle.keystreams.proofs.Keys.{prepare_done, prepare_refused}
use Rattle.link.specs.Link.{link_can_arise, link_order, link_of, open_link_call}
use Rattle.link.proofs.open_link.Goals as goal

pub returns-in_err-prepare_key : goal.returns-in_err-prepare_key
unfolding first key_order link_order
returns-in_err-prepare_key c =
    let given = c.args in
    let refusal = c.in_err-prepare_key.field-0.0 in
    let p = err_from_is_err_and c.from_residual.result c.from_residual.ensures.1 in
    let no_key : is_key given.key.now ≡ false = prepare_refused given.key.now c.in_err-prepare_key.ensures (number_some refusal) in
    let named : number_of refusal ≡ 1 = c.in_err-prepare_key.ensures.refusal_is ∙ rw no_key in
    rw (p.1, p.2, named) (refused (open_link_call given.key.now given.iov given.sapi given.direction) 1 (rw no_key) (eqb-false 1 0 refl))

pub returns-then-not-can_arise : goal.returns-then-not-can_arise
unfolding first link_order link_can_arise
returns-then-not-can_arise c =
    let given = c.args in
    let key_is = (prepare_done given.key.now c.in_ok-prepare_key.ensures refl).0 in
    refused (open_link_call given.key.now given.iov given.sapi given.direction) 2
    (simp (key_is, sym c.can_arise.ensures ∙ c.if-not-can_arise.true)) (eqb-false 2 0 refl)

pub returns : goal.returns
unfolding first link_order link_of link_can_arise
returns c =
    let given = c.args in
    let done = prepare_done given.key.now c.in_ok-prepare_key.ensures refl in
    record {
      refusal_is = simp (done.0, sym c.can_arise.ensures ∙ c.if-not-can_arise.false);
      numbers_are = refl;
      lent_is = λ i. record { key = done.1 i; iov = given.iov; sapi = given.sapi; direction = given.direction };
    }
