-- `stored::store_sender` meets its contract: the refusals of telling the reservation, then that of the room, and else the form is put.
-- Assumes nothing.
use mathlib.Core.Path.{refl, sym, ◌∙◌}
use borrow.Author.Tests.{eqb-false}
use Rattle.std.proofs.lemmas.Result.{err_from_is_err_and}
use Rattle.refusals.specs.declared.Refusal.{Refusal}
use Rattle.refusals.specs.Number.{number_of}
use Rattle.refusals.proofs.Number.{number_some}
use Rattle.refusals.proofs.Calls.{refused}
use Rattle.stored.specs.Ends.{sender_form, store_sender_call}
use Rattle.stored.proofs.Answers.{store_sender_told, store_sender_4, store_sender_0}
use Rattle.stored.proofs.store_sender.Goals as goal

pub returns-in_err-reserve : goal.returns-in_err-reserve
returns-in_err-reserve c =
    let given = c.args in
    let told = err_from_is_err_and c.from_residual.result c.from_residual.ensures.1 in
    let refusal : Refusal = c.in_err-reserve.field-0.0 in
    let asked = c.in_err-reserve.ensures.refusal_is in
    rw (told.1, told.2)
    (refused (store_sender_call given.sender given.reserved given.output.now) (number_of refusal)
    (store_sender_told given.sender given.reserved given.output.now (λ none. number_some refusal (asked ∙ none)) ∙ sym asked)
    (number_some refusal))

pub returns-then-output-lt-SENDER_SIZE : goal.returns-then-output-lt-SENDER_SIZE
returns-then-output-lt-SENDER_SIZE c =
    let given = c.args in
    refused (store_sender_call given.sender given.reserved given.output.now) 4
    (store_sender_4 given.sender given.reserved given.output.now (sym c.in_ok-reserve.ensures.refusal_is) c.if-output-lt-SENDER_SIZE.true)
    (eqb-false 4 0 refl)

pub returns : goal.returns
unfolding sender_form
returns c =
    let given = c.args in
    record {
      refusal_is = sym (store_sender_0 given.sender given.reserved given.output.now (sym c.in_ok-reserve.ensures.refusal_is) c.if-output-lt-SENDER_SIZE.false);
      numbers_are = refl;
      lent_is = c.put_form.ensures;
    }
