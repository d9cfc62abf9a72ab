-- `stored::restore_receiver` meets its contract: each refusal is given where its cause is the first that holds, and else the receiver is the one that
-- the form holds.
-- Assumes nothing.
use Prim.Native.Nat.{ℕ}
use mathlib.Core.Path.{◌≡◌, refl, sym, ◌∙◌}
use mathlib.Core.Bool.{false, true}
use mathlib.Core.List.{List}
use borrow.Author.Tests.{eqb-false}
use Rattle.std.proofs.lemmas.Result.{err_from_is_err_and}
use Rattle.refusals.specs.declared.Refusal.{Refusal}
use Rattle.refusals.specs.Number.{number_of}
use Rattle.refusals.proofs.Number.{number_some}
use Rattle.refusals.proofs.Calls.{refused}
use Rattle.numbering.specs.Numbering.{width}
use Rattle.receiver.specs.Receiver.{receiver_can_arise}
use Rattle.stored.specs.Form.{word_in}
use Rattle.stored.specs.Ends.{receiver_in, restore_receiver_order, restore_receiver_call}
use Rattle.stored.proofs.Answers.{restore_form, restore_12, restore_0}
use Rattle.stored.proofs.restore_receiver.Goals as goal

pub returns-in_err-form_refusal : goal.returns-in_err-form_refusal
unfolding restore_receiver_order
returns-in_err-form_refusal c =
    let octets : List ℕ = c.args.octets.now in
    let told = err_from_is_err_and c.from_residual.result c.from_residual.ensures.1 in
    let refusal : Refusal = c.in_err-form_refusal.field-0.0 in
    let asked = c.in_err-form_refusal.ensures in
    rw (told.1, told.2)
    (refused (restore_receiver_call width octets) (number_of refusal)
    (restore_form 2 octets (receiver_can_arise width (receiver_in octets)) (λ none. number_some refusal (asked ∙ none)) ∙ sym asked)
    (number_some refusal))

pub returns-then-not-can_arise : goal.returns-then-not-can_arise
unfolding restore_receiver_order receiver_in word_in
returns-then-not-can_arise c =
    let octets : List ℕ = c.args.octets.now in
    let cannot : receiver_can_arise width (receiver_in octets) ≡ false = cc in
    refused (restore_receiver_call width octets) 12 (restore_12 2 octets _ (sym c.in_ok-form_refusal.ensures) cannot) (eqb-false 12 0 refl)

pub returns : goal.returns
unfolding restore_receiver_order receiver_in word_in
returns c =
    let octets : List ℕ = c.args.octets.now in
    let can : receiver_can_arise width (receiver_in octets) ≡ true = cc in
    record { refusal_is = sym (restore_0 2 octets _ (sym c.in_ok-form_refusal.ensures) can); numbers_are = refl; lent_is = cc }
