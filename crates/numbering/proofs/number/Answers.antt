-- `numbering::number` meets its contract: each refusal is the first row of the order that holds, and past them all the number is accepted.
-- Assumes nothing.
use borrow.Author.Tests.{eqb-false}
use mathlib.Core.Path.{refl, sym, ap, subst, ◌∙◌}
use mathlib.Core.List.{[], ◌∷◌}
use Prim.Native.Nat.{ℕ, ◌+◌, ◌-◌, ◌<◌}
use native.Mathlib.Omega.{arith}
use lib.Dec.{lit≤}
use Rattle.refusals.specs.Call.{Answered}
use Rattle.refusals.proofs.Calls.{refused}
use Rattle.numbering.specs.Numbering.{width, end, first_from, accepted, number_call}
use Rattle.numbering.proofs.Step.{Candidated, step_12, step_2, step_9, step_10, step_11, step_0, number_is, number_not_below}
use Rattle.numbering.proofs.number.Goals.{In-Some}
use Rattle.numbering.proofs.number.Goals as goal

-- past the third test there is a number
numbered : (c : In-Some) → Candidated width c.args.numbering.now c.args.sent c.in-Some.number
numbered c = record {
  can = sym c.can_arise.ensures ∙ c.if-not-can_arise.false;
  sent = c.if-sent-gt511.false;
  raised = omega (arith, c.raised.ensures, c.in-Some.ensures);
}

pub returns-then-not-can_arise-clause-answer : goal.returns-then-not-can_arise-clause-answer
returns-then-not-can_arise-clause-answer c =
    let state = c.args.numbering.now in
    let N : ℕ = c.args.sent in
    rw c.into.ensures (refused (number_call width state N) 12 (step_12 width state N (sym c.can_arise.ensures ∙ c.if-not-can_arise.true)) (eqb-false 12 0 refl))

pub returns-then-sent-gt511-clause-answer : goal.returns-then-sent-gt511-clause-answer
returns-then-sent-gt511-clause-answer c =
    let state = c.args.numbering.now in
    let N : ℕ = c.args.sent in
    let can = sym c.can_arise.ensures ∙ c.if-not-can_arise.false in
    rw c.into-then-sent-gt511.ensures (refused (number_call width state N) 2 (step_2 width state N can c.if-sent-gt511.true) (eqb-false 2 0 refl))

pub returns-in_default-clause-answer : goal.returns-in_default-clause-answer
returns-in_default-clause-answer c =
    let state = c.args.numbering.now in
    let N : ℕ = c.args.sent in
    let can = sym c.can_arise.ensures ∙ c.if-not-can_arise.false in
    let below : first_from (state.next + (512 - width)) N < 512 = omega (arith, c.raised.ensures, c.in_default.ensures) in
    rw c.into-in_default.ensures
    (refused (number_call width state N) 9 (step_9 width (lit≤ tt) state N can c.if-sent-gt511.false below) (eqb-false 9 0 refl))

pub returns-then-number-ge-END-clause-answer : goal.returns-then-number-ge-END-clause-answer
unfolding end
returns-then-number-ge-END-clause-answer c =
    let state = c.args.numbering.now in
    let N : ℕ = c.args.sent in
    let at = numbered (goal.at.returns-then-number-ge-END-clause-answer c).In-Some in
    rw c.into-then-number-ge-END.ensures
    (refused (number_call width state N) 10 (step_10 width (lit≤ tt) state N at c.if-number-ge-END.true) (eqb-false 10 0 refl))

pub is_accepted-requires : goal.is_accepted-requires
is_accepted-requires c = number_not_below width (lit≤ tt) c.args.numbering.now c.args.sent (numbered (goal.at.is_accepted-requires c).In-Some)

pub returns-then-is_accepted-clause-answer : goal.returns-then-is_accepted-clause-answer
unfolding end
returns-then-is_accepted-clause-answer c =
    let state = c.args.numbering.now in
    let N : ℕ = c.args.sent in
    let at = numbered (goal.at.returns-then-is_accepted-clause-answer c).In-Some in
    let again = sym c.is_accepted.ensures ∙ c.if-is_accepted.true in
    subst (λ (n : ℕ). Answered (number_call width state N) 11 (n ∷ []) state) (sym (number_is width (lit≤ tt) state N at))
    (refused (number_call width state N) 11 (step_11 width (lit≤ tt) state N at c.if-number-ge-END.false again) (eqb-false 11 0 refl))

pub accept-requires : goal.accept-requires
unfolding end
accept-requires c = (c.if-number-ge-END.false, number_not_below width (lit≤ tt) c.args.numbering.now c.args.sent (numbered (goal.at.accept-requires c).In-Some))

pub returns-clause-answer : goal.returns-clause-answer
unfolding end
returns-clause-answer c =
    let state = c.args.numbering.now in
    let N : ℕ = c.args.sent in
    let at = numbered (goal.at.returns-clause-answer c).In-Some in
    let candidate_is = number_is width (lit≤ tt) state N at in
    record {
      refusal_is = sym (step_0 width (lit≤ tt) state N at c.if-number-ge-END.false (sym c.is_accepted.ensures ∙ c.if-is_accepted.false));
      numbers_are = ap (λ (n : ℕ). n ∷ []) candidate_is;
      lent_is = c.accept.ensures ∙ ap (accepted width state) candidate_is;
    }
