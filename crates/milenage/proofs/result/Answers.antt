-- `milenage::result` meets its contract: each refusal is given where its cause holds and those before it do not, and else the part of the output is put.
-- Assumes nothing.
use mathlib.Core.Path.{◌≡◌, refl, ap, ◌∙◌}
use mathlib.Core.List.{List}
use Prim.Native.Nat.{ℕ, ◌-◌}
use borrow.Author.Tests.{lt-ltb, le-ltb}
use lib.ListN.{take, drop}
use Rattle.refusals.specs.Refusal.{first}
use Rattle.refusals.specs.Call.{front}
use Rattle.milenage.specs.Milenage.{Fixed, out}
use Rattle.milenage.specs.Calls.{result_order}
use Rattle.milenage.proofs.Parts.{passed_on}
use Rattle.milenage.proofs.result.Goals as goal

pub returns-in_err-challenge : goal.returns-in_err-challenge
unfolding first result_order
returns-in_err-challenge c =
    rw (passed_on c.from_residual.ensures.1 c.in_err-challenge.ensures.0) record { refusal_is = rw c.in_err-challenge.ensures.1; numbers_are = refl; lent_is = refl }

pub returns-then-output-part : goal.returns-then-output-part
unfolding first result_order
returns-then-output-part c =
    record { refusal_is = rw (c.in_ok-challenge.ensures.0, lt-ltb _ _ c.if-output-part.true); numbers_are = refl; lent_is = refl }

pub returns : goal.returns
unfolding first result_order
returns c =
    let given = c.args in
    let fixed : Fixed = record { rotation = given.of.rotation; constant = given.of.constant } in
    let taken = c.in_ok-challenge.ensures.1 in
    let string : c.out.result ≡ out fixed given.key.now given.opc.now given.rand.now =
    c.out.ensures ∙ λ i. out fixed (taken.0 i) (taken.1.0 i) (taken.1.1 i) in
    record {
      refusal_is = rw (c.in_ok-challenge.ensures.0, le-ltb _ _ c.if-output-part.false);
      numbers_are = refl;
      lent_is = c.put.ensures ∙ ap (λ (l : List ℕ). front (take (given.part.end - given.part.start) (drop given.part.start l)) given.output.now) string;
    }
