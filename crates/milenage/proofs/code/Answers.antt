-- `milenage::code` meets its contract: each refusal is given where its cause holds and those before it do not, and else the half of OUT1 is put.
-- Assumes nothing.
use native.Mathlib.Omega.{arith}
use mathlib.Core.Path.{◌≡◌, refl, ap₂, ◌∙◌}
use mathlib.Core.List.{List}
use Prim.Native.Nat.{ℕ, ◌-◌}
use borrow.Author.Tests.{lt-ltb, le-ltb}
use lib.ListN.{take, drop}
use Rattle.refusals.specs.Refusal.{first}
use Rattle.refusals.specs.Call.{front}
use Rattle.milenage.specs.Milenage.{out1}
use Rattle.milenage.specs.Calls.{code_order}
use Rattle.milenage.proofs.Parts.{passed_on}
use Rattle.milenage.proofs.code.Goals as goal

pub returns-in_err-challenge : goal.returns-in_err-challenge
unfolding first code_order
returns-in_err-challenge c =
    rw (passed_on c.from_residual.ensures.1 c.in_err-challenge.ensures.0) record { refusal_is = rw c.in_err-challenge.ensures.1; numbers_are = refl; lent_is = refl }

pub returns-in_err-input : goal.returns-in_err-input
unfolding first code_order
returns-in_err-input c =
    rw (passed_on c.from_residual-in_err-input.ensures.1 c.in_err-input.ensures.0) record { refusal_is = rw (c.in_ok-challenge.ensures.0, c.in_err-input.ensures.1); numbers_are = refl; lent_is = refl }

pub returns-then-output-lt8 : goal.returns-then-output-lt8
unfolding first code_order
returns-then-output-lt8 c = record {
  refusal_is = rw (c.in_ok-challenge.ensures.0, c.in_ok-input.ensures.0, lt-ltb _ 8 c.if-output-lt8.true);
  numbers_are = refl;
  lent_is = refl;
}

pub returns : goal.returns
unfolding first code_order
returns c =
    let given = c.args in
    let all : given.part.end - given.part.start ≡ 8 = omega arith in
    let taken = c.in_ok-challenge.ensures.1 in
    let string : c.out1.result ≡ out1 given.key.now given.opc.now given.rand.now given.sqn.now given.amf.now =
    c.out1.ensures given.sqn.now given.amf.now c.in_ok-input.ensures.1 ∙ λ i. out1 (taken.0 i) (taken.1.0 i) (taken.1.1 i) given.sqn.now given.amf.now in
    record {
      refusal_is = rw (c.in_ok-challenge.ensures.0, c.in_ok-input.ensures.0, le-ltb _ 8 c.if-output-lt8.false);
      numbers_are = refl;
      lent_is = c.put.ensures ∙ ap₂ (λ (n : ℕ) (l : List ℕ). front (take n (drop given.part.start l)) given.output.now) all string;
    }
