-- `milenage::opc` meets its contract: each refusal is given where its cause holds and those before it do not, and else OPc is put.
-- Assumes nothing.
use mathlib.Core.Path.{refl, ap, ap₂, ◌∙◌}
use mathlib.Core.List.{List}
use Prim.Native.Nat.{ℕ}
use borrow.Author.Tests.{lt-ltb, le-ltb}
use Rattle.refusals.specs.Refusal.{first}
use Rattle.refusals.specs.Call.{front}
use Rattle.milenage.specs.Calls.{opc_order}
use Rattle.milenage.specs.Milenage.{opc_of}
use Rattle.milenage.proofs.Parts.{passed_on}
use Rattle.milenage.proofs.opc.Goals as goal

pub returns-in_err-key : goal.returns-in_err-key
unfolding first opc_order
returns-in_err-key c =
    rw (passed_on c.from_residual.ensures.1 c.in_err-key.ensures.0) record { refusal_is = rw c.in_err-key.ensures.1; numbers_are = refl; lent_is = refl }

pub returns-in_err-op : goal.returns-in_err-op
unfolding first opc_order
returns-in_err-op c =
    rw (passed_on c.from_residual-in_err-op.ensures.1 c.in_err-op.ensures.0) record { refusal_is = rw (c.in_ok-key.ensures.0, c.in_err-op.ensures.1); numbers_are = refl; lent_is = refl }

pub returns-then-output-lt16 : goal.returns-then-output-lt16
unfolding first opc_order
returns-then-output-lt16 c = record {
  refusal_is = rw (c.in_ok-key.ensures.0, c.in_ok-op.ensures.0, lt-ltb _ 16 c.if-output-lt16.true);
  numbers_are = refl;
  lent_is = refl;
}

pub returns : goal.returns
unfolding first opc_order
returns c = record {
  refusal_is = rw (c.in_ok-key.ensures.0, c.in_ok-op.ensures.0, le-ltb _ 16 c.if-output-lt16.false);
  numbers_are = refl;
  lent_is =
      c.put.ensures
      ∙ ap (λ (string : List ℕ). front string c.args.output.now) (c.opc.ensures ∙ ap₂ opc_of c.in_ok-key.ensures.1 c.in_ok-op.ensures.1);
}
