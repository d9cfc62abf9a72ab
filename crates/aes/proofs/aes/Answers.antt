-- `aes::aes` meets its contract: its tests are the refusals' causes, in their order, and else the encrypted block is copied to the front of the output.
-- Assumes nothing.
use borrow.Author.Tests.{eq-eqb, ne_eqb, lt-ltb, le-ltb}
use Prim.Native.Nat.{ℕ}
use native.Mathlib.Omega.{arith}
use mathlib.Core.Path.{◌≡◌, refl, ap, ap₂, ◌∙◌}
use mathlib.Core.List.{List, ◌++◌}
use lib.ListN.{length, drop, length-take}
use Rattle.refusals.specs.Refusal.{first}
use Rattle.refusals.specs.Call.{front}
use Rattle.aes.specs.Aes.{aes, aes_order, cipher, expanded}
use Rattle.aes.proofs.aes.Goals as goal

pub returns-in_default : goal.returns-in_default
unfolding first aes_order
returns-in_default c = record { refusal_is = rw (ne_eqb _ 16 c.in_default.ensures.cases); numbers_are = refl; lent_is = refl }

pub returns-in_default-as_array : goal.returns-in_default-as_array
unfolding first aes_order
returns-in_default-as_array c =
    record { refusal_is = rw (eq-eqb _ 16 c.in-Some.ensures.cases.long, ne_eqb _ 16 c.in_default-as_array.ensures.cases); numbers_are = refl; lent_is = refl }

pub returns-then-output-lt16 : goal.returns-then-output-lt16
unfolding first aes_order
returns-then-output-lt16 c =
    record {
      refusal_is = rw (eq-eqb _ 16 c.in-Some.ensures.cases.long, eq-eqb _ 16 c.in-Some-as_array.ensures.cases.long, lt-ltb _ 16 c.if-output-lt16.true);
      numbers_are = refl;
      lent_is = refl;
    }

pub returns : goal.returns
unfolding first aes_order aes front
returns c =
    let before : List ℕ = c.args.output.now in
    let key = c.in-Some.ensures.cases in
    let block = c.in-Some-as_array.ensures.cases in
    let long : 16 ≡ length c.encrypted-encrypted.result = omega (arith, ap length c.copy_from_slice.ensures.after, c.copy_from_slice.ensures.len, length-take 16 before) in
    record {
      refusal_is = rw (eq-eqb _ 16 key.long, eq-eqb _ 16 block.long, le-ltb _ 16 c.if-output-lt16.false);
      numbers_are = refl;
      lent_is =
          ap (λ (l : List ℕ). l ++ drop 16 before) c.copy_from_slice.ensures.after
          ∙ ap (λ (n : ℕ). c.encrypted-encrypted.result ++ drop n before) long
          ∙ ap (λ (l : List ℕ). l ++ drop (length l) before)
          (c.encrypted-encrypted.ensures ∙ ap₂ cipher (c.expanded.ensures ∙ ap (λ (l : List ℕ). expanded l 44) key.same) block.same);
    }
