-- `octets::xor` meets its contract: each turn of the loop puts the next octet.
-- Assumes nothing.
use Prim.Native.Nat.{ℕ, ◌<◌}
use native.Mathlib.Omega.{arith}
use mathlib.Core.Path.{refl, sym, ap, ap₂, ◌∙◌}
use mathlib.Core.List.{List, ◌++◌}
use borrow.Author.Tests.{lt-ltb, le-ltb}
use lib.Bits.{bit_xor}
use lib.ListN.{length, get_or, set, drop}
use Rattle.refusals.specs.Refusal.{first}
use Rattle.refusals.specs.Call.{front}
use Rattle.octets.specs.Bits.{listed}
use Rattle.octets.specs.Xor.{xored, xor_order}
use Rattle.octets.proofs.Listed.{listed_store}
use Rattle.octets.proofs.Xored.{length-xored}
use Rattle.octets.proofs.xor.Invariants.{at}
use Rattle.octets.proofs.xor.Goals as goal

pub returns-then-output-source : goal.returns-then-output-source
unfolding first xor_order
returns-then-output-source c =
    let given = c.args in
    record { refusal_is = rw (lt-ltb (length given.output.now) (length given.source.now) (omega arith)); numbers_are = refl; lent_is = refl }

pub loop-i-init : goal.loop-i-init
unfolding listed
loop-i-init c = refl

pub loop-i-preserved : goal.loop-i-preserved
loop-i-preserved c =
    let given = c.args in
    let source : List ℕ = given.source.now in
    let stream : List ℕ = given.stream.now in
    let i : ℕ = c.loop-i.i in
    let room : i < length given.output.now = omega arith in
    ap₂ (λ (l : List ℕ) (x : ℕ). set l i (bit_xor (get_or source i 0) x)) c.loop-i.invariant c.octet_or_zero.ensures
    ∙ listed_store (at source stream) given.output.now i room

pub returns : goal.returns
unfolding first xor_order xored front
returns c =
    let given = c.args in
    let source : List ℕ = given.source.now in
    let stream : List ℕ = given.stream.now in
    let before : List ℕ = given.output.now in
    record {
      refusal_is = rw (le-ltb (length before) (length source) (omega arith));
      numbers_are = refl;
      lent_is =
          c.loop-i.invariant
          ∙ ap (λ (i : ℕ). listed (at source stream) i ++ drop i before) {y = length source} (omega arith)
          ∙ ap (λ (n : ℕ). listed (at source stream) (length source) ++ drop n before) (sym (length-xored source stream));
    }
