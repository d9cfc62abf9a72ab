-- `kasumi::kasumi` meets its contract: it is refused where the round keys are, and by the table and the round keys it computes KASUMI.
-- Assumes nothing.
use Rattle.std.proofs.Common.{rules}
use Prim.Native.Nat.{ℕ}
use mathlib.Core.Path.{refl, ap, ap₂, ◌∙◌}
use mathlib.Core.List.{List, [], ◌∷◌}
use native.Mathlib.Omega.{arith}
use Rattle.octets.specs.Octets.{AreOctets}
use Rattle.kasumi.specs.Lent.{ciphered_by}
use Rattle.kasumi.proofs.Calling.{keys_refused}
use Rattle.kasumi.proofs.Lent.{ciphered_kasumi}
use Rattle.kasumi.proofs.kasumi.Goals as goal

pub returns-in_err-words : goal.returns-in_err-words
returns-in_err-words c = keys_refused c.args.key.now c.args.block c.in_err-words.field-0.0 c.in_err-words.ensures (search rules)

pub returns : goal.returns
returns c =
    let given = c.args in
    let key : List ℕ = given.key.now in
    let octets : AreOctets key = λ i. omega (arith, c.type_inv.key i) in
    record {
      refusal_is = c.in_ok-words.ensures.refusal_is;
      numbers_are = ap (λ (x : ℕ). x ∷ [])
          (c.cipher_block.ensures
          ∙ ap₂ (λ (table words : List ℕ). ciphered_by table words given.block) c.fi_table-table.ensures c.in_ok-words.ensures.lent_is
          ∙ ciphered_kasumi key octets given.block (omega arith));
      lent_is = refl;
    }
