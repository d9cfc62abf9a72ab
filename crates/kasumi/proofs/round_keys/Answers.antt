-- `kasumi::round_keys` meets its contract: the length of the key is the refusal's cause.
-- Assumes nothing.
use mathlib.Core.List.{List}
use mathlib.Core.Path.{refl, ap, ◌∙◌}
use Prim.Native.Nat.{ℕ}
use borrow.Author.Tests.{eq-eqb, ne_eqb}
use lib.ListN.{length}
use Rattle.refusals.specs.Refusal.{first}
use Rattle.kasumi.specs.Kasumi.{kasumi_order}
use Rattle.kasumi.specs.Lent.{round_words}
use Rattle.kasumi.proofs.round_keys.Goals as goal

pub returns-in_default : goal.returns-in_default
unfolding first kasumi_order
returns-in_default c = record { refusal_is = rw (ne_eqb (length c.args.key.now) 16 c.in_default.ensures.1); numbers_are = refl; lent_is = refl }

pub returns : goal.returns
unfolding first kasumi_order
returns c =
    let whole = c.in-Ok.ensures.1 in
    record {
      refusal_is = rw (eq-eqb (length c.args.key.now) 16 whole.long);
      numbers_are = refl;
      lent_is = c.keys_of_rounds.ensures ∙ ap (λ (key : List ℕ). round_words key 8) whole.same;
    }
