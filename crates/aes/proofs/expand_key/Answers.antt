-- `aes::expand_key` meets its contract: its one test is the refusal's cause.
-- Assumes nothing.
use Prim.Native.Nat.{ℕ}
use borrow.Author.Tests.{eq-eqb, ne_eqb}
use mathlib.Core.List.{List}
use mathlib.Core.Path.{refl, ap, ◌∙◌}
use Rattle.refusals.specs.Refusal.{first}
use Rattle.aes.specs.Aes.{expanded, expand_key_order}
use Rattle.aes.proofs.expand_key.Goals as goal

pub returns-in_default : goal.returns-in_default
unfolding first expand_key_order
returns-in_default c = record { refusal_is = rw (ne_eqb _ 16 c.in_default.ensures.cases); numbers_are = refl; lent_is = refl }

pub returns : goal.returns
unfolding first expand_key_order
returns c =
    let whole = c.in-Some.ensures.cases in
    record { refusal_is = rw (eq-eqb _ 16 whole.long); numbers_are = refl; lent_is = c.expanded.ensures ∙ ap (λ (l : List ℕ). expanded l 44) whole.same }
