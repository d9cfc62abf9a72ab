-- `challenge::form::ends_right` meets its contract: four fields, or six of which the last two are values.
-- Assumes nothing.
use Prim.Native.Nat.{ℕ}
use lib.Dec.{eqb}
use mathlib.Core.Path.{sym, ap, ◌∙◌}
use Rattle.challenge.proofs.Values.{ends_four, ends_six}
use Rattle.challenge.proofs.form.ends_right.Goals as goal

pub returns-then-count-ne6 : goal.returns-then-count-ne6
returns-then-count-ne6 c =
    let count-is = c.count_fields-count.ensures in
    ap (λ (n : ℕ). eqb n 4) count-is ∙ sym (ends_four _ (λ six. c.if-count-ne6.true (count-is ∙ six)))

pub returns-then-not-has_value : goal.returns-then-not-has_value
returns-then-not-has_value c =
    sym (ends_six _ (sym c.count_fields-count.ensures ∙ c.if-count-ne6.false) ∙ rw (sym c.has_value.ensures ∙ c.if-not-has_value.true))

pub returns : goal.returns
returns c =
    c.has_value-2.ensures
    ∙ sym (ends_six _ (sym c.count_fields-count.ensures ∙ c.if-count-ne6.false) ∙ rw (sym c.has_value.ensures ∙ c.if-not-has_value.false))
