-- `challenge::form::count_fields` meets its contract: a line has one field more than spaces.
-- Assumes nothing.
use Prim.Native.Nat.{ℕ, ◌+◌}
use borrow.Author.Tests.{tests}
use lib.Dec.{eqb}
use mathlib.Core.Path.{ap, ◌∙◌}
use Rattle.std.proofs.Common.{rules}
use Rattle.std.proofs.lemmas.Iterator.{YieldsList-from_slice}
use Rattle.std.proofs.lemmas.Iterator.Consumers.{YieldsList-from_filter, count_from_yields_List}
use Rattle.challenge.proofs.Fields.{fields_count}
use Rattle.challenge.proofs.form.count_fields.Goals as goal

pub returns : goal.returns
returns c =
    ap (λ (n : ℕ). 1 + n)
    (count_from_yields_List c.filter.result _ c.count.ensures.ran
    (YieldsList-from_filter _ (λ (octet : ℕ). eqb octet 32) (YieldsList-from_slice c.args.line.now (cc)) c.filter.ensures.closure (λ x r q k. search (rules, tests))))
    ∙ fields_count c.args.line.now
