-- `walk::walks::step` meets its contract: a bad line, and what the numbering answers to a good one.
-- Assumes nothing.
use mathlib.Core.Path.{ap, ◌∙◌}
use Rattle.std.specs.Prelude.{Err}
use Rattle.refusals.specs.declared.Refused.{Refused}
use Rattle.walk.specs.Answer.{as_outcome}
use Rattle.walk.proofs.Answers.{outcome_bad, outcome_good}
use Rattle.walk.proofs.walks.step.Goals as goal

pub returns-in_default : goal.returns-in_default
returns-in_default c =
    ap (λ (refused : Refused). as_outcome (Err refused) c.args.numbering.now) c.from.ensures ∙ outcome_bad c.args.numbering.now c.in_default.is

pub returns : goal.returns
returns c = outcome_good c.args.numbering.now _ c.in-Some.is c.number.ensures.answer
