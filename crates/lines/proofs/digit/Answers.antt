-- `lines::digit` meets its contract: `to_digit` finds the digits of the definition.
-- Assumes nothing.
use mathlib.Core.Path.{◌∙◌}
use Rattle.lines.proofs.Digits.{digit_found}
use Rattle.lines.proofs.digit.Goals as goal

pub returns : goal.returns
returns c = c.unwrap_or.ensures ∙ digit_found c.args.octet _ c.to_digit.ensures.value
