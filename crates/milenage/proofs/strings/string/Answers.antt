-- `milenage::strings::string` meets its contract: 16 octets are taken.
-- Assumes nothing.
use borrow.Author.Tests.{eq-eqb, ne_eqb}
use mathlib.Core.Path.{refl}
use Rattle.milenage.specs.Calls.{is_string}
use Rattle.milenage.proofs.strings.string.Goals as goal

pub returns-in_default : goal.returns-in_default
unfolding is_string
returns-in_default c = (refl, ne_eqb _ 16 c.in_default.ensures.cases)

pub returns : goal.returns
unfolding is_string
returns c = let whole = c.in-Some.ensures.cases in (eq-eqb _ 16 whole.long, whole.same)
