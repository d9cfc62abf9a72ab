-- `milenage::strings::Challenge::new` meets its contract: each of the three is taken, or the first that is not is refused.
-- Assumes nothing.
use mathlib.Core.Path.{refl}
use Rattle.milenage.proofs.Parts.{passed_on}
use Rattle.milenage.proofs.strings.Challenge.new.Goals as goal

pub returns-in_err-key : goal.returns-in_err-key
returns-in_err-key c =
    rw (passed_on c.from_residual.ensures.1 c.in_err-key.ensures.0) (refl, rw c.in_err-key.ensures.1)

pub returns-in_err-opc : goal.returns-in_err-opc
returns-in_err-opc c =
    rw (passed_on c.from_residual-in_err-opc.ensures.1 c.in_err-opc.ensures.0) (refl, rw (c.in_ok-key.ensures.0, c.in_err-opc.ensures.1))

pub returns-in_err-rand : goal.returns-in_err-rand
returns-in_err-rand c =
    rw (passed_on c.from_residual-in_err-rand.ensures.1 c.in_err-rand.ensures.0) (refl, rw (c.in_ok-key.ensures.0, c.in_ok-opc.ensures.0, c.in_err-rand.ensures.1))

pub returns : goal.returns
returns c =
    (rw (c.in_ok-key.ensures.0, c.in_ok-opc.ensures.0, c.in_ok-rand.ensures.0), (c.in_ok-key.ensures.1, (c.in_ok-opc.ensures.1, c.in_ok-rand.ensures.1)))
