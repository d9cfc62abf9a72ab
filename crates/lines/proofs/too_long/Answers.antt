-- `lines::too_long` meets its contract.
-- Assumes nothing.
use mathlib.Core.Path.{refl}
use Rattle.lines.specs.Hearing.{too_long}
use Rattle.lines.proofs.too_long.Goals as goal

pub returns : goal.returns
unfolding too_long
returns c = refl
