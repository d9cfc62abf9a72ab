-- `lines::silence` meets its contract.
-- Assumes nothing.
use mathlib.Core.Path.{refl}
use Rattle.lines.specs.Hearing.{silence}
use Rattle.lines.proofs.silence.Goals as goal

pub returns : goal.returns
unfolding silence
returns c = refl
