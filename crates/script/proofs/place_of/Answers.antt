-- `script::place_of` meets its contract.
-- Assumes nothing.
use native.Mathlib.Omega.{arith}
use Rattle.script.proofs.Lines.{place_digit, place_below, place_above}
use Rattle.script.proofs.place_of.Goals as goal

pub returns-in-48-to-57 : goal.returns-in-48-to-57
returns-in-48-to-57 c = place_digit _ (omega arith) (omega arith)

pub returns-in_default : goal.returns-in_default
returns-in_default c = place_below _ (omega arith)

pub returns-in_default-2 : goal.returns-in_default-2
returns-in_default-2 c = place_above _ (omega arith)
