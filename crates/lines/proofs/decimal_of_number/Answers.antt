-- `lines::decimal_of_number` meets its contract: there is room for the digits, or there is none.
-- Assumes nothing.
use native.Mathlib.Omega.{arith}
use Rattle.lines.proofs.Text.{put_short, put_fits}
use Rattle.lines.proofs.decimal_of_number.Goals as goal

pub returns-then-output-digits_of : goal.returns-then-output-digits_of
returns-then-output-digits_of c = put_short _ _ _ (omega (arith, c.digits_of.ensures))

pub returns : goal.returns
returns c = put_fits _ _ (omega (arith, c.digits_of.ensures)) c.put_digits.ensures
