-- `lines::digits_of` meets its contract: a tenth has a digit less.
-- Assumes nothing.
use Prim.Native.Nat.{◌/◌}
use mathlib.Core.Path.{sym, ap}
use native.Mathlib.Omega.{arith}
use lib.ListN.{length}
use Rattle.lines.proofs.InDecimal.{decimal_one, length-decimal_text, length_more}
use Rattle.lines.proofs.+digits_of.Goals as goal

pub returns-then-number-lt10 : goal.returns-then-number-lt10
returns-then-number-lt10 t c = ap length (sym (decimal_one _ c.if-number-lt10.true))

pub overflow_add-result : goal.overflow_add-result
overflow_add-result t c = omega (arith, c.digits_of.ensures, length-decimal_text (c.args.number / 10))

pub returns : goal.returns
returns t c = omega (arith, c.digits_of.ensures, length_more c.args.number (omega arith) (omega arith))
