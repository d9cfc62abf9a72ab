-- `script::count_of` meets its contract: a number of at most three digits.
-- Assumes nothing.
use mathlib.Core.Path.{◌∙◌}
use native.Mathlib.Omega.{arith}
use Rattle.lines.proofs.Callers.{number_none, number_read}
use Rattle.script.proofs.Lines.{unread, is_read, count_long, count_none, count_fits, count_read}
use Rattle.script.proofs.count_of.Goals as goal

pub returns-then-text-gt3 : goal.returns-then-text-gt3
returns-then-text-gt3 c = count_long _ c.if-text-gt3.true

pub returns-in_err-count : goal.returns-in_err-count
returns-in_err-count c =
    c.from_residual.ensures ∙ count_none _ c.if-text-gt3.false (number_none 10 10 _ c.decimal.ensures (unread _ c.in_err-count.ensures.value))

pub overflow_cast-result : goal.overflow_cast-result
overflow_cast-result c =
    let some = is_read _ c.in_ok-count.ensures.value in
    let read = number_read 10 10 _ c.decimal.ensures some.0 in
    omega (arith, count_fits c.args.text.now c.if-text-gt3.false (read.0, some.1 ∙ read.1))

pub returns : goal.returns
returns c =
    let some = is_read _ c.in_ok-count.ensures.value in
    let read = number_read 10 10 _ c.decimal.ensures some.0 in
    count_read _ c.if-text-gt3.false (read.0, some.1 ∙ read.1)
