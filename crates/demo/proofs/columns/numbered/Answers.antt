-- `demo::columns::numbered` meets its contract: the number is put over an empty column.
-- Assumes nothing.
use native.Mathlib.Omega.{arith}
use lib.ListN.{length}
use Rattle.refusals.specs.Call.{front}
use Rattle.lines.specs.Text.{decimal_text}
use Rattle.lines.proofs.Callers.{room_done}
use Rattle.lines.proofs.InDecimal.{length-decimal_text}
use Rattle.demo.specs.Columns.{column}
use Rattle.demo.proofs.columns.numbered.Goals as goal

pub returns : goal.returns
unfolding column front
returns c =
    let number = c.args.number in
    (room_done (length (decimal_text number)) (decimal_text number) _ c.decimal_of_number.ensures (omega (arith, length-decimal_text number))).1.output_is
