-- `demo::columns::counted` meets its contract: the number is put where the word ends.
-- Assumes nothing.
use Rattle.demo.proofs.Texts.{counted_put}
use Rattle.demo.proofs.columns.counted.Goals as goal

pub returns : goal.returns
returns c =
    counted_put c.args.word.now c.column-column.result c.args.number c.requires.0 c.requires.1 c.column-column.ensures c.decimal_of_number.ensures
