-- `challenge::form::put_value` meets its contract: a field that is no value writes nothing.
-- Assumes nothing.
use mathlib.Core.Path.{sym, ap}
use native.Mathlib.Omega.{arith}
use lib.ListN.{length}
use Rattle.challenge.proofs.Fields.{length-field_of}
use Rattle.challenge.proofs.Values.{value_put}
use Rattle.challenge.proofs.form.put_value.Goals as goal

pub returns : goal.returns
returns c =
    let given = c.args in
    rw (sym c.field.ensures, c.unwrap_or.ensures)
    (value_put _ _ c.octets_of_hex.ensures
    (omega (arith, c.requires, ap length c.field.ensures, length-field_of given.line.now given.k)))
