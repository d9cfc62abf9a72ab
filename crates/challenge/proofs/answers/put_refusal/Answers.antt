-- `challenge::answers::put_refusal` meets its contract: there is room for the number.
-- Assumes nothing.
use native.Mathlib.Omega.{arith}
use lib.ListN.{length}
use mathlib.Core.Path.{ap}
use Rattle.lines.specs.Text.{decimal_text}
use Rattle.lines.proofs.Callers.{unwrapped, room_ok}
use Rattle.lines.proofs.InDecimal.{length-decimal_text}
use Rattle.lines.proofs.Placed.{at_front_put}
use Rattle.challenge.proofs.answers.put_refusal.Goals as goal

pub unwrap-requires : goal.unwrap-requires
unwrap-requires c =
    room_ok (length (decimal_text c.number.result)) (decimal_text c.number.result) _ _ c.decimal_of_number.ensures
    (omega (arith, length-decimal_text c.number.result))

pub returns : goal.returns
returns c =
    at_front_put (decimal_text c.number.result) _ (unwrapped c.decimal_of_number.ensures c.unwrap.ensures) (omega (arith, length-decimal_text c.number.result))
    (ap decimal_text c.number.ensures)
