-- `challenge::texts::add_hex` meets its contract: the digits are put at the front of the part from the place on.
-- Assumes nothing.
use Prim.Native.Nat.{◌+◌, ◌≤◌}
use lib.ListN.{length}
use native.Mathlib.Omega.{arith}
use Rattle.lines.specs.Text.{hex_text}
use Rattle.lines.proofs.Callers.{unwrapped}
use Rattle.lines.proofs.Placed.{added_ok, added_put}
use Rattle.lines.proofs.Text.{length-hex_text}
use Rattle.challenge.proofs.texts.add_hex.Goals.{Start}
use Rattle.challenge.proofs.texts.add_hex.Goals as goal

room : (c : Start) → c.args.place + length (hex_text c.args.octets.now) ≤ length c.args.output.now
room c = omega (arith, length-hex_text c.args.octets.now)

pub unwrap-requires : goal.unwrap-requires
unwrap-requires c =
    added_ok c.args.output.now c.args.place (hex_text c.args.octets.now) _ c.hex_of_octets.ensures (room (goal.at.unwrap-requires c).Start)

pub overflow_add-result : goal.overflow_add-result
overflow_add-result c =
    omega (arith, room (goal.at.overflow_add-result c).Start, (added_put c.args.output.now c.args.place _ (unwrapped c.hex_of_octets.ensures c.unwrap.ensures) (room (goal.at.overflow_add-result c).Start)).end_is)

pub returns : goal.returns
returns c =
    added_put c.args.output.now c.args.place _ (unwrapped c.hex_of_octets.ensures c.unwrap.ensures) (room (goal.at.returns c).Start)
