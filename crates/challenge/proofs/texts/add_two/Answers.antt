-- `challenge::texts::add_two` meets its contract: one after the other.
-- Assumes nothing.
use native.Mathlib.Omega.{arith}
use Rattle.lines.proofs.Placed.{added_more}
use Rattle.challenge.proofs.Named.{length-named}
use Rattle.challenge.proofs.texts.add_two.Goals as goal

pub add_named-requires : goal.add_named-requires
add_named-requires c =
    let given = c.args in
    omega (arith, c.requires, c.add_named-next_at.auto.output, c.add_named-next_at.ensures.end_is, length-named given.name.now given.octets.now)

pub returns : goal.returns
returns c =
    let given = c.args in
    added_more (omega (arith, c.requires, length-named given.name.now given.octets.now)) c.add_named-next_at.ensures c.add_named.ensures
