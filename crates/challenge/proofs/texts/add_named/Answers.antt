-- `challenge::texts::add_named` meets its contract: the name, and the digits after it.
-- Assumes nothing.
use native.Mathlib.Omega.{arith}
use Rattle.lines.proofs.Placed.{added_more}
use Rattle.challenge.specs.Texts.{named}
use Rattle.challenge.proofs.texts.add_named.Goals as goal

pub returns : goal.returns
unfolding named
returns c =
    added_more (omega (arith, c.requires)) c.add_text-value_at.ensures c.add_hex.ensures
