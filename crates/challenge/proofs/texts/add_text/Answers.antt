-- `challenge::texts::add_text` meets its contract: the text is put at the front of the part from the place on.
-- Assumes nothing.
use Rattle.lines.proofs.Callers.{unwrapped}
use Rattle.lines.proofs.Placed.{added_ok, added_put}
use Rattle.challenge.proofs.texts.add_text.Goals as goal

pub unwrap-requires : goal.unwrap-requires
unwrap-requires c = added_ok c.args.output.now c.args.place _ _ c.put_text.ensures c.requires

pub returns : goal.returns
returns c = added_put c.args.output.now c.args.place _ (unwrapped c.put_text.ensures c.unwrap.ensures) c.requires
