-- `challenge::texts::add_codes` meets its contract: both under their names.
-- Assumes nothing.
use Rattle.challenge.specs.Texts.{name_mac_a, name_mac_s, codes_text}
use Rattle.challenge.proofs.texts.add_codes.Goals as goal

pub returns : goal.returns
unfolding codes_text name_mac_a name_mac_s
returns c = c.add_two.ensures
