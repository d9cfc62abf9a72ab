-- `milenage::strings::round_keys` meets its contract: a key of 16 octets is not refused.
-- Assumes nothing.
use mathlib.Core.Path.{sym, ap, ◌∙◌}
use lib.ListN.{replicate}
use Rattle.std.specs.Result.{result_unwrap_or}
use Rattle.refusals.proofs.Number.{is_ok}
use Rattle.aes.proofs.Calling.{expand_key_done}
use Rattle.milenage.proofs.strings.round_keys.Goals as goal

pub unwrap-requires : goal.unwrap-requires
unwrap-requires c = is_ok _ (expand_key_done c.args.key.now c.expand_key.ensures c.told-key).0

pub returns : goal.returns
returns c =
    sym (ap (λ answer. result_unwrap_or answer (replicate 44 0)) c.unwrap.ensures)
    ∙ (expand_key_done c.args.key.now c.expand_key.ensures c.told-key).1
