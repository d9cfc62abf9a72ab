-- `octets::size` meets its contract: it computes the definition.
-- Assumes nothing.
use Rattle.std.proofs.Common.{rules}
use Rattle.octets.specs.Bits.{size}
use Rattle.octets.proofs.size.Goals as goal

pub returns : goal.returns
unfolding size
returns c = search rules
