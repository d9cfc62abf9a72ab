-- `aes::rounds::block_of` meets its contract: the octets of each column, one column after the other.
-- Assumes nothing.
use Prim.Native.Nat.{◌/◌, ◌%◌}
use Rattle.std.proofs.Common.{rules, ◌≡◌}
use mathlib.Core.Path.{refl}
use lib.ListN.{get_or}
use Rattle.aes.specs.Aes.{octet_of, block_of}
use Rattle.aes.specs.Columns.{held}
use Rattle.aes.proofs.Made.{made_listed}
use Rattle.aes.proofs.rounds.block_of.Goals as goal

pub returns : goal.returns
unfolding block_of held
returns c = made_listed _ (λ p. p.0.now ≡ c.args.x) (λ i. octet_of (get_or c.args.x (i / 4) 0) (i % 4)) 16 (λ p q i y below kept called. (search rules, search rules)) _ _ refl c.from_fn.ensures.items
