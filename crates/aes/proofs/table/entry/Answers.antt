-- `aes::table::entry` meets its contract: one test over all 256 words of the code's table.
-- Assumes nothing.
use Prim.Native.Nat.{ℕ}
use native.Mathlib.Omega.{arith}
use mathlib.Core.Path.{◌≡◌, refl, ap, ◌∙◌}
use mathlib.Core.List.{List}
use lib.ListN.{get_or}
use Rattle.aes.specs.declared.table.TheConstants.{TABLE}
use Rattle.aes.specs.Field.{product, remainder, ◌•◌}
use Rattle.aes.specs.Table.{table}
use Rattle.aes.proofs.SBox.{entries}
use Rattle.aes.proofs.Mixing.{is_table, looked_up}
use Rattle.aes.proofs.table.entry.Goals as goal

the_table : TABLE ≡ table
unfolding product remainder ◌•◌ entries
the_table = is_table _ refl tt

pub returns : goal.returns
returns c = ap (λ (l : List ℕ). get_or l c.args.x 0) the_table ∙ looked_up c.args.x (omega arith)
