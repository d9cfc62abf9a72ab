-- `sboxes::fi_table` meets its contract: the entries of nine bits, then those of seven.
-- Assumes nothing.
use Prim.Native.Nat.{ℕ}
use mathlib.Core.Path.{ap, ◌∙◌}
use mathlib.Core.List.{List, ◌++◌}
use Rattle.octets.specs.Bits.{listed}
use Rattle.sboxes.specs.FiTable.{entry_of_seven, fi_table}
use Rattle.sboxes.proofs.fi_table.Goals as goal

pub returns : goal.returns
unfolding fi_table
returns c = c.put_sevens.ensures ∙ ap (λ (l : List ℕ). l ++ listed entry_of_seven 128) c.put_nines.ensures.front
