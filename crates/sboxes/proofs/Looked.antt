-- What stands in the table for FI. Assumes nothing.
use Prim.Native.Nat.{ℕ, ◌+◌, ◌<◌}
use mathlib.Core.Path.{◌≡◌, sym, ap, ◌∙◌}
use mathlib.Core.List.{◌++◌}
use lib.ListN.{get_or, get_or-append}
use lib.Seq.{get_or-append-add}
use Rattle.octets.specs.Bits.{listed}
use Rattle.octets.proofs.Listed.{length-listed, get_or-listed}
use Rattle.sboxes.specs.FiTable.{entry_of_nine, entry_of_seven, fi_table}

-- an entry of the table, for nine bits and for seven
pub entry_of_nine_lem : (a : ℕ) → a < 512 → get_or fi_table a 0 ≡ entry_of_nine a
unfolding fi_table
entry_of_nine_lem a below =
    get_or-append (listed entry_of_nine 512) (listed entry_of_seven 128) 0 a (rw length-listed below) ∙ get_or-listed entry_of_nine 512 a 0 below

pub entry_of_seven_lem : (b : ℕ) → b < 128 → get_or fi_table (512 + b) 0 ≡ entry_of_seven b
unfolding fi_table
entry_of_seven_lem b below =
    ap (λ (n : ℕ). get_or (listed entry_of_nine 512 ++ listed entry_of_seven 128) (n + b) 0) (sym (length-listed entry_of_nine 512))
    ∙ get_or-append-add (listed entry_of_nine 512) (listed entry_of_seven 128) b 0
    ∙ get_or-listed entry_of_seven 128 b 0 below
