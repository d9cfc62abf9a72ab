-- `aes::table::sbox` meets its contract: the third octet of a word of the table is the S-box's entry.
-- Assumes nothing.
use Prim.Native.Nat.{ℕ, ◌/◌, ◌%◌}
use native.Mathlib.Omega.{arith}
use mathlib.Core.Path.{ap, ◌∙◌}
use mathlib.Core.List.{List}
use lib.ListN.{get_or}
use Rattle.aes.proofs.Mixing.{entry_sbox}
use Rattle.aes.proofs.table.sbox.Goals as goal

pub returns : goal.returns
returns c =
    ap (λ (l : List ℕ). get_or l 2 0) c.to_be_bytes.ensures
    ∙ ap (λ (w : ℕ). w / 0x100 % 0x100) c.entry.ensures
    ∙ entry_sbox c.args.x (omega arith)
