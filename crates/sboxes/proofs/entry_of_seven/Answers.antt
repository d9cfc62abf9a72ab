-- `sboxes::entry_of_seven` meets its contract: the code's table is the published one, and an entry is below 128, so that the two parts join.
-- Assumes nothing.
use Rattle.std.proofs.Common.{rules, Fits, w16}
use Prim.Native.Nat.{ℕ, ◌*◌, ◌+◌, ◌^◌, ◌<◌}
use mathlib.Core.Path.{◌≡◌}
use native.Mathlib.Omega.{arith}
use lib.Bits.{bit_xor, xor_lt}
use Rattle.sboxes.specs.Tables.{s7, s7_table}
use Rattle.sboxes.specs.FiTable.{entry_of_seven}
use Rattle.sboxes.proofs.SBoxes.{s7_lt}
use Rattle.sboxes.proofs.entry_of_seven.Goals as goal

-- the entry is a word
fits : (b seven : ℕ) → seven ≡ s7 b → b < 128 → Fits w16 (b * 128 + bit_xor seven b)
fits b seven is below =
    let low : bit_xor seven b < 2 ^ 7 = xor_lt 7 seven b (rw is (s7_lt b)) (omega arith) in
    omega arith

pub overflow_add-result : goal.overflow_add-result
unfolding s7 s7_table
overflow_add-result c = fits c.args.b _ (search rules) c.requires

pub returns : goal.returns
unfolding entry_of_seven s7 s7_table
returns c = search rules
