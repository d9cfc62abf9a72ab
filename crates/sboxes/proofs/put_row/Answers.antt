-- `sboxes::put_row` meets its contract. The invariant of its loop: the entries up to 2^k + 2^j stand at the front.
-- Assumes nothing.
use Prim.Native.Nat.{ℕ, ◌*◌, ◌%◌, ◌^◌}
use mathlib.Core.Path.{◌≡◌}
use native.Mathlib.Omega.{arith}
use Rattle.std.proofs.lemmas.Nat.{one_shl}
use Rattle.sboxes.proofs.Doubling.{high_fits, one_more}
use Rattle.sboxes.proofs.put_row.Goals as goal

pub loop-j-init : goal.loop-j-init
loop-j-init c =
    let k : ℕ = c.args.k in
    let high : 1 * 2 ^ k % 2 ^ 64 ≡ 2 ^ k = one_shl k 64 (omega arith) in
    rw high
    (one_more c.requires.1 c.entry_of_nine.result (omega (arith, high_fits k c.requires.0)) (rw high at c.entry_of_nine.ensures))
