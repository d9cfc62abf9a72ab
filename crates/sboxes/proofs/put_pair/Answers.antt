-- `sboxes::put_pair` meets its contract. The invariant of its loop: i entries more stand at the front.
-- Assumes nothing.
use Prim.Native.Nat.{ℕ, ◌+◌, ◌*◌, ◌%◌, ◌^◌}
use native.Mathlib.Omega.{arith}
use Rattle.std.proofs.lemmas.Nat.{one_shl}
use mathlib.Core.Path.{◌≡◌}
use Rattle.sboxes.proofs.Doubling.{one_more, counted, next_entry}
use Rattle.sboxes.proofs.put_pair.Goals as goal

pub loop-i-preserved : goal.loop-i-preserved
loop-i-preserved c =
    let j : ℕ = c.args.j in
    let k : ℕ = c.args.k in
    let i : ℕ = c.loop-i.i in
    let high : 1 * 2 ^ k % 2 ^ 64 ≡ 2 ^ k = one_shl k 64 (omega arith) in
    let low : 1 * 2 ^ j % 2 ^ 64 ≡ 2 ^ j = one_shl j 64 (omega arith) in
    let filled = c.loop-i.invariant.1 in (
      c.loop-i.invariant.0,
      counted {n = 1 * 2 ^ k % 2 ^ 64 + 1 * 2 ^ j % 2 ^ 64 + i + 1} (omega arith)
          (one_more filled _ (omega arith)
          (next_entry k j i c.requires.1.0 c.requires.0 (omega arith) high low
          c.entry_of_nine.ensures
          (counted (omega (arith, high, low)) c.requires.1.1)
          filled)),
    )
