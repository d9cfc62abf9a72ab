-- `sboxes::put_nines` meets its contract. The invariant of its loop: the entries up to 2^k stand at the front.
-- Assumes nothing.
use Rattle.std.proofs.Common.{rules}
use Prim.Native.Nat.{ℕ, ◌^◌}
use mathlib.Core.Path.{refl, ap}
use native.Mathlib.Omega.{arith}
use lib.Dec.{lit<}
use Rattle.octets.specs.Bits.{listed}
use Rattle.sboxes.specs.FiTable.{Filled}
use Rattle.sboxes.proofs.Doubling.{one_more, counted}
use Rattle.sboxes.proofs.put_nines.Goals as goal

pub loop-k-init : goal.loop-k-init
unfolding listed
loop-k-init c =
    let none : Filled 0 c.args.table.now = record { words = search rules; front = refl } in
    one_more none c.entry_of_nine.result (lit< tt) c.entry_of_nine.ensures

pub returns : goal.returns
returns c = counted (ap (λ (n : ℕ). 2 ^ n) {y = 9} (omega arith)) c.loop-k.invariant
