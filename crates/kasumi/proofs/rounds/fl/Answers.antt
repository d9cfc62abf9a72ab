-- `kasumi::rounds::fl` meets its contract: the halves of 32 bits are the two words.
-- Assumes nothing.
use Prim.Native.Nat.{ℕ, ◌^◌, ◌<◌}
use native.Mathlib.Omega.{arith}
use lib.Bits.{bit_and, bit_or, bit_xor, and_le_l, or_lt, xor_lt}
use lib.Dec.{lit≤}
use Rattle.kasumi.specs.Kasumi.{fl}
use Rattle.kasumi.proofs.Joined.{left_16, right_16}
use Rattle.kasumi.proofs.Words.{rotated}
use Rattle.kasumi.proofs.rounds.fl.Goals as goal

pub returns : goal.returns
unfolding fl
returns c =
    let given = c.args in
    let x = given.x in
    let r : ℕ = bit_xor x.r c.rotate_left.result in
    let met : bit_and x.l given.kl1 < 2 ^ 16 = omega (arith, and_le_l x.l given.kl1) in
    let joined : bit_or r given.kl2 < 2 ^ 16 = or_lt 16 r given.kl2 (xor_lt 16 x.r c.rotate_left.result (omega arith) (omega arith)) (omega arith) in
    cc (
      left_16 x.l x.r (omega arith),
      right_16 x.l x.r (omega arith),
      rotated 1 (bit_and x.l given.kl1) c.rotate_left.ensures (lit≤ tt) met,
      rotated 1 (bit_or r given.kl2) c.rotate_left-2.ensures (lit≤ tt) joined,
    )
