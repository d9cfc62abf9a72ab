-- `kasumi::rounds::Prepared::fo` meets its contract, step by step.
-- Assumes nothing.
use Prim.Native.Nat.{ℕ, ◌<◌, ◌^◌}
use mathlib.Core.Path.{sym, ap, ◌∙◌}
use native.Mathlib.Omega.{arith}
use lib.Bits.{bit_xor, xor_lt}
use Rattle.octets.specs.Bits.{join}
use Rattle.kasumi.specs.Lent.{fi_by}
use Rattle.kasumi.proofs.Joined.{fo_words}
use Rattle.kasumi.proofs.rounds.Prepared.fo.Goals as goal

pub returns : goal.returns
returns c =
    let given = c.args in
    let keys = given.keys in
    let x = given.x in
    let first : ℕ = bit_xor c.fi.result x.r in
    let second : ℕ = bit_xor c.fi-2.result first in
    let fits-first : first < 2 ^ 16 = xor_lt 16 c.fi.result x.r (omega arith) (omega arith) in
    let fits-second : second < 2 ^ 16 = xor_lt 16 c.fi-2.result first (omega arith) fits-first in
    ap (λ (y : ℕ). join 16 second (bit_xor y second)) c.fi-3.ensures
    ∙ sym
    (fo_words (fi_by given.self.table.now) keys x.l x.r (omega arith)
    (ap (λ (y : ℕ). bit_xor y x.r) c.fi.ensures)
    fits-first
    (ap (λ (y : ℕ). bit_xor y first) c.fi-2.ensures)
    fits-second)
