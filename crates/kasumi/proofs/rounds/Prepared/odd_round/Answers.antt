-- `kasumi::rounds::Prepared::odd_round` meets its contract: what f is in odd rounds, and the halves exchanged.
-- Assumes nothing.
use Prim.Native.Nat.{ℕ}
use mathlib.Core.Path.{refl, sym, ap, ◌∙◌}
use native.Mathlib.Omega.{arith}
use lib.Bits.{bit_xor}
use Rattle.octets.specs.Bits.{join}
use Rattle.kasumi.specs.Kasumi.{fo}
use Rattle.kasumi.specs.Halves.{bits32}
use Rattle.kasumi.specs.Lent.{fi_by}
use Rattle.kasumi.specs.declared.schedule.Keys.{Keys}
use Rattle.kasumi.proofs.Joined.{round_halves, f_odd}
use Rattle.kasumi.proofs.rounds.Prepared.odd_round.Goals as goal

pub returns : goal.returns
returns c =
    let given = c.args in
    let FI : ℕ → ℕ → ℕ = fi_by given.self.table.now in
    let keys : Keys = given.keys in
    let left : ℕ = bits32 given.x.left in
    let right : ℕ = bits32 given.x.right in
    ap (λ (y : ℕ). join 32 y left)
    (c.bitxor.ensures ∙ ap (bit_xor right) (c.fo.ensures ∙ ap (fo FI keys) c.fl.ensures ∙ sym (f_odd FI (λ _. keys) 1 left refl)))
    ∙ sym (round_halves FI (λ _. keys) 1 left right (omega arith))
