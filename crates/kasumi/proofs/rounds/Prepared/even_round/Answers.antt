-- `kasumi::rounds::Prepared::even_round` meets its contract: what f is in even rounds, and the halves exchanged.
-- Assumes nothing.
use Prim.Native.Nat.{ℕ}
use mathlib.Core.Path.{refl, sym, ap, ◌∙◌}
use native.Mathlib.Omega.{arith}
use lib.Bits.{bit_xor}
use Rattle.octets.specs.Bits.{join}
use Rattle.kasumi.specs.Kasumi.{fl}
use Rattle.kasumi.specs.Halves.{bits32}
use Rattle.kasumi.specs.Lent.{fi_by}
use Rattle.kasumi.specs.declared.schedule.Keys.{Keys}
use Rattle.kasumi.proofs.Joined.{round_halves, f_even}
use Rattle.kasumi.proofs.rounds.Prepared.even_round.Goals as goal

pub returns : goal.returns
returns c =
    let given = c.args in
    let FI : ℕ → ℕ → ℕ = fi_by given.self.table.now in
    let keys : Keys = given.keys in
    let left : ℕ = bits32 given.x.left in
    let right : ℕ = bits32 given.x.right in
    ap (λ (y : ℕ). join 32 y left)
    (c.bitxor.ensures ∙ ap (bit_xor right) (c.fl.ensures ∙ ap (fl keys.kl1 keys.kl2) c.fo.ensures ∙ sym (f_even FI (λ _. keys) 2 left refl)))
    ∙ sym (round_halves FI (λ _. keys) 2 left right (omega arith))
