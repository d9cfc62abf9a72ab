-- `kasumi::rounds::Prepared::two_rounds` meets its contract: an odd round, and the even one after it.
-- Assumes nothing.
use Prim.Native.Nat.{ℕ, ◌+◌}
use mathlib.Core.Path.{ap₂, ◌∙◌}
use native.Mathlib.Omega.{arith}
use Rattle.kasumi.specs.Kasumi.{round}
use Rattle.kasumi.specs.Lent.{fi_by, keys_at}
use Rattle.kasumi.specs.declared.schedule.Keys.{Keys}
use Rattle.kasumi.proofs.Joined.{round_odd, round_even}
use Rattle.kasumi.proofs.rounds.Prepared.two_rounds.Goals as goal

pub returns : goal.returns
returns c =
    let given = c.args in
    let FI : ℕ → ℕ → ℕ = fi_by given.self.table.now in
    let keys_of : ℕ → Keys = keys_at given.self.words.now in
    let i : ℕ = given.i in
    c.from-2.ensures
    ∙ c.even_round-even.ensures
    ∙ ap₂ (λ (keys : Keys) (x : ℕ). round FI (λ _. keys) 2 x)
    c.keys_at-2.ensures
    (c.odd_round-odd.ensures
    ∙ ap₂ (λ (keys : Keys) (x : ℕ). round FI (λ _. keys) 1 x) c.keys_at.ensures c.from.ensures
    ∙ round_odd FI keys_of i given.x c.requires.0)
    ∙ round_even FI keys_of (i + 1) (round FI keys_of i given.x) (omega arith)
