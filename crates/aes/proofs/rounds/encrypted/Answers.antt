-- `aes::rounds::encrypted` meets its contract. The invariant of its loop: the columns are those of the state after n - 1 rounds.
-- Assumes nothing.
use Prim.Native.Nat.{ℕ, ◌+◌, ◌-◌}
use native.Mathlib.Omega.{arith}
use mathlib.Core.Path.{◌≡◌, ap, ◌∙◌}
use mathlib.Core.List.{List}
use Rattle.aes.specs.Aes.{state_of, rounds, block_of}
use Rattle.aes.specs.Columns.{columns_of, held}
use Rattle.aes.proofs.States.{one_round_more, block_encrypted}
use Rattle.aes.proofs.rounds.encrypted.Goals as goal

pub loop-n-init : goal.loop-n-init
unfolding rounds
loop-n-init c = c.first_key_added-x.ensures

pub loop-n-preserved : goal.loop-n-preserved
loop-n-preserved c =
    let given = c.args in
    let words : List ℕ = given.words.now in
    let block : List ℕ = given.block.now in
    let n : ℕ = c.loop-n.n in
    let next : n ≡ n + 1 - 1 = omega arith in
    c.round-next.ensures
    ∙ one_round_more words block c.fits-block n c.loop-n.x (omega arith) c.loop-n.invariant
    ∙ ap (λ (k : ℕ). columns_of (rounds words k (state_of block))) next

pub returns : goal.returns
returns c =
    let given = c.args in
    let words : List ℕ = given.words.now in
    let block : List ℕ = given.block.now in
    let nine : c.loop-n.n - 1 ≡ 9 = omega arith in
    c.block_of.ensures
    ∙ ap (λ (y : List ℕ). block_of (held y)) c.last_round.ensures
    ∙ block_encrypted words block c.fits-block c.loop-n.x (c.loop-n.invariant ∙ ap (λ (k : ℕ). columns_of (rounds words k (state_of block))) nine)
