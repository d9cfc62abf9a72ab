-- `pair::string::Padded::block` meets its contract: COUNT and FRESH, a block of the message alone, the 1 alone, or what is left of the message and its ending.
-- Assumes nothing.
use Prim.Native.Nat.{ℕ, ◌+◌, ◌-◌, ◌*◌, ◌^◌}
use native.Mathlib.Omega.{arith}
use mathlib.Core.Path.{◌≡◌, sym, ap, ◌∙◌}
use mathlib.Core.List.{List}
use Rattle.octets.specs.Bits.{bit_of}
use Rattle.octets.proofs.Number.{number_ext}
use Rattle.pair.specs.F9.{padded, block_of}
use Rattle.pair.proofs.Blocks.{block_lt, first_block, message_block, one_block, full_block, ended_block}
use Rattle.pair.proofs.string.Padded.block.Goals.{Else-left-eq63, Then-left-eq63}
use Rattle.pair.proofs.string.Padded.block.Goals as goal

-- where 63 bits of the message are left, they and DIRECTION are the block; where fewer are, the 1 and zeros follow
full : (c : Then-left-eq63) → let given = c.args.self in
    block_of (padded given.inputs given.message.octets.now given.message.bits) c.args.n ≡ c.rest-first.result + given.inputs.direction
full c =
    let given = c.args.self in
    let start : ℕ = 64 * (c.args.n - 1) in
    full_block given.inputs given.message.octets.now given.message.bits c.args.n start (omega arith) (given.message.bits - start) (omega arith) (omega arith) (omega arith)
    ∙ ap (λ (x : ℕ). x + given.inputs.direction) (sym c.rest-first.ensures)

ended : (c : Else-left-eq63) → let given = c.args.self in
    block_of (padded given.inputs given.message.octets.now given.message.bits) c.args.n
    ≡ c.rest-first.result + (2 * given.inputs.direction + 1) * 2 ^ (62 - (given.message.bits - 64 * (c.args.n - 1)))
ended c =
    let given = c.args.self in
    let start : ℕ = 64 * (c.args.n - 1) in
    ended_block given.inputs given.message.octets.now given.message.bits c.args.n start (omega arith) (given.message.bits - start) (omega arith) (omega arith) (omega arith)
    ∙ ap (λ (x : ℕ). x + (2 * given.inputs.direction + 1) * 2 ^ (62 - (given.message.bits - start))) (sym c.rest-first.ensures)

pub returns-then-n-eq0 : goal.returns-then-n-eq0
returns-then-n-eq0 c =
    let given = c.args.self in
    let string : List ℕ = padded given.inputs given.message.octets.now given.message.bits in
    let zeroth : c.args.n ≡ 0 = omega arith in
    omega (arith, c.well_formed.0, first_block given.inputs given.message.octets.now given.message.bits (omega (arith, c.well_formed.0)) (omega (arith, c.well_formed.0)), ap (block_of string) zeroth)

pub returns-then-start-message : goal.returns-then-start-message
returns-then-start-message c =
    let given = c.args.self in
    let message : List ℕ = given.message.octets.now in
    let start : ℕ = 64 * (c.args.n - 1) in
    c.word.ensures
    ∙ number_ext _ _ 64 (λ j below. ap (bit_of message) {y = start + j} (omega arith))
    ∙ sym (message_block given.inputs message given.message.bits c.args.n start (omega arith) (omega arith))

pub returns-then-message-start : goal.returns-then-message-start
returns-then-message-start c =
    let given = c.args.self in
    sym (one_block given.inputs given.message.octets.now given.message.bits c.args.n (64 * (c.args.n - 1)) (omega arith) (omega arith))

pub overflow_add-result-then-left-eq63 : goal.overflow_add-result-then-left-eq63
overflow_add-result-then-left-eq63 c =
    let given = c.args.self in
    omega (arith, full (goal.at.overflow_add-result-then-left-eq63 c).Then-left-eq63, block_lt given.inputs given.message.octets.now given.message.bits c.args.n)

pub returns-then-left-eq63 : goal.returns-then-left-eq63
returns-then-left-eq63 c = sym (full (goal.at.returns-then-left-eq63 c).Then-left-eq63)

pub overflow_add-result-3 : goal.overflow_add-result-3
overflow_add-result-3 c =
    let given = c.args.self in
    omega (arith, ended (goal.at.overflow_add-result-3 c).Else-left-eq63, block_lt given.inputs given.message.octets.now given.message.bits c.args.n)

pub returns : goal.returns
returns c =
    let given = c.args.self in
    omega (arith, ended (goal.at.returns c).Else-left-eq63, block_lt given.inputs given.message.octets.now given.message.bits c.args.n)
