-- `pair::string::rest` meets its contract: the bits are cut to the front of eight zero octets.
-- Assumes nothing.
use Prim.Native.Nat.{ℕ}
use native.Mathlib.Omega.{arith}
use mathlib.Core.Path.{ap, ◌∙◌}
use mathlib.Core.List.{List}
use lib.ListN.{replicate}
use Rattle.refusals.proofs.Number.{is_ok}
use Rattle.octets.specs.Bits.{bit_of, size}
use Rattle.octets.proofs.Cutting.{cut_done}
use Rattle.octets.proofs.Number.{number_ext}
use Rattle.octets.proofs.Stored.{bit_of_lt, front_stored, zeros_after_lem}
use Rattle.pair.proofs.string.rest.Goals as goal

pub unwrap-requires : goal.unwrap-requires
unfolding size
unwrap-requires c = is_ok c.cut.result (cut_done c.args.message.now c.args.start c.args.count (replicate 8 0) c.cut.ensures (omega arith)).0

pub returns : goal.returns
unfolding size
returns c =
    let message : List ℕ = c.args.message.now in
    let from : ℕ = c.args.start in
    let count : ℕ = c.args.count in
    let done = cut_done message from count (replicate 8 0) c.cut.ensures (omega arith) in
    c.word.ensures
    ∙ number_ext _ _ 64
    (λ j below.
    ap (bit_of _) {y = j} (omega arith)
    ∙ ap (λ (l : List ℕ). bit_of l j) (done.1 ∙ front_stored (bit_of message) from count (replicate 8 0))
    ∙ zeros_after_lem (bit_of message) from count 8 (bit_of_lt message) j)
