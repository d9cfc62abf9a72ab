-- `kgcore::put` meets its contract: the octets of a block are those of `to_be_bytes`, and as many of them as go there are put.
-- Assumes nothing.
use Prim.Native.Nat.{ℕ}
use native.Mathlib.Nat.{min_comm}
use native.Mathlib.Omega.{arith}
use mathlib.Core.Path.{ap, ◌∙◌}
use mathlib.Core.List.{List, ◌++◌}
use lib.ListN.{take, drop, length}
use Rattle.octets.specs.Bits.{bit_at, octet, listed}
use Rattle.kgcore.proofs.Stream.{block_octets}
use Rattle.kgcore.proofs.put.Goals as goal

pub returns : goal.returns
returns c =
    let output : List ℕ = c.args.output.now in
    let block : ℕ = c.args.block in
    let n : ℕ = c.min-n.result in
    ap (λ (l : List ℕ). l ++ drop n output)
    (c.copy_from_slice.ensures.after ∙ ap (take n) c.to_be_bytes.ensures ∙ block_octets block n (omega arith))
    ∙ ap (λ (k : ℕ). listed (octet (bit_at 64 block)) k ++ drop k output) (c.min-n.ensures ∙ min_comm (length output) 8)
