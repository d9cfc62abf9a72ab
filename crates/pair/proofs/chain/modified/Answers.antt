-- `pair::chain::modified` meets its contract: 16 octets xor KM fill the 16 octets.
-- Assumes nothing.
use native.Mathlib.Omega.{arith}
use mathlib.Core.Path.{ap, ◌∙◌}
use mathlib.Core.List.{List, ◌++◌, append-nil}
use Prim.Native.Nat.{ℕ}
use lib.ListN.{drop, replicate}
use Rattle.refusals.specs.Call.{front}
use Rattle.refusals.proofs.Number.{is_ok}
use Rattle.octets.specs.Xor.{xored}
use Rattle.octets.proofs.Xored.{length-xored, xor_done}
use Rattle.pair.specs.F9.{modifier}
use Rattle.pair.proofs.chain.modified.Goals as goal

pub unwrap-requires : goal.unwrap-requires
unfolding modifier
unwrap-requires c = is_ok c.xor.result (xor_done c.args.key.now modifier (replicate 16 0) c.xor.ensures (omega (arith, c.told-key))).0

pub returns : goal.returns
unfolding modifier front
returns c =
    let key : List ℕ = c.args.key.now in
    (xor_done key modifier (replicate 16 0) c.xor.ensures (omega (arith, c.told-key))).1
    ∙ ap (λ (n : ℕ). xored key modifier ++ drop n (replicate 16 0)) {y = 16} (length-xored key modifier ∙ c.told-key)
    ∙ append-nil (xored key modifier)
