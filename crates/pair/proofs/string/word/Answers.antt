-- `pair::string::word` meets its contract: `from_be_bytes` has the octets in their order.
-- Assumes nothing.
use Prim.Native.Nat.{ℕ}
use native.Mathlib.Omega.{arith}
use mathlib.Core.Path.{ap, ◌∙◌}
use mathlib.Core.List.{List}
use lib.ListN.{get_or}
use Rattle.std.proofs.lemmas.Result.{MatchResult-at_ok}
use Rattle.std.proofs.lemmas.Grind.{common_steps}
use Rattle.pair.proofs.Words.{word_bits}
use Rattle.pair.proofs.string.word.Goals as goal

pub returns : goal.returns
returns c =
    let octets : List ℕ = c.args.octets.now in
    c.from_be_bytes.ensures
    ∙ word_bits octets c.args.at c.unwrap.result (λ i. omega (arith, c.type_inv.octets i))
    (λ i below.
    let whole = MatchResult-at_ok {r = c.try_from.result} _ _ c.unwrap.result c.unwrap.ensures c.try_from.ensures.1 in
    ap (λ (l : List ℕ). get_or l i 0) whole.same ∙ grind (arith, common_steps))
