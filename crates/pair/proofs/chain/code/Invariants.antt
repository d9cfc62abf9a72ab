-- `pair::chain::code` meets its contract. The loop's invariant: `a` and `b` are A and B after n blocks.
-- Assumes nothing.
use Prim.Native.Nat.{ℕ}
use mathlib.Core.Path.{◌≡◌}
use mathlib.Core.List.{List}
use Rattle.pair.specs.F9.{padded, chained, gathered}
use Rattle.pair.proofs.chain.code.Given as goal

-- A and B after n blocks
pub record Chained (key string : List ℕ) (a b n : ℕ) : Type 0 where
  pub a_is : a ≡ chained key string n
  pub b_is : b ≡ gathered key string n

abbrev pub invariant-loop-n : goal.invariant-loop-n
invariant-loop-n l = Chained l.key (padded l.string.inputs l.string.message.octets.now l.string.message.bits) l.a l.b l.n
