-- `kgcore::generate` meets its contract. The loop's invariant: `block` is block n, and the octets of the blocks so far stand at the front of
-- the output, as far as `size` goes. After the loop only the spare bits of the last octet are left to clear.
-- Assumes nothing.
use mathlib.Core.Path.{◌≡◌}
use mathlib.Core.List.{List, ◌++◌}
use Prim.Native.Nat.{ℕ, ◌*◌, min}
use lib.ListN.{drop}
use Rattle.octets.specs.Bits.{octet, listed}
use Rattle.kgcore.specs.Kgcore
use Rattle.kgcore.specs.Kgcore.{blocks}
use Rattle.kgcore.proofs.Stream.{stream_bit}
use Rattle.kgcore.proofs.generate.Given as goal

-- block n is the last one made, and the octets of the blocks so far stand at the front of the output, as far as `size` goes
pub record Generated (key before : List ℕ) (a size : ℕ) (output : List ℕ) (block n : ℕ) : Type 0 where
  pub block_is : block ≡ Kgcore.block key a n
  pub output_is : output ≡ listed (octet (stream_bit key a)) (min (8 * n) size) ++ drop (min (8 * n) size) before

abbrev pub invariant-loop-n : goal.invariant-loop-n
invariant-loop-n l = Generated l.key l.fn.output l.a l.size l.output l.block l.n
