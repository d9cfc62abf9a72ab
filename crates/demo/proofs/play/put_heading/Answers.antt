-- `demo::play::put_heading` meets its contract: the text of the code is the heading.
-- Assumes nothing.
use Prim.Native.Nat.{ℕ}
use lib.ListN.{drop}
use lib.Seq.{length-take-le}
use mathlib.Core.List.{List, ◌++◌}
use mathlib.Core.Path.{refl, sym, ap}
use native.Mathlib.Omega.{arith}
use Rattle.refusals.specs.Call.{front}
use Rattle.demo.specs.Columns.{column}
use Rattle.demo.specs.Play.{heading}
use Rattle.demo.proofs.play.put_heading.Goals as goal

pub slice_bounds-copy_from_slice-end-2 : goal.slice_bounds-copy_from_slice-end-2
slice_bounds-copy_from_slice-end-2 c = sym (length-take-le 71 c.args.output.now (omega arith))

pub copy_from_slice-requires : goal.copy_from_slice-requires
copy_from_slice-requires c = length-take-le 71 c.args.output.now (omega arith)

pub returns : goal.returns
unfolding heading column front
returns c = record { written_is = refl; output_is = ap (λ (l : List ℕ). l ++ drop 71 c.args.output.now) c.copy_from_slice.ensures.after }
