-- `demo::acts::remark` meets its contract: the line, and a line feed.
-- Assumes nothing.
use native.Mathlib.Omega.{arith}
use lib.ListN.{length, drop}
use mathlib.Core.List.{List, ◌++◌}
use mathlib.Core.Path.{refl, ap}
use Prim.Native.Nat.{ℕ}
use Rattle.refusals.specs.Call.{front}
use Rattle.lines.specs.Text.{ended}
use Rattle.lines.proofs.Placed.{at_front_octet}
use Rattle.demo.proofs.acts.remark.Goals as goal

pub returns : goal.returns
unfolding ended front
returns c =
    let line = c.args.line.now in
    at_front_octet {text = line} {before = c.args.output.now} 10 (record { written_is = refl; output_is = ap (λ (l : List ℕ). l ++ drop (length line) c.args.output.now) c.copy_from_slice.ensures.after })
    (omega (arith, c.requires))
