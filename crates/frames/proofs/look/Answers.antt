-- `frames::look` meets its contract: where nothing is refused there are the octets of the header.
-- Assumes nothing.
use native.Mathlib.Omega.{arith}
use mathlib.Core.Path.{sym}
use Rattle.frames.proofs.Tests.{looked_framed}
use Rattle.frames.proofs.look.Goals as goal

pub slice_bounds-result-count : goal.slice_bounds-result-count
slice_bounds-result-count c = omega (arith, (looked_framed c.args.frame.now (sym c.in-Ok.ensures.refusal_is)).whole.seven_least)

pub slice_bounds-result-start : goal.slice_bounds-result-start
slice_bounds-result-start c = omega (arith, (looked_framed c.args.frame.now (sym c.in-Ok.ensures.refusal_is)).whole.seven_least)
