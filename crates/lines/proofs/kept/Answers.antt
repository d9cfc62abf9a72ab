-- `lines::kept` meets its contract: an octet has its place, or the line is too long.
-- Assumes nothing.
use borrow.Author.Tests.{lt-ltb, le-ltb}
use Rattle.lines.specs.Hearing.{kept}
use Rattle.lines.proofs.kept.Goals as goal

pub returns-then-heard-ge-LONGEST : goal.returns-then-heard-ge-LONGEST
unfolding kept
returns-then-heard-ge-LONGEST c = rw (le-ltb _ _ c.if-heard-ge-LONGEST.true)

pub returns : goal.returns
unfolding kept
returns c = rw (lt-ltb _ _ c.if-heard-ge-LONGEST.false)
