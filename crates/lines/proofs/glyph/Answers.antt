-- `lines::glyph` meets its contract: the two ranges of digits.
-- Assumes nothing.
use borrow.Author.Tests.{lt-ltb, le-ltb}
use native.Mathlib.Omega.{arith}
use Rattle.lines.specs.Text.{glyph_of}
use Rattle.lines.proofs.glyph.Goals as goal

pub returns-then-number-lt10 : goal.returns-then-number-lt10
unfolding glyph_of
returns-then-number-lt10 c = rw (lt-ltb _ _ c.if-number-lt10.true) (omega arith)

pub returns-else-number-lt10 : goal.returns-else-number-lt10
unfolding glyph_of
returns-else-number-lt10 c = rw (le-ltb _ _ c.if-number-lt10.false) (omega arith)
