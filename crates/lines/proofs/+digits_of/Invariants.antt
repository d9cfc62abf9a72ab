-- The measure is the number.
use Rattle.lines.proofs.+digits_of.Given as goal

abbrev pub decreases-digits_of : goal.decreases-digits_of
decreases-digits_of l = l.number
