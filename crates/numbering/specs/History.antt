-- The numbers that arrived so far, the last one first.
-- Assumes nothing.
use Rattle.std.specs.Prelude.{ℕ, ◌+◌, max, List, [], ◌∷◌}
-- n is among the numbers
unfoldable pub use Rattle.refusals.specs.Among.{is_among}

-- one above the highest of the numbers, or 0 where there is none
unfoldable pub above_all : List ℕ → ℕ
above_all [] = 0
above_all (n ∷ rest) = max (n + 1) (above_all rest)
