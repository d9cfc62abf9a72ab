-- The form of a line, as a list of tests. Assumes nothing.
use Rattle.std.specs.Prelude.{Bool, true, ◌&&◌, List, [], ◌∷◌}

-- every test of a list holds
unfoldable pub every : List Bool → Bool
every [] = true
every (test ∷ rest) = test && every rest
