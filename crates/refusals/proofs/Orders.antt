-- What every order of refusals has to be, as a test that the checker computes: its numbers are from the table, and no two are the same.
-- Assumes nothing.
use Prim.Native.Nat.{ℕ}
use mathlib.Core.Bool.{Bool, true, not, ◌&&◌}
use mathlib.Core.List.{List, [], ◌∷◌}
use lib.Dec.{eqb, leb}
use Rattle.refusals.specs.Refusal.{Row, last_refusal}

-- n is none of the rows' numbers
abbrev pub absent : ℕ → List Row → Bool
absent n [] = true
absent n (row ∷ rest) = not (eqb n row.number) && absent n rest

-- no two rows have the same number, and none has 0
abbrev pub distinct : List Row → Bool
distinct [] = true
distinct (row ∷ rest) = (not (eqb row.number 0) && absent row.number rest) && distinct rest

-- every number of an order is at most the table's last
abbrev pub in_table : List Row → Bool
in_table [] = true
in_table (row ∷ rest) = leb row.number last_refusal && in_table rest

-- an order: both
abbrev pub is_order : List Row → Bool
is_order rows = distinct rows && in_table rows
