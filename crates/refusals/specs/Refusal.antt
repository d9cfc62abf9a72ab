-- The refusal rule of document 01: of several causes the first in a call's order is named.
-- Assumes nothing.
use Rattle.std.specs.Prelude.{ℕ, ◌<◌, ◌≡◌, ◌↔◌, Bool, true, false, cond, List, [], ◌∷◌, length, get_or}

-- the last number of the table; the first is 1
abbrev pub last_refusal : ℕ
last_refusal = 13

-- a row of a call's order: a refusal's number, and whether its cause holds
pub record Row : Type 0 where
  pub number : ℕ
  pub holds : Bool

-- the number of the first row that holds, or 0 where none does
unfoldable pub first : List Row → ℕ
first [] = 0
first (row ∷ rest) = cond row.holds row.number (first rest)

-- row k of an order, from 0; past its end a row that never holds
unfoldable pub row_at : List Row → ℕ → Row
row_at rows k = get_or rows k (record { number = 0; holds = false })

-- row k holds, and no row before it does
pub record FirstAt (rows : List Row) (k : ℕ) : Type 0 where
  pub here : (row_at rows k).holds ≡ true
  pub none_before : (j : ℕ) → j < k → (row_at rows j).holds ≡ false

-- each refusal is given then and only then: the answer is row k's number exactly where row k is the first that holds, and 0 exactly where none holds
pub record ThenAndOnlyThen (rows : List Row) (answer : ℕ) : Type 0 where
  pub each : (k : ℕ) → k < length rows → (answer ≡ (row_at rows k).number) ↔ FirstAt rows k
  pub none : (answer ≡ 0) ↔ ((k : ℕ) → (row_at rows k).holds ≡ false)
