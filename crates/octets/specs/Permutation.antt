-- What it is for a table to permute its range. Assumes nothing.
use Rattle.std.specs.Prelude.{ℕ, ◌<◌, ◌≡◌, List, length, get_or}

-- an input below n that the table takes to y
pub record Source (n : ℕ) (table : List ℕ) (y : ℕ) : Type 0 where
  pub input : ℕ
  pub below : input < n
  pub gives : get_or table input 0 ≡ y

-- the table has n entries below n, no two alike, and each number below n is one of them
pub record Permutes (n : ℕ) (table : List ℕ) : Type 0 where
  pub entries : length table ≡ n
  pub within : (x : ℕ) → x < n → get_or table x 0 < n
  pub apart : (x y : ℕ) → x < n → y < n → get_or table x 0 ≡ get_or table y 0 → x ≡ y
  pub onto : (y : ℕ) → y < n → Source n table y
