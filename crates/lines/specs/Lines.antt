-- The lines of an input, what a program that answers lines writes for it, and what a run of the calls writes. Assumes nothing.
use Rattle.std.specs.Prelude.{ℕ, ◌≤◌, cond, List, [], ◌∷◌, ◌++◌, eqb, length, take}
use Rattle.lines.specs.Hearing.{Rules, Standing, HearCall, FinishCall}

-- the lines of an input whose first line has begun with `begun`: a line feed (10) ends a line, and a last line without one counts if it is not empty
unfoldable pub lines_from : List ℕ → List ℕ → List (List ℕ)
lines_from begun [] = cond (eqb (length begun) 0) [] (begun ∷ [])
lines_from begun (octet ∷ rest) = cond (eqb octet 10) (begun ∷ lines_from [] rest) (lines_from (begun ++ octet ∷ []) rest)

-- the lines of an input
unfoldable pub lines_of : List ℕ → List (List ℕ)
lines_of input = lines_from [] input

-- the answers to lines, one after the other, from a state on
unfoldable pub answers : {S : Type 0} → Rules S → S → List (List ℕ) → List ℕ
answers rules state [] = []
answers rules state (line ∷ rest) = rules.answer state line ++ answers rules (rules.after state line) rest

-- a run of the calls: `hear` for each octet of the input, then `finish`, each with an output that has room; what is written is joined
pub data Run {S : Type 0} (rules : Rules S) : Standing S → List ℕ → List ℕ → Type 0 where
  finished : {at : Standing S} {before after : List ℕ} {refusal written : ℕ}
      → rules.room ≤ length before → FinishCall rules at before refusal written after → Run rules at [] (take written after)
  heard_one : {at then : Standing S} {octet refusal written : ℕ} {before after rest output : List ℕ}
      → rules.room ≤ length before → HearCall rules at octet before refusal then written after → Run rules then rest output
      → Run rules at (octet ∷ rest) (take written after ++ output)
