-- The lines of an input: two laws that determine them. A line feed ends the first line, and a last line without one counts if it is not empty.
-- Assumes nothing.
use Prim.Native.Nat.{ℕ}
use mathlib.Core.Path.{◌≡◌, sym, ap, ◌∙◌}
use mathlib.Core.Bool.{Bool, true, false, cond, not, ◌&&◌, and-eq-true_iff}
use mathlib.Core.List.{List, [], ◌∷◌, ◌++◌, append_assoc, append-nil}
use borrow.Author.Tests.{not-true}
use lib.Dec.{eqb}
use lib.ListN.{length}
use Rattle.lines.specs.Lines.{lines_from, lines_of}

-- no octet of a text is a line feed
unfoldable pub one_line : List ℕ → Bool
one_line [] = true
one_line (octet ∷ rest) = not (eqb octet 10) && one_line rest

-- of a text of one line, the first octet is no line feed, and the rest is of one line
first_kept : (octet : ℕ) (rest : List ℕ) → one_line (octet ∷ rest) ≡ true → eqb octet 10 ≡ false
unfolding one_line
first_kept octet rest one = not-true (eqb octet 10) ((and-eq-true_iff _ _).0 one).0

rest_one : (octet : ℕ) (rest : List ℕ) → one_line (octet ∷ rest) ≡ true → one_line rest ≡ true
unfolding one_line
rest_one octet rest one = ((and-eq-true_iff (not (eqb octet 10)) _).0 one).1

-- octets of one line go to the line that has begun
more_of_line : (begun line rest : List ℕ) → one_line line ≡ true → lines_from begun (line ++ rest) ≡ lines_from (begun ++ line) rest
unfolding lines_from
more_of_line begun [] rest one = ap (λ (l : List ℕ). lines_from l rest) (sym (append-nil begun))
more_of_line begun (octet ∷ line) rest one =
    rw (first_kept octet line one)
    (more_of_line (begun ++ octet ∷ []) line rest (rest_one octet line one)
    ∙ ap (λ (l : List ℕ). lines_from l rest) (append_assoc begun (octet ∷ []) line))

-- a line feed ends the first line, and the lines of what follows come after it
pub first_line : (line rest : List ℕ) → one_line line ≡ true → lines_of (line ++ 10 ∷ rest) ≡ line ∷ lines_of rest
unfolding lines_of lines_from
first_line line rest one = more_of_line [] line (10 ∷ rest) one

-- a last line without line end counts if it is not empty
pub last_line : (line : List ℕ) → one_line line ≡ true → lines_of line ≡ cond (eqb (length line) 0) [] (line ∷ [])
unfolding lines_of lines_from
last_line line one = ap (lines_from []) (sym (append-nil line)) ∙ more_of_line [] line [] one
