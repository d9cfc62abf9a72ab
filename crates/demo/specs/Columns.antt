-- The columns of an answer. Assumes nothing.
use Rattle.std.specs.Prelude.{ℕ, Bool, cond, List, [], ◌∷◌, ◌++◌, eqb, length, get_or, drop, replicate}
use Rattle.lines.specs.Digits.{within}
use Rattle.lines.specs.Text.{decimal_text}
use Rattle.script.specs.declared.kinds.Why.{Why}
use Rattle.script.specs.declared.kinds.Why.TheVariants.{Long, Empty, Octet, Command, Count, Place, Hex}
use Rattle.script.specs.Quoted.{quoted}
use Rattle.demo.specs.Words.{refusal_text, why_words}

-- a text at the left of a column, which is eleven octets wide and filled up with spaces (32): ten digits and a space have room
unfoldable pub column : List ℕ → List ℕ
column text = text ++ drop (length text) (replicate 11 32)

-- what the phone's column shows where it was to seal: the number of the frame that it sealed, or why it sealed none
unfoldable pub phone_text : ℕ → ℕ → List ℕ
phone_text refusal number = cond (eqb refusal 0) (decimal_text number) (refusal_text refusal)

-- the columns of the phone: what it answers, and its reservation
unfoldable pub phone_columns : List ℕ → ℕ → List ℕ
phone_columns text reserved = column text ++ column (decimal_text reserved)

-- the row of a reason for a bad line
abbrev pub why_row : Why → ℕ
why_row Long = 0
why_row Empty = 1
why_row Octet = 2
why_row Command = 3
why_row Count = 4
why_row Place = 5
why_row Hex = 6

-- what the box's column shows for a bad line
unfoldable pub why_text : Why → List ℕ
why_text why = quoted (get_or why_words (why_row why) "")

-- what the cell's number column shows: the number where one is given
unfoldable pub number_text : Bool → ℕ → List ℕ
number_text given number = cond given (decimal_text number) (quoted "-")

-- what an answer column shows, the cell's, and the phone's where it was to be stored, told or restarted
unfoldable pub answer_text : ℕ → List ℕ
answer_text refusal = cond (eqb refusal 0) (quoted "ok") (refusal_text refusal)

-- an octet as it is shown: printable ASCII as itself, any other as a full stop (46)
unfoldable pub shown : ℕ → ℕ
shown octet = cond (within 32 126 octet) octet 46

-- a text as it is shown
unfoldable pub shown_text : List ℕ → List ℕ
shown_text [] = []
shown_text (octet ∷ rest) = shown octet ∷ shown_text rest

-- the last column, and the line feed: the text handed out, or a hyphen where none is
unfoldable pub text_column : List ℕ → List ℕ
text_column text = cond (eqb (length text) 0) (quoted "-") (shown_text text) ++ quoted "\n"

-- the columns of the cell where it is handed octets: the number, the answer, the next number, the text handed out
unfoldable pub cell_columns : Bool → ℕ → ℕ → ℕ → List ℕ → List ℕ
cell_columns given refusal number next text =
    column (number_text given number) ++ (column (answer_text refusal) ++ (column (decimal_text next) ++ text_column text))

-- and where it is asked for nothing: only its next number is shown
unfoldable pub silent_columns : ℕ → List ℕ
silent_columns next = column (quoted "-") ++ (column (quoted "-") ++ (column (decimal_text next) ++ quoted "-\n"))
