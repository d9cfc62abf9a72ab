-- The words of an answer: the tables of words. The one for refusals has a row for each. Assumes nothing.
use Rattle.std.specs.Prelude.{ℕ, ◌-◌, cond, List, [], ◌∷◌, length, get_or}
use Prim.Native.String.{String}
use Rattle.lines.specs.Digits.{within}
use Rattle.lines.specs.Text.{decimal_text}
use Rattle.script.specs.Quoted.{quoted}

-- the words for refusals, one row a refusal from number 1 on, each filled up to ten octets
unfoldable pub refusal_words : List String
refusal_words =
    "1 key     " ∷
    "2 range   " ∷
    "3 size    " ∷
    "4 room    " ∷
    "5 length  " ∷
    "6 version " ∷
    "7 spare   " ∷
    "8 other   " ∷
    "9 start   " ∷
    "10 end    " ∷
    "11 repeat " ∷
    "12 state  " ∷
    "13 reserve" ∷ []

-- what is shown for a refusal: its row, or the number alone where the table has none for it
unfoldable pub refusal_text : ℕ → List ℕ
refusal_text refusal = cond (within 1 (length refusal_words) refusal) (quoted (get_or refusal_words (refusal - 1) "")) (decimal_text refusal)

-- the words for why a line is bad, one row a reason, each filled up to ten octets
unfoldable pub why_words : List String
why_words = "long      " ∷ "empty     " ∷ "octet     " ∷ "command   " ∷ "count     " ∷ "place     " ∷ "hex       " ∷ []
