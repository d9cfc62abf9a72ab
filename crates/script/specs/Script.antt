-- What a line of the script asks for. Assumes nothing.
use Rattle.std.specs.Prelude.{ℕ, ◌-◌, Bool, true, false, cond, not, ◌&&◌, List, [], ◌∷◌, Option, Some, None, Result, Ok, Err, eqb, ltb, length, get_or, drop}
use Rattle.lines.specs.Digits.{within, value_of, is_number}
use Rattle.script.specs.declared.kinds.Asked.{Asked}
use Rattle.script.specs.declared.kinds.Asked.TheVariants.{Remark, Pass, Lose, Keep, Give, Noise, StorePhone, TellPhone, CutPhone, RestartPhone, StoreCell, CutCell, RestartCell}
use Rattle.script.specs.declared.kinds.Why.{Why}
use Rattle.script.specs.declared.kinds.Why.TheVariants.{Long, Empty, Octet, Command, Count, Place}
use Rattle.script.specs.Quoted.{quoted}

-- each octet of a text is printable ASCII
unfoldable pub all_printable : List ℕ → Bool
all_printable [] = true
all_printable (octet ∷ rest) = within 32 126 octet && all_printable rest

-- the line begins with the word
unfoldable pub begins : List ℕ → List ℕ → Bool
begins [] line = true
begins (octet ∷ rest) [] = false
begins (octet ∷ rest) (other ∷ line) = eqb octet other && begins rest line

-- the line is the words, and no more
unfoldable pub is : List ℕ → List ℕ → Bool
is words line = eqb (length line) (length words) && begins words line

-- what stands from a place of the line on; past its end there is nothing
abbrev pub rest_of : List ℕ → ℕ → List ℕ
rest_of line from = drop from line

-- a count of one to three digits
unfoldable pub count_of : List ℕ → Option ℕ
count_of text = cond (is_number 10 3 text) (Some (value_of 10 text)) None

-- a place from 0 to 9, as a digit (48 to 57)
unfoldable pub place_of : ℕ → Option ℕ
place_of octet = cond (within 48 57 octet) (Some (octet - 48)) None

-- `lose COUNT`, by what stands after `lose `: a count that is not 0
unfoldable pub lose_of : Option ℕ → Result Asked Why
lose_of None = Err Count
lose_of (Some count) = cond (eqb count 0) (Err Count) (Ok (Lose count))

unfoldable pub asked_lose : List ℕ → Result Asked Why
asked_lose rest = lose_of (count_of rest)

-- what is asked of a place, where it is one
unfoldable pub at_place : (ℕ → Asked) → Option ℕ → Result Asked Why
at_place of None = Err Place
at_place of (Some k) = Ok (of k)

-- `keep K TEXT`: a place, a space (32), and the text
unfoldable pub asked_keep : List ℕ → Result Asked Why
asked_keep rest =
    cond (ltb (length rest) 2) (Err Place)
    (cond (eqb (get_or rest 1 0) 32) (at_place Keep (place_of (get_or rest 0 0))) (Err Place))

-- `give K`: a place and no more
unfoldable pub asked_give : List ℕ → Result Asked Why
asked_give rest = cond (eqb (length rest) 1) (at_place Give (place_of (get_or rest 0 0))) (Err Place)

-- `store phone COUNT`, by what stands after `store phone `: a count of one to three digits, which may be 0
unfoldable pub store_of : Option ℕ → Result Asked Why
store_of None = Err Count
store_of (Some count) = Ok (StorePhone count)

unfoldable pub asked_store : List ℕ → Result Asked Why
asked_store rest = store_of (count_of rest)

-- a line for the cell's stored form, or for its plug
unfoldable pub asked_cell : List ℕ → Result Asked Why
asked_cell line =
    cond (is (quoted "store cell") line) (Ok StoreCell)
    (cond (is (quoted "cut cell") line) (Ok CutCell)
    (cond (is (quoted "restart cell") line) (Ok RestartCell)
    (Err Command)))

-- a line for the phone's stored form, or for its plug; or else one for the cell's
unfoldable pub asked_phone : List ℕ → Result Asked Why
asked_phone line =
    cond (begins (quoted "store phone ") line) (asked_store (drop 12 line))
    (cond (is (quoted "tell phone") line) (Ok TellPhone)
    (cond (is (quoted "cut phone") line) (Ok CutPhone)
    (cond (is (quoted "restart phone") line) (Ok RestartPhone)
    (asked_cell line))))

-- a command, by its first word
unfoldable pub asked_command : List ℕ → Result Asked Why
asked_command line =
    cond (begins (quoted "pass ") line) (Ok Pass)
    (cond (begins (quoted "lose ") line) (asked_lose (drop 5 line))
    (cond (begins (quoted "keep ") line) (asked_keep (drop 5 line))
    (cond (begins (quoted "give ") line) (asked_give (drop 5 line))
    (cond (begins (quoted "noise ") line) (Ok Noise)
    (asked_phone line)))))

-- any line: one that is too long, empty, or not printable is bad; one that begins with `#` is a remark
unfoldable pub asked : List ℕ → Result Asked Why
asked line =
    cond (ltb 48 (length line)) (Err Long)
    (cond (eqb (length line) 0) (Err Empty)
    (cond (not (all_printable line)) (Err Octet)
    (cond (begins (quoted "#") line) (Ok Remark)
    (asked_command line))))
