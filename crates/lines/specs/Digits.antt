-- Digits, and the numbers that texts of digits write. Assumes nothing.
use Rattle.std.specs.Prelude.{ℕ, ◌+◌, ◌-◌, ◌*◌, Bool, true, cond, not, ◌&&◌, List, [], ◌∷◌, leb, ltb, length}
use Rattle.refusals.specs.Refusal.{Row}
use Rattle.refusals.specs.Call.{Call, tells}

-- an octet from `low` to `high`
unfoldable pub within : ℕ → ℕ → ℕ → Bool
within low high octet = leb low octet && leb octet high

-- the value of a hex digit of either case: `0` to `9`, `A` to `F`, `a` to `f`; 16 for any other octet
unfoldable pub digit_value : ℕ → ℕ
digit_value octet =
    cond (within 48 57 octet) (octet - 48)
    (cond (within 65 70 octet) (octet - 55)
    (cond (within 97 102 octet) (octet - 87) 16))

-- every octet of the text is a digit of the base
unfoldable pub all_digits : ℕ → List ℕ → Bool
all_digits base [] = true
all_digits base (octet ∷ rest) = ltb (digit_value octet) base && all_digits base rest

-- the number that the digits of a text write after those that wrote `start`, by Horner's rule
unfoldable pub value_from : ℕ → ℕ → List ℕ → ℕ
value_from base start [] = start
value_from base start (octet ∷ rest) = value_from base (start * base + digit_value octet) rest

-- the number that a text of digits writes, the first digit highest
unfoldable pub value_of : ℕ → List ℕ → ℕ
value_of base text = value_from base 0 text

-- a number is a text of 1 to `most` digits of the base
unfoldable pub is_number : ℕ → ℕ → List ℕ → Bool
is_number base most text = within 1 most (length text) && all_digits base text

-- the one refusal of reading a number: 2 where the text is none
unfoldable pub digits_order : ℕ → ℕ → List ℕ → List Row
digits_order base most text = record { number = 2; holds = not (is_number base most text) } ∷ []

-- reading such a number hands out its value
abbrev pub digits_call : ℕ → ℕ → List ℕ → Call (Unit {0})
digits_call base most text = tells (digits_order base most text) (value_of base text ∷ [])

-- lines::decimal, of 1 to 10 digits
abbrev pub decimal_call : List ℕ → Call (Unit {0})
decimal_call text = digits_call 10 10 text

-- lines::hexadecimal, of 1 to 16 digits of either case
abbrev pub hexadecimal_call : List ℕ → Call (Unit {0})
hexadecimal_call text = digits_call 16 16 text
