-- Texts that are put at the front of a lent output: octets as hex, the octets that hex writes, and numbers in decimal. Assumes nothing.
use Rattle.std.specs.Prelude.{ℕ, zero, suc, ◌+◌, ◌*◌, ◌/◌, ◌%◌, ◌≡◌, Bool, cond, not, ◌&&◌, List, [], ◌∷◌, ◌++◌, eqb, ltb, length, take, drop}
use Rattle.refusals.specs.Refusal.{Row}
use Rattle.refusals.specs.Call.{Call, no_candidate, front}
use Rattle.lines.specs.Digits.{digit_value, all_digits}

-- the one refusal for want of room: 4 where an output has less than `room` octets
unfoldable pub room_order : ℕ → List ℕ → List Row
room_order room output = record { number = 4; holds = ltb (length output) room } ∷ []

-- a call that puts a text to the front of one lent output, and hands out how many octets the text has
abbrev pub puts_text : List Row → List ℕ → List ℕ → Call (List ℕ)
puts_text order text output = record { order = order; numbers = length text ∷ []; candidate_with = no_candidate; before = output; after = front text output }

-- lines::put_text: every output with room for the text takes it
abbrev pub put_text_call : List ℕ → List ℕ → Call (List ℕ)
put_text_call text output = puts_text (room_order (length text) output) text output

-- a text at the front of an output that has room for it: how many octets it has, and what the output then holds
pub record AtFront (text before : List ℕ) (written : ℕ) (after : List ℕ) : Type 0 where
  pub written_is : written ≡ length text
  pub output_is : after ≡ front text before

-- a text from a place of an output on: the place after it, and what the output then holds, which is as it was before and after the text
pub record Added (text before : List ℕ) (place end : ℕ) (after : List ℕ) : Type 0 where
  pub end_is : end ≡ place + length text
  pub output_is : after ≡ take place before ++ (text ++ drop (place + length text) before)

-- a text as a line of the output: a line feed (10) ends it
unfoldable pub ended : List ℕ → List ℕ
ended text = text ++ 10 ∷ []

-- the digit of a number below 16, with capital letters
unfoldable pub glyph_of : ℕ → ℕ
glyph_of number = cond (ltb number 10) (48 + number) (55 + number)

-- octets as hex: two digits an octet, the high one first
unfoldable pub hex_text : List ℕ → List ℕ
hex_text [] = []
hex_text (octet ∷ rest) = glyph_of (octet / 16) ∷ glyph_of (octet % 16) ∷ hex_text rest

-- lines::hex_of_octets
abbrev pub hex_of_octets_call : List ℕ → List ℕ → Call (List ℕ)
hex_of_octets_call octets output = put_text_call (hex_text octets) output

-- the octets that pairs of hex digits write
unfoldable pub hex_octets : List ℕ → List ℕ
hex_octets [] = []
hex_octets (high ∷ []) = []
hex_octets (high ∷ low ∷ rest) = (digit_value high * 16 + digit_value low) ∷ hex_octets rest

-- pairs of hex digits and nothing else
unfoldable pub is_hex : List ℕ → Bool
is_hex text = eqb (length text % 2) 0 && all_digits 16 text

-- the refusals of putting the octets that a text writes, in their order: 2 where the text is not pairs of hex digits, 4 for want of room
unfoldable pub hex_order : List ℕ → List ℕ → List Row
hex_order text output = record { number = 2; holds = not (is_hex text) } ∷ room_order (length (hex_octets text)) output

-- lines::octets_of_hex
abbrev pub octets_of_hex_call : List ℕ → List ℕ → Call (List ℕ)
octets_of_hex_call text output = puts_text (hex_order text output) (hex_octets text) output

-- the last `most` digits of a number in decimal, without leading zeros
unfoldable pub decimal_digits : ℕ → ℕ → List ℕ
decimal_digits zero number = []
decimal_digits (suc most) number = cond (ltb number 10) (glyph_of number ∷ []) (decimal_digits most (number / 10) ++ glyph_of (number % 10) ∷ [])

-- a number of at most ten digits in decimal, without leading zeros
unfoldable pub decimal_text : ℕ → List ℕ
decimal_text number = decimal_digits 10 number

-- lines::decimal_of_number
abbrev pub decimal_of_number_call : ℕ → List ℕ → Call (List ℕ)
decimal_of_number_call number output = put_text_call (decimal_text number) output
