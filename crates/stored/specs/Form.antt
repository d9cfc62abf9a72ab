-- The stored form of an end, octet by octet (document 02, item 4): the length of what follows; the version; the link; and words of four octets, which
-- each end has of its own. Assumes nothing.
use Rattle.std.specs.Prelude.{ℕ, ◌+◌, ◌*◌, ◌/◌, ◌%◌, ◌^◌, Bool, not, ◌&&◌, List, [], ◌∷◌, ◌++◌, eqb, length, get_or, take, drop}
use Rattle.refusals.specs.Refusal.{Row}
use Rattle.frames.specs.Frame.{pair, pair_at}
use Rattle.link.specs.declared.Link.{Link}

-- a number of 32 bits as four octets, the highest first
unfoldable pub quad : ℕ → List ℕ
quad x = (x / 2 ^ 24 % 256) ∷ (x / 2 ^ 16 % 256) ∷ (x / 256 % 256) ∷ (x % 256) ∷ []

-- the number that the octet at k and the three after it write
unfoldable pub quad_at : List ℕ → ℕ → ℕ
quad_at octets k = pair_at octets k * 2 ^ 16 + pair_at octets (k + 2)

-- words, one after the other
unfoldable pub quads : List ℕ → List ℕ
quads [] = []
quads (word ∷ rest) = quad word ++ quads rest

-- the form with a version, a link and words: two octets for the length of what follows, one for the version; 16 for the prepared key, four for IOV, one for
-- SAPI and one for the direction; and four for each word. Without words 23 octets follow the length
unfoldable pub form : ℕ → Link → List ℕ → List ℕ
form version link words =
    pair (23 + 4 * length words)
    ++ (version ∷ (link.key ++ (quad link.iov ++ (link.sapi ∷ link.direction ∷ quads words))))

-- how many octets a form with so many words has
abbrev pub form_size : ℕ → ℕ
form_size words = 25 + 4 * words

-- the link that octets hold, read as a form
unfoldable pub link_in : List ℕ → Link
link_in octets = record { key = take 16 (drop 3 octets); iov = quad_at octets 19; sapi = get_or octets 23 0; direction = get_or octets 24 0 }

-- and word k, counted from 0
unfoldable pub word_in : List ℕ → ℕ → ℕ
word_in octets k = quad_at octets (25 + 4 * k)

-- the octets are as many as a form with so many words has, and their length field says so
unfoldable pub is_form_long : ℕ → List ℕ → Bool
is_form_long words octets = eqb (length octets) (form_size words) && eqb (pair_at octets 0 + 2) (form_size words)

-- the refusals of reading a form, in their order: its length, and its version
unfoldable pub form_order : ℕ → ℕ → List ℕ → List Row
form_order version words octets =
    record { number = 5; holds = not (is_form_long words octets) } ∷
    record { number = 6; holds = not (eqb (get_or octets 2 0) version) } ∷ []
