-- The bench frame of document 01, "The link", octet by octet. Assumes nothing.
use Rattle.std.specs.Prelude.{ℕ, ◌+◌, ◌*◌, ◌/◌, ◌%◌, Bool, cond, not, ◌&&◌, ◌||◌, List, [], ◌∷◌, ◌++◌, eqb, leb, ltb, length, get_or, drop}
use Rattle.refusals.specs.Refusal.{Row, first}
use Rattle.refusals.specs.Call.{Call, tells, puts}
use Rattle.frames.specs.declared.Header.{Header}
-- every element of a list is an octet
pub use Rattle.octets.specs.Octets.{AreOctets}

-- a number as two octets, the high one first
unfoldable pub pair : ℕ → List ℕ
pair x = (x / 256) ∷ (x % 256) ∷ []

-- the number that the octets at k and after it write
unfoldable pub pair_at : List ℕ → ℕ → ℕ
pair_at octets k = get_or octets k 0 * 256 + get_or octets (k + 1) 0

-- the six octets before a payload of p octets: L = p + 4, the version 1, SAPI and direction, N
unfoldable pub header_octets : Header → ℕ → List ℕ
header_octets header p = pair (p + 4) ++ (1 ∷ (header.sapi * 16 + header.direction) ∷ pair header.sent)

-- the frame of a header and a ciphered payload
unfoldable pub frame : Header → List ℕ → List ℕ
frame header payload = header_octets header (length payload) ++ payload

-- frames::header_of: what octets say, read as a frame; octets that are missing read as 0
unfoldable pub header_of : List ℕ → Header
header_of octets = record { sapi = get_or octets 3 0 / 16; direction = get_or octets 3 0 % 2; sent = pair_at octets 4 }

-- and the payload: all past the six octets of the header
unfoldable pub payload_of : List ℕ → List ℕ
payload_of octets = drop 6 octets

-- the octets are 7 at least, L is 5 to 1,524, and the octets are L + 2
unfoldable pub is_whole : List ℕ → Bool
is_whole octets =
    leb 7 (length octets) && (leb 5 (pair_at octets 0) && (leb (pair_at octets 0) 1524 && eqb (length octets) (pair_at octets 0 + 2)))

-- the three zero bits of octet 3 and the upper seven bits of octets 4 and 5 are zero
unfoldable pub has_zero_bits : List ℕ → Bool
has_zero_bits octets = eqb (get_or octets 3 0 / 2 % 8) 0 && eqb (get_or octets 4 0 / 2) 0

-- the refusals of a look at a frame, in their order: its length, its version, its zero bits
unfoldable pub look_order : List ℕ → List Row
look_order octets =
    record { number = 5; holds = not (is_whole octets) } ∷
    record { number = 6; holds = not (eqb (get_or octets 2 0) 1) } ∷
    record { number = 7; holds = not (has_zero_bits octets) } ∷ []

-- frames::look_refusal
abbrev pub look_refusal_call : List ℕ → Call (Unit {0})
look_refusal_call octets = tells (look_order octets) []

-- frames::look: the ciphered payload of a frame that a look does not refuse, and nothing of any other
unfoldable pub looked : List ℕ → List ℕ
looked octets = cond (eqb (first (look_order octets)) 0) (payload_of octets) []

-- a service number of four bits, a direction of one and an N of nine: what the octets have room for
unfoldable pub is_header : Header → Bool
is_header header = leb header.sapi 15 && (leb header.direction 1 && leb header.sent 511)

-- the refusals of writing a header, in their order
unfoldable pub header_order : Header → ℕ → List ℕ → List Row
header_order header p output =
    record { number = 2; holds = not (is_header header) } ∷
    record { number = 3; holds = eqb p 0 || ltb 1520 p } ∷
    record { number = 4; holds = ltb (length output) 6 } ∷ []

-- frames::put_header
abbrev pub put_header_call : Header → ℕ → List ℕ → Call (List ℕ)
put_header_call header p output = puts (header_order header p output) (header_octets header p) output
