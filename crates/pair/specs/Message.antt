-- What f8 and f9 take: a message of so many bits. A key has 16 octets: one of 8, which A5/3 and GEA3 take, is none here (document 02, item 2).
-- Assumes nothing.
use Rattle.std.specs.Prelude.{ℕ, Bool, not, ◌&&◌, List, [], ◌∷◌, leb, ltb, length}
use Rattle.refusals.specs.Refusal.{Row}
use Rattle.octets.specs.Bits.{size}

-- a message has 1 to 20,000 bits (document 02, item 2; for f8 document 004, table A.1, too)
unfoldable pub is_bit_count : ℕ → Bool
is_bit_count bits = ltb 0 bits && leb bits 20000

-- the refusals of a message, in their order, which both calls keep
unfoldable pub message_order : List ℕ → ℕ → List Row
message_order message bits =
    record { number = 3; holds = not (is_bit_count bits) } ∷
    record { number = 5; holds = ltb (length message) (size bits) } ∷ []
