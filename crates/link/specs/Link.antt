-- What both ends of a link share, and the frame of a number on it. Assumes nothing.
use Rattle.std.specs.Prelude.{ℕ, ◌%◌, Bool, not, ◌&&◌, ◌||◌, List, [], ◌∷◌, length, replicate, ◌==◌, nat_le, nat_lt}
use Rattle.refusals.specs.Among.{is_among}
use Rattle.refusals.specs.Refusal.{Row}
use Rattle.refusals.specs.Call.{Call, puts, makes}
use Rattle.octets.specs.Xor.{xored}
use Rattle.keystreams.specs.Key.{is_key, prepared}
use Rattle.keystreams.specs.Gea4.{gea4_output}
use Rattle.frames.specs.declared.Header.{Header}
use Rattle.frames.specs.Frame.{frame}
use Rattle.link.specs.Input.{input_of}
use Rattle.link.specs.Services.{assigned}
use Rattle.link.specs.declared.Link.{Link}

-- a service number that exists: one that is assigned
unfoldable pub is_service : ℕ → Bool
unfolding is_among
is_service sapi = is_among sapi assigned

-- a direction: 0 phone to cell, 1 cell to phone
unfoldable pub is_direction : ℕ → Bool
is_direction direction = nat_le direction 1

-- link::can_arise: a link whose service number and direction exist; 12 is answered where it is not so
unfoldable pub link_can_arise : Link → Bool
link_can_arise link = is_service link.sapi && is_direction link.direction

-- the refusals of opening a link, and so either end of it, in their order: 1 for a key of neither 8 octets nor 16; 2 for a SAPI that is reserved
-- (document 02, item 5) or a direction above 1
unfoldable pub link_order : List ℕ → ℕ → ℕ → List Row
link_order key sapi direction =
    record { number = 1; holds = not (is_key key) } ∷
    record { number = 2; holds = not (is_service sapi && is_direction direction) } ∷ []

-- no link: all zeros with direction 2, which no call takes
unfoldable pub no_link : Link
no_link = record { key = replicate 16 0; iov = 0; sapi = 0; direction = 2 }

-- the link of a key, which holds the prepared key
unfoldable pub link_of : List ℕ → ℕ → ℕ → ℕ → Link
link_of key iov sapi direction = record { key = prepared key; iov = iov; sapi = sapi; direction = direction }

-- link::open_link
abbrev pub open_link_call : List ℕ → ℕ → ℕ → ℕ → Call Link
open_link_call key iov sapi direction = makes (link_order key sapi direction) no_link (link_of key iov sapi direction)

-- a payload xor the GEA4 octets of its number: the ciphered payload of a payload, and the payload of a ciphered one
unfoldable pub ciphered : Link → ℕ → List ℕ → List ℕ
ciphered link n payload = xored payload (gea4_output link.key (input_of link.iov link.sapi n) link.direction (length payload))

-- a payload has 1 to 1,520 octets
unfoldable pub is_payload : List ℕ → Bool
is_payload payload = not (length payload == 0 || nat_lt 1520 (length payload))

-- the refusals of ciphering, in their order
unfoldable pub cipher_order : Link → List ℕ → List ℕ → List Row
cipher_order link payload output =
    record { number = 12; holds = not (link_can_arise link) } ∷
    record { number = 3; holds = not (is_payload payload) } ∷
    record { number = 4; holds = nat_lt (length output) (length payload) } ∷ []

-- link::cipher, of the payload of number n, to cipher it or to decipher it
abbrev pub cipher_call : Link → ℕ → List ℕ → List ℕ → Call (List ℕ)
cipher_call link n payload output = puts (cipher_order link payload output) (ciphered link n payload) output

-- what the header of number n says on this link: SAPI, direction and, as `sent`, N = n mod 512
unfoldable pub header_at : Link → ℕ → Header
header_at link n = record { sapi = link.sapi; direction = link.direction; sent = n % 512 }

-- the frame of number n with this payload on this link
unfoldable pub frame_at : Link → ℕ → List ℕ → List ℕ
frame_at link n payload = frame (header_at link n) (ciphered link n payload)
