-- The layout of a frame: what was written is read back, and octets that a look does not refuse are the frame of what they say.
-- Assumes nothing.
use Prim.Native.Nat.{ℕ, zero, suc, ◌+◌, ◌*◌, ◌/◌, ◌%◌, ◌≤◌}
use native.Mathlib.Omega.{arith}
use mathlib.Core.Path.{◌≡◌, refl, sym, ◌∙◌}
use mathlib.Core.List.{List, ◌∷◌}
use lib.ListN.{length, get_or, drop, length-append, length-drop}
use lib.Seq.{drop-cons}
use Rattle.refusals.specs.Refusal.{first}
use Rattle.frames.specs.declared.Header.{Header}
use Rattle.frames.specs.Frame.{pair, pair_at, header_octets, frame, header_of, payload_of, AreOctets, look_order}
use Rattle.frames.proofs.Tests.{Framed, InRange, looked_framed, framed_looked}

-- the header has six octets, and the frame six more than its payload
pub length-header : (header : Header) (p : ℕ) → length (header_octets header p) ≡ 6
unfolding header_octets pair
length-header header p = refl

pub length-frame : (header : Header) (payload : List ℕ) → length (frame header payload) ≡ length payload + 6
unfolding frame
length-frame header payload = length-append (header_octets header (length payload)) payload ∙ omega (arith, length-header header (length payload))

-- what was written is read back
module _ (header : Header) (payload : List ℕ) where
  pub payload_of_frame : payload_of (frame header payload) ≡ payload
  unfolding frame header_octets pair payload_of
  payload_of_frame = refl

  module _ (range : InRange header) where
    pub header_of_frame : header_of (frame header payload) ≡ header
    unfolding frame header_octets pair header_of pair_at
    header_of_frame =
        let sapi_is : (header.sapi * 16 + header.direction) / 16 ≡ header.sapi = omega arith in
        let direction_is : (header.sapi * 16 + header.direction) % 2 ≡ header.direction = omega arith in
        let sent_is : header.sent / 256 * 256 + header.sent % 256 ≡ header.sent = omega arith in
        λ i. record { sapi = sapi_is i; direction = direction_is i; sent = sent_is i }

    -- and a look does not refuse it
    pub frame_framed : 1 ≤ length payload → length payload ≤ 1520 → Framed (frame header payload)
    unfolding frame header_octets pair pair_at
    frame_framed some most = record {
      whole = record { seven_least = omega arith; count_least = omega arith; count_most = omega arith; length_is = omega arith };
      version = refl;
      zero_bits = record { service = omega arith; sent = omega arith };
    }

    pub frame_looked : 1 ≤ length payload → length payload ≤ 1520 → first (look_order (frame header payload)) ≡ 0
    frame_looked some most = framed_looked (frame header payload) (frame_framed some most)

-- what is written is octets
pub frame_octets : (header : Header) (payload : List ℕ) → InRange header → length payload ≤ 1520 → AreOctets payload → AreOctets (frame header payload)
unfolding frame header_octets pair
frame_octets header payload range most each zero = omega arith
frame_octets header payload range most each (suc zero) = omega arith
frame_octets header payload range most each (suc (suc zero)) = omega arith
frame_octets header payload range most each (suc (suc (suc zero))) = omega (arith, range)
frame_octets header payload range most each (suc (suc (suc (suc zero)))) = omega (arith, range)
frame_octets header payload range most each (suc (suc (suc (suc (suc zero))))) = omega arith
frame_octets header payload range most each (suc (suc (suc (suc (suc (suc i)))))) = each i

-- the octets of a header, one by one, and those after them
six_and_more : (octets : List ℕ) → 6 ≤ length octets
    → octets ≡ get_or octets 0 0 ∷ get_or octets 1 0 ∷ get_or octets 2 0 ∷ get_or octets 3 0 ∷ get_or octets 4 0 ∷ get_or octets 5 0 ∷ drop 6 octets
six_and_more octets long =
    cc (
      drop-cons octets 0 0 (omega arith),
      drop-cons octets 1 0 (omega arith),
      drop-cons octets 2 0 (omega arith),
      drop-cons octets 3 0 (omega arith),
      drop-cons octets 4 0 (omega arith),
      drop-cons octets 5 0 (omega arith),
    )

-- octets that a look does not refuse are the frame of what they say
module _ (octets : List ℕ) (each : AreOctets octets) (nothing : first (look_order octets) ≡ 0) where
  framed : Framed octets
  framed = looked_framed octets nothing

  pub length-payload : length (payload_of octets) + 6 ≡ length octets
  unfolding payload_of
  length-payload = omega (arith, framed.whole.seven_least, length-drop 6 octets)

  -- what they say is in range
  pub header_of_range : InRange (header_of octets)
  unfolding header_of pair_at
  header_of_range = record {
    sapi_most = omega (arith, each 3);
    direction_most = omega arith;
    sent_most = omega (arith, each 5, framed.zero_bits.sent);
  }

  pub payload_some : 1 ≤ length (payload_of octets)
  payload_some = omega (arith, length-payload, framed.whole)

  pub payload_most : length (payload_of octets) ≤ 1520
  payload_most = omega (arith, length-payload, framed.whole)

  pub frame_of_octets : frame (header_of octets) (payload_of octets) ≡ octets
  unfolding frame header_octets pair payload_of header_of pair_at
  frame_of_octets =
      let p : ℕ = length (drop 6 octets) in
      let count-is : p + 4 ≡ get_or octets 0 0 * 256 + get_or octets 1 0 = omega (arith, framed.whole.seven_least, framed.whole.length_is, length-drop 6 octets) in
      let high : (p + 4) / 256 ≡ get_or octets 0 0 = omega (arith, count-is, each 1) in
      let low : (p + 4) % 256 ≡ get_or octets 1 0 = omega (arith, count-is, each 1) in
      let version : 1 ≡ get_or octets 2 0 = sym framed.version in
      let service : get_or octets 3 0 / 16 * 16 + get_or octets 3 0 % 2 ≡ get_or octets 3 0 = omega (arith, framed.zero_bits.service) in
      let sent : ℕ = get_or octets 4 0 * 256 + get_or octets 5 0 in
      let sent-high : sent / 256 ≡ get_or octets 4 0 = omega (arith, each 5) in
      let sent-low : sent % 256 ≡ get_or octets 5 0 = omega (arith, each 5) in
      let same : (p + 4) / 256 ∷ (p + 4) % 256 ∷ 1 ∷ (get_or octets 3 0 / 16 * 16 + get_or octets 3 0 % 2) ∷ sent / 256 ∷ sent % 256 ∷ drop 6 octets
      ≡ get_or octets 0 0 ∷ get_or octets 1 0 ∷ get_or octets 2 0 ∷ get_or octets 3 0 ∷ get_or octets 4 0 ∷ get_or octets 5 0 ∷ drop 6 octets = cc in
      same ∙ sym (six_and_more octets (omega (arith, framed.whole.seven_least)))
