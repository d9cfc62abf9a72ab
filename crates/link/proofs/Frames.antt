-- The frame of a number on a link: its length, its header, and its payload, which is deciphered as it was ciphered.
-- Assumes nothing.
use Rattle.std.proofs.Common.{◌≡◌, ℕ, ◌+◌, ◌≤◌, true, List, length, ap, ◌∙◌, arith}
use Rattle.refusals.specs.Refusal.{first}
use Rattle.octets.specs.Xor.{xored}
use Rattle.octets.proofs.Xored.{length-xored, xored_twice}
use Rattle.keystreams.specs.Gea4.{gea4_output}
use Rattle.frames.specs.Frame.{header_of, payload_of, look_order}
use Rattle.frames.proofs.Tests.{InRange}
use Rattle.frames.proofs.ReadBack.{length-frame, header_of_frame, payload_of_frame, frame_looked}
use Rattle.link.specs.declared.Link.{Link}
use Rattle.link.specs.Input.{input_of}
use Rattle.link.specs.Link.{link_can_arise, ciphered, header_at, frame_at}
use Rattle.link.proofs.Links.{link_says, service_most, direction_most}

module _ (link : Link) (n : ℕ) where
  pub length-ciphered : (payload : List ℕ) → length (ciphered link n payload) ≡ length payload
  unfolding ciphered
  length-ciphered payload = length-xored payload _

  -- ciphered twice is as it was
  pub ciphered_twice : (payload : List ℕ) → ciphered link n (ciphered link n payload) ≡ payload
  unfolding ciphered
  ciphered_twice payload =
      ap (λ (m : ℕ). xored (ciphered link n payload) (gea4_output link.key (input_of link.iov link.sapi n) link.direction m)) (length-ciphered payload)
      ∙ xored_twice payload _

  pub length-frame_at : (payload : List ℕ) → length (frame_at link n payload) ≡ length payload + 6
  unfolding frame_at
  length-frame_at payload = length-frame (header_at link n) (ciphered link n payload) ∙ omega (arith, length-ciphered payload)

  -- what stands in it is read back, and a look does not refuse it
  module _ (good : link_can_arise link ≡ true) where
    pub header_at_range : InRange (header_at link n)
    unfolding header_at
    header_at_range =
        let says = link_says link good in
        record { sapi_most = service_most link.sapi says.0; direction_most = direction_most link.direction says.1; sent_most = omega arith }

    module _ (payload : List ℕ) where
      pub header_of_frame_at : header_of (frame_at link n payload) ≡ header_at link n
      unfolding frame_at
      header_of_frame_at = header_of_frame (header_at link n) _ header_at_range

      pub payload_of_frame_at : payload_of (frame_at link n payload) ≡ ciphered link n payload
      unfolding frame_at
      payload_of_frame_at = payload_of_frame (header_at link n) (ciphered link n payload)

      pub frame_at_looked : 1 ≤ length payload → length payload ≤ 1520 → first (look_order (frame_at link n payload)) ≡ 0
      unfolding frame_at
      frame_at_looked some most =
          let long : length (ciphered link n payload) ≡ length payload = length-ciphered payload in
          frame_looked (header_at link n) (ciphered link n payload) header_at_range (omega arith) (omega arith)
