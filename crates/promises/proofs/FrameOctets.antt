-- A frame on the air is octets, where its payload is. Assumes nothing.
use Prim.Native.Nat.{ℕ, ◌+◌, ◌*◌, ◌≤◌, ◌<◌}
use native.Mathlib.Decide.{dec_lt}
use native.Mathlib.Omega.{arith}
use mathlib.Core.Path.{◌≡◌, sym, subst}
use mathlib.Core.Bool.{true}
use mathlib.Core.List.{List}
use lib.Bits.{bit_xor, xor_lt}
use lib.Dec.{lit<}
use lib.ListN.{length, get_or, get_or-eq_default}
use Rattle.octets.specs.Bits.{octet, part, stored}
use Rattle.octets.specs.Octets.{AreOctets}
use Rattle.octets.specs.Xor.{xored}
use Rattle.octets.proofs.Listed.{get_or-listed}
use Rattle.octets.proofs.Number.{number_lt}
use Rattle.octets.proofs.Stored.{part_lt, length-stored, get_or-stored}
use Rattle.octets.proofs.Xored.{length-xored}
use Rattle.kgcore.proofs.Laws.{key_bit_lt}
use Rattle.keystreams.specs.Gea4.{gea4_output}
use Rattle.frames.proofs.ReadBack.{frame_octets}
use Rattle.link.specs.declared.Link.{Link}
use Rattle.link.specs.Link.{link_can_arise, header_at, ciphered, frame_at}
use Rattle.link.proofs.Frames.{header_at_range, length-ciphered}

-- a list whose elements are octets up to its length is octets
within_length : (l : List ℕ) → ((i : ℕ) → i < length l → get_or l i 0 < 256) → AreOctets l
within_length l each i =
    elim (dec_lt i (length l)) [
      | yes inside ↦ each i inside
      | no outside ↦ subst (λ (x : ℕ). x < 256) (sym (get_or-eq_default l 0 {n = i} (omega arith))) (lit< tt)
    ]

stored_octets : (bit : ℕ → ℕ) (start count : ℕ) → ((j : ℕ) → bit j < 2) → AreOctets (stored bit start count)
unfolding octet
stored_octets bit start count is-bit =
    within_length (stored bit start count)
    (λ i inside.
    subst (λ (x : ℕ). x < 256) (sym (get_or-stored bit start count i (omega (arith, inside, length-stored bit start count))))
    (number_lt (λ j. part bit start count (i * 8 + j)) 8 (λ j. part_lt bit start count is-bit (i * 8 + j))))

xored_octets : (source stream : List ℕ) → AreOctets source → AreOctets stream → AreOctets (xored source stream)
unfolding xored
xored_octets source stream each other =
    within_length (xored source stream)
    (λ i inside.
    subst (λ (x : ℕ). x < 256) (sym (get_or-listed (λ k. bit_xor (get_or source k 0) (get_or stream k 0)) (length source) i 0 (omega (arith, inside, length-xored source stream))))
    (xor_lt 8 (get_or source i 0) (get_or stream i 0) (each i) (other i)))

pub frame_at_octets : (link : Link) (n : ℕ) (payload : List ℕ) → link_can_arise link ≡ true → length payload ≤ 1520 → AreOctets payload → AreOctets (frame_at link n payload)
unfolding frame_at ciphered gea4_output
frame_at_octets link n payload good most each =
    frame_octets (header_at link n) (ciphered link n payload) (header_at_range link n good) (omega (arith, most, length-ciphered link n payload))
    (xored_octets payload _ each (stored_octets _ 0 (8 * length payload) (λ j. key_bit_lt _ _ j)))
