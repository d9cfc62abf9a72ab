-- Eight octets of a list as one number of 64 bits, the first octet highest.
-- Assumes nothing.
use Prim.Native.Nat.{ℕ, ◌+◌, ◌*◌, ◌^◌, ◌<◌}
use native.Mathlib.Omega.{arith}
use mathlib.Core.Path.{◌≡◌, refl, sym, ap, ◌∙◌}
use mathlib.Core.List.{List}
use lib.Dec.{lit<}
use lib.ListN.{get_or}
use Rattle.std.proofs.Common.{w64}
use Rattle.std.specs.Int.{from_be_bytes}
use Rattle.octets.specs.Bits.{bit_of, number, octet}
use Rattle.octets.specs.Octets.{AreOctets}
use Rattle.octets.proofs.Number.{number_ext, number_add}
use Rattle.octets.proofs.Stored.{octet_bit_of}

-- the bits from octet `at` on
abbrev pub bit_from : List ℕ → ℕ → ℕ → ℕ
bit_from octets at j = bit_of octets (8 * at + j)

-- no bits write 0
number_none : (f : ℕ → ℕ) → number f 0 ≡ 0
unfolding number
number_none f = refl

-- with the next octet the number has eight bits more
octet_more : (octets : List ℕ) (at j : ℕ) → get_or octets (at + j) 0 < 2 ^ 8
    → number (bit_from octets at) (8 * j) * 256 + get_or octets (at + j) 0 ≡ number (bit_from octets at) (8 * (j + 1))
unfolding octet
octet_more octets at j fits =
    ap (λ (x : ℕ). number (bit_from octets at) (8 * j) * 256 + x)
    (sym (octet_bit_of octets (at + j) fits) ∙ number_ext _ _ 8 (λ i _. ap (bit_of octets) (omega arith)))
    ∙ sym (number_add (bit_from octets at) (8 * j) 8)
    ∙ ap (number (bit_from octets at)) (omega arith)

-- `from_be_bytes` of the eight octets from octet `at` on
pub word_bits : (octets : List ℕ) (at : ℕ) (word : List ℕ) → AreOctets octets → ((i : ℕ) → i < 8 → get_or word i 0 ≡ get_or octets (at + i) 0)
    → from_be_bytes w64 word ≡ number (bit_from octets at) 64
word_bits octets at word each same =
    omega (
      arith,
      number_none (bit_from octets at),
      octet_more octets at 0 (each (at + 0)),
      octet_more octets at 1 (each (at + 1)),
      octet_more octets at 2 (each (at + 2)),
      octet_more octets at 3 (each (at + 3)),
      octet_more octets at 4 (each (at + 4)),
      octet_more octets at 5 (each (at + 5)),
      octet_more octets at 6 (each (at + 6)),
      octet_more octets at 7 (each (at + 7)),
      same 0 (lit< tt),
      same 1 (lit< tt),
      same 2 (lit< tt),
      same 3 (lit< tt),
      same 4 (lit< tt),
      same 5 (lit< tt),
      same 6 (lit< tt),
      same 7 (lit< tt),
    )
