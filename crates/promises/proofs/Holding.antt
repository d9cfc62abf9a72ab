-- A lent output with a stored bit string at its front holds the bits. Assumes nothing.
use Prim.Native.Nat.{ℕ, ◌*◌, ◌<◌}
use native.Mathlib.Omega.{arith}
use mathlib.Core.Path.{◌≡◌, ap, subst, ◌∙◌}
use mathlib.Core.List.{List, ◌++◌}
use lib.ListN.{drop}
use lib.Seq.{drop_at}
use Rattle.refusals.specs.Call.{front}
use Rattle.octets.specs.Bits.{bit_of, part, size, stored}
use Rattle.octets.proofs.Stored.{length-stored, front_stored, part_in, part_out, part_of_stored}
use Rattle.promises.specs.BitForBit.{HoldsBits}

module _ (bit : ℕ → ℕ) (is-bit : (i : ℕ) → bit i < 2) (start count : ℕ) (before after : List ℕ) (is : after ≡ front (stored bit start count) before) where
  whole : after ≡ stored bit start count ++ drop (size count) before
  whole = is ∙ front_stored bit start count before

  bit_is : (i : ℕ) → i < 8 * size count → bit_of after i ≡ part bit start count i
  bit_is i within = ap (λ (l : List ℕ). bit_of l i) whole ∙ part_of_stored bit start count (drop (size count) before) i within is-bit

  pub holds_bits : (octets : ℕ) → size count ≡ octets → HoldsBits bit start count octets before after
  unfolding size
  holds_bits octets all =
      subst (λ (o : ℕ). HoldsBits bit start count o before after) all
      (record {
        bits = λ i within. bit_is i (omega arith) ∙ part_in bit start count i within;
        spare = λ i past within. bit_is i within ∙ part_out bit start count i past;
        past = ap (drop (size count)) whole ∙ drop_at (stored bit start count) (drop (size count) before) (size count) (length-stored bit start count);
      })
