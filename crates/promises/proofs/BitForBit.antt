-- The keystreams are KGCORE's output, bit for bit. Assumes nothing.
use Prim.Native.Nat.{ℕ, ◌+◌, ◌*◌, ◌/◌, ◌%◌}
use native.Mathlib.Omega.{arith}
use mathlib.Core.Path.{◌≡◌, refl, sym, ap, subst, ◌∙◌}
use mathlib.Core.Bool.{true}
use mathlib.Core.List.{List}
use lib.ListN.{length, get_or}
use Rattle.refusals.specs.Call.{front, Outputs}
use Rattle.octets.specs.Bits.{bit_at, bit_of, size, stored}
use Rattle.kgcore.specs.declared.Inputs.{Inputs}
use Rattle.kgcore.specs.Kgcore.{key_bit}
use Rattle.kgcore.proofs.Laws.{key_bit_lt}
use Rattle.keystreams.specs.Key.{is_key, prepared}
use Rattle.keystreams.specs.A5.{gsm_kind, ecsd_kind, half, block1, block2, a5_inputs}
use Rattle.keystreams.specs.Gea4.{gea4_output, gea4_inputs}
use Rattle.keystreams.proofs.Keys.{key_most, length-prepared, prepared_octet, source_before, source_past, prepare_done}
use Rattle.promises.specs.BitForBit.{HoldsBits, FilledUp, BitForBit}
use Rattle.promises.proofs.Holding.{holds_bits}

-- ---- what a key yields is the key filled up

module _ (key : List ℕ) (is : is_key key ≡ true) where
  filled_up : FilledUp key (prepared key)
  unfolding bit_of
  filled_up = record {
    size = length-prepared key is;
    own = λ i below.
        ap (λ (octet : ℕ). bit_at 8 octet (i % 8))
        (prepared_octet key (i / 8) is (omega (arith, key_most key is, below))
        ∙ ap (λ (k : ℕ). get_or key k 0) (source_before (length key) (i / 8) (omega (arith, below))));
    anew = λ i below.
        ap (λ (place : ℕ). bit_at 8 (get_or (prepared key) place 0) ((8 * length key + i) % 8)) {y = length key + i / 8} (omega arith)
        ∙ ap (bit_at 8 (get_or (prepared key) (length key + i / 8) 0)) {y = i % 8} (omega arith)
        ∙ ap (λ (octet : ℕ). bit_at 8 octet (i % 8))
        (prepared_octet key (length key + i / 8) is (omega (arith, below))
        ∙ ap (λ (k : ℕ). get_or key k 0) (source_past (length key) (length key + i / 8) (omega arith) ∙ omega arith));
  }

-- ---- the keystreams

-- what a success leaves holds the bits
key_bits : (key : List ℕ) (inputs : Inputs) (start count : ℕ) (before after : List ℕ) → after ≡ front (stored (key_bit key inputs) start count) before
    → (octets : ℕ) → size count ≡ octets → HoldsBits (key_bit key inputs) start count octets before after
key_bits key inputs = holds_bits (key_bit key inputs) (key_bit_lt key inputs)

pub bit_for_bit : BitForBit
unfolding block1 block2 half gsm_kind ecsd_kind gea4_output size
bit_for_bit = record {
  preparation = λ key answered.
      let done = prepare_done key answered refl in
      (done.1, subst (FilledUp key) (sym done.1) (filled_up key done.0));
  kgcore = λ inputs key cl octets before {output} answered enough fewest. key_bits key inputs 0 cl before output answered.lent_is octets (omega arith);
  gsm = λ key count before {blocks} answered. (
    key_bits (prepared key) (a5_inputs gsm_kind count) 0 114 before.one blocks.one (ap (λ (l : Outputs). l.one) answered.lent_is) 15 refl,
    key_bits (prepared key) (a5_inputs gsm_kind count) 114 114 before.two blocks.two (ap (λ (l : Outputs). l.two) answered.lent_is) 15 refl,
  );
  ecsd = λ key count before {blocks} answered. (
    key_bits (prepared key) (a5_inputs ecsd_kind count) 0 348 before.one blocks.one (ap (λ (l : Outputs). l.one) answered.lent_is) 44 refl,
    key_bits (prepared key) (a5_inputs ecsd_kind count) 348 348 before.two blocks.two (ap (λ (l : Outputs). l.two) answered.lent_is) 44 refl,
  );
  gea4 = λ key input direction m before {output} answered.
      key_bits (prepared key) (gea4_inputs input direction) 0 (8 * m) before output answered.lent_is m (omega arith);
}
