-- `keystreams::a5` meets its contract: under a prepared key KGCORE refuses nothing here and fills the stream, and each half of its bits is cut into its
-- block.
-- Assumes nothing.
use Prim.Native.Nat.{ℕ, ◌/◌}
use native.Mathlib.Omega.{arith}
use mathlib.Core.Path.{◌≡◌, refl}
use mathlib.Core.Bool.{true}
use mathlib.Core.List.{List}
use Rattle.std.proofs.lemmas.Bool.Decides.{nat_tests}
use lib.ListN.{replicate}
use Rattle.refusals.specs.Refusal.{first}
use Rattle.refusals.specs.Call.{Answered, front}
use Rattle.refusals.proofs.Number.{is_ok}
use Rattle.octets.specs.Bits.{size, stored}
use Rattle.octets.proofs.Cutting.{cut_done}
use Rattle.kgcore.specs.Kgcore.{key_bit, kgcore_call}
use Rattle.kgcore.proofs.Laws.{kgcore_done, key_bit_lt}
use Rattle.keystreams.specs.Key.{is_key, prepared}
use Rattle.keystreams.specs.A5.{Kind, a5_inputs, half, block1, block2, a5_order}
use Rattle.keystreams.proofs.Cutting.{cut_output}
use Rattle.keystreams.proofs.Keys.{length-prepared, prepare_done}
use Rattle.keystreams.proofs.a5.Given.{Over}
use Rattle.keystreams.proofs.a5.Goals as goal

abbrev kind : Over → Kind
kind g = record { ca = g.K.Fixed.CA; cb = g.K.Fixed.CB; ce = g.K.Fixed.CE; cl = g.K.Kind.CL }

-- KGCORE's answer of a key that was prepared
stream : (g : Over) (key : List ℕ) (count : ℕ) {refusal : ℕ} {numbers after : List ℕ} → is_key key ≡ true
    → Answered (kgcore_call (a5_inputs (kind g) count) (prepared key) (kind g).cl (replicate 87 0)) refusal numbers after
    → (refusal ≡ 0) × (after ≡ front (stored (key_bit (prepared key) (a5_inputs (kind g) count)) 0 (kind g).cl) (replicate 87 0))
unfolding a5_inputs size
stream g key count is answered =
    let fits = g.met.K.Kind.fits in
    kgcore_done (a5_inputs (kind g) count) (prepared key) (kind g).cl (replicate 87 0) answered (length-prepared key is)
    (omega (arith, fits)) (omega arith) (omega (arith, fits)) (omega (arith, fits)) (omega (arith, fits))

pub unwrap-requires : goal.unwrap-requires
unfolding a5_inputs
unwrap-requires g c =
    let key = prepare_done c.args.key.now c.in_ok-prepared.ensures (refl {a = 0}) in
    is_ok c.kgcore.result (stream g c.args.key.now c.args.count key.0 (rw (c.inputs-inputs.ensures, key.1, c.CL-cl.ensures) at c.kgcore.ensures)).0

pub unwrap-requires-2 : goal.unwrap-requires-2
unfolding size
unwrap-requires-2 g c = is_ok c.cut.result (cut_done _ 0 (c.CL-cl.result / 2) _ c.cut.ensures (omega arith)).0

pub unwrap-requires-3 : goal.unwrap-requires-3
unfolding size
unwrap-requires-3 g c = is_ok c.cut-2.result (cut_done _ (c.CL-cl.result / 2) (c.CL-cl.result / 2) _ c.cut-2.ensures (omega arith)).0

pub returns : goal.returns
unfolding first a5_order a5_inputs half block1 block2 size front
returns g c =
    let given = c.args in
    let fits = g.met.K.Kind.fits in
    let cl : ℕ = (kind g).cl in
    let key = prepare_done given.key.now c.in_ok-prepared.ensures (refl {a = 0}) in
    let filled = (stream g given.key.now given.count key.0 (rw (c.inputs-inputs.ensures, key.1, c.CL-cl.ensures) at c.kgcore.ensures)).1 in
    let bit : ℕ → ℕ = key_bit (prepared given.key.now) (a5_inputs (kind g) given.count) in
    let lt = key_bit_lt (prepared given.key.now) (a5_inputs (kind g) given.count) in
    let one = cut_output bit cl _ _ 0 (cl / 2) given.block1.now (rw c.CL-cl.ensures at c.cut.ensures) filled (omega arith) (omega (arith, fits)) lt in
    let two = cut_output bit cl _ _ (cl / 2) (cl / 2) given.block2.now (rw c.CL-cl.ensures at c.cut-2.ensures) filled (omega arith) (omega (arith, fits)) lt in
    record {
      refusal_is = rw key.0 (grind (arith, nat_tests));
      numbers_are = refl;
      lent_is = λ i. record { one = one i; two = two i };
    }
