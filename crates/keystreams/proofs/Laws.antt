-- The laws of GEA4 for its callers.
-- Assumes nothing.
use Prim.Native.Nat.{ℕ, ◌*◌, ◌<◌, ◌≤◌}
use native.Mathlib.Omega.{arith}
use mathlib.Core.Path.{◌≡◌, ap, ap₂, ◌∙◌}
use mathlib.Core.Bool.{◌||◌, true, false}
use mathlib.Core.List.{List}
use borrow.Author.Tests.{ne_eqb, le-ltb}
use lib.Dec.{eqb, ltb}
use lib.ListN.{length}
use Rattle.refusals.specs.Refusal.{first}
use Rattle.refusals.specs.Call.{Answered, front}
use Rattle.refusals.proofs.Calls.{answered_done}
use Rattle.octets.specs.Bits.{size, stored}
use Rattle.octets.proofs.Stored.{length-stored}
use Rattle.kgcore.specs.Kgcore.{key_bit}
use Rattle.keystreams.specs.Key.{is_key, prepared}
use Rattle.keystreams.specs.Gea4.{gea4_inputs, gea4_output, gea4_order, gea4_call}
use Rattle.keystreams.proofs.Keys.{prepared_again}

-- M octets
pub length_gea4 : (key : List ℕ) (input direction m : ℕ) → length (gea4_output key input direction m) ≡ m
unfolding gea4_output size
length_gea4 key input direction m = length-stored (key_bit (prepared key) (gea4_inputs input direction)) 0 (8 * m) ∙ omega arith

-- a prepared key has the keystream of the key that yielded it
pub gea4_prepared : (key : List ℕ) (input direction m : ℕ) → is_key key ≡ true → gea4_output (prepared key) input direction m ≡ gea4_output key input direction m
unfolding gea4_output
gea4_prepared key input direction m key_is = ap (λ (k : List ℕ). stored (key_bit k (gea4_inputs input direction)) 0 (8 * m)) (prepared_again key key_is)

-- where no cause of a refusal holds the output has the keystream, and the octets past it are kept
pub gea4_done : (key : List ℕ) (input direction m : ℕ) (before : List ℕ) {refusal : ℕ} {numbers after : List ℕ} → Answered (gea4_call key input direction m before) refusal numbers after
    → is_key key ≡ true → direction ≤ 1 → 0 < m → m ≤ 65536 → m ≤ length before
    → (refusal ≡ 0) × (after ≡ front (gea4_output key input direction m) before)
unfolding first gea4_order
gea4_done key input direction m before answered key_is way some most room =
    let sizes : (eqb m 0 || ltb 65536 m) ≡ false = ap₂ ◌||◌ (ne_eqb m 0 (omega arith)) (le-ltb 65536 m most) in
    let done = answered_done (gea4_call key input direction m before) answered (rw (key_is, le-ltb 1 direction way, sizes, le-ltb (length before) m room)) in
    (done.0, done.2)
