-- The laws of the keystream for its callers.
-- Assumes nothing.
use Prim.Native.Nat.{ℕ, ◌%◌, ◌≤◌, ◌<◌}
use mathlib.Core.Path.{◌≡◌, ap₂}
use mathlib.Core.Bool.{◌||◌, false}
use mathlib.Core.List.{List}
use native.Mathlib.Omega.{arith}
use borrow.Author.Tests.{le-ltb, ne_eqb}
use lib.Dec.{eqb, ltb}
use lib.ListN.{length}
use Rattle.refusals.specs.Refusal.{first}
use Rattle.refusals.specs.Call.{Answered, front}
use Rattle.refusals.proofs.Calls.{answered_done}
use Rattle.octets.specs.Bits.{size, stored}
use Rattle.octets.proofs.Number.{bit_at_lt}
use Rattle.octets.proofs.Octets.{whole_key}
use Rattle.kgcore.specs.declared.Inputs.{Inputs}
use Rattle.kgcore.specs.Kgcore.{kgcore_call, kgcore_order, key_bit}

-- a bit of the keystream is 0 or 1
pub key_bit_lt : (key : List ℕ) (inputs : Inputs) (i : ℕ) → key_bit key inputs i < 2
unfolding key_bit
key_bit_lt key inputs i = bit_at_lt 64 _ (i % 64)

-- where no cause of a refusal holds the output has the first CL bits of the keystream, and the octets past them are kept
pub kgcore_done : (inputs : Inputs) (key : List ℕ) (cl : ℕ) (before : List ℕ) {refusal : ℕ} {numbers after : List ℕ} → Answered (kgcore_call inputs key cl before) refusal numbers after
    → length key ≡ 16 → inputs.cb ≤ 31 → inputs.cd ≤ 1 → 0 < cl → cl ≤ 524288 → size cl ≤ length before
    → (refusal ≡ 0) × (after ≡ front (stored (key_bit key inputs) 0 cl) before)
unfolding first kgcore_order
kgcore_done inputs key cl before answered sixteen cb cd some most room =
    let range : (ltb 31 inputs.cb || ltb 1 inputs.cd) ≡ false = ap₂ ◌||◌ (le-ltb 31 inputs.cb cb) (le-ltb 1 inputs.cd cd) in
    let bits : (eqb cl 0 || ltb 524288 cl) ≡ false = ap₂ ◌||◌ (ne_eqb cl 0 (omega arith)) (le-ltb 524288 cl most) in
    let done = answered_done (kgcore_call inputs key cl before) answered (rw ((whole_key key).1 sixteen, range, bits, le-ltb (length before) (size cl) room)) in
    (done.0, done.2)
