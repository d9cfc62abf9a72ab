-- The laws of the look and of writing a header, for their readers and their callers.
-- Assumes nothing.
use Prim.Native.Nat.{ℕ, ◌≤◌, ◌<◌}
use native.Mathlib.Omega.{arith}
use mathlib.Core.Path.{◌≡◌, ap, ap₂}
use mathlib.Core.Logic.{◌↔◌}
use mathlib.Core.Bool.{◌||◌, false}
use mathlib.Core.List.{List}
use borrow.Author.Tests.{ne_eqb, le-ltb}
use lib.Dec.{eqb, ltb}
use lib.ListN.{length, length-drop}
use Rattle.refusals.specs.Refusal.{first}
use Rattle.refusals.specs.Call.{Answered, front}
use Rattle.refusals.proofs.Calls.{answered_done}
use Rattle.frames.specs.declared.Header.{Header}
use Rattle.frames.specs.Frame.{header_octets, payload_of, looked, look_order, header_order, put_header_call}
use Rattle.frames.proofs.Tests.{InRange, says_header, looked_framed, looked_passed, looked_refused}

-- a look's stretch is empty exactly where 5, 6 or 7 applies
pub look_empty : (octets : List ℕ) → (length (looked octets) ≡ 0) ↔ (first (look_order octets) ≡ 0 → ⊥)
unfolding payload_of
look_empty octets = (
  (λ empty nothing. omega (arith, ap length (looked_passed octets nothing), length-drop 6 octets, (looked_framed octets nothing).whole.seven_least)),
  (λ refused. ap length (looked_refused octets refused)),
)

-- where no cause of a refusal holds the six octets stand at the front, and the octets past them are kept
pub header_done : (header : Header) (p : ℕ) (before : List ℕ) {refusal : ℕ} {numbers after : List ℕ} → Answered (put_header_call header p before) refusal numbers after
    → InRange header → 0 < p → p ≤ 1520 → 6 ≤ length before → (refusal ≡ 0) × (after ≡ front (header_octets header p) before)
unfolding first header_order
header_done header p before answered range some most room =
    let sizes : (eqb p 0 || ltb 1520 p) ≡ false = ap₂ ◌||◌ (ne_eqb p 0 (omega arith)) (le-ltb 1520 p most) in
    let done = answered_done (put_header_call header p before) answered (rw (says_header header range, sizes, le-ltb (length before) 6 room)) in
    (done.0, done.2)
