-- The law of a cut for its callers.
-- Assumes nothing.
use Prim.Native.Nat.{ℕ, ◌≤◌}
use mathlib.Core.Path.{◌≡◌}
use mathlib.Core.List.{List}
use borrow.Author.Tests.{le-ltb}
use lib.ListN.{length}
use Rattle.refusals.specs.Refusal.{first}
use Rattle.refusals.specs.Call.{Answered, front}
use Rattle.refusals.proofs.Calls.{answered_done}
use Rattle.octets.specs.Bits.{bit_of, size, stored}
use Rattle.octets.specs.Cut.{cut_call, cut_order}

-- where there is room the bits are cut, and the octets past them are kept
pub cut_done : (source : List ℕ) (start count : ℕ) (before : List ℕ) {refusal : ℕ} {numbers after : List ℕ} → Answered (cut_call source start count before) refusal numbers after
    → size count ≤ length before → (refusal ≡ 0) × (after ≡ front (stored (bit_of source) start count) before)
unfolding first cut_order
cut_done source start count before answered room =
    let done = answered_done (cut_call source start count before) answered (rw (le-ltb (length before) (size count) room)) in
    (done.0, done.2)
