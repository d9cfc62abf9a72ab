-- A block of A5/4 is cut out of KGCORE's output. The law of the cut itself, over start and length, is `stored_cut` of the crate octets.
-- Assumes nothing.
use Prim.Native.Nat.{ℕ, ◌+◌, ◌<◌, ◌≤◌}
use native.Mathlib.Nat.{zero-add}
use mathlib.Core.Path.{◌≡◌, ◌∙◌, ap}
use mathlib.Core.List.{List, ◌++◌}
use lib.ListN.{length}
use Rattle.refusals.specs.Call.{Answered, front}
use Rattle.octets.specs.Bits.{bit_of, size, stored}
use Rattle.octets.specs.Cut.{cut_call}
use Rattle.octets.proofs.Cutting.{cut_done}
use Rattle.octets.proofs.Stored.{stored_cut}

-- a cut, with room for it, of octets that begin with a stored bit string leaves that part of the bit string in its output
pub cut_output : (f : ℕ → ℕ) (total : ℕ) (rest source : List ℕ) (start count : ℕ) (before : List ℕ) {refusal : ℕ} {numbers after : List ℕ}
    → Answered (cut_call source start count before) refusal numbers after
    → source ≡ stored f 0 total ++ rest → size count ≤ length before → start + count ≤ total → ((i : ℕ) → f i < 2)
    → after ≡ front (stored f start count) before
cut_output f total rest source start count before answered holds room within bits =
    (cut_done source start count before answered room).1
    ∙ ap (λ (octets : List ℕ). front (stored (bit_of octets) start count) before) holds
    ∙ ap (λ (result : List ℕ). front result before) (stored_cut f 0 total rest start count within bits)
    ∙ ap (λ (from : ℕ). front (stored f from count) before) (zero-add start)
