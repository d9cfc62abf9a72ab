-- What a call says that it put into a lent output lies within that output, and a result as long as the output is all of it.
-- Assumes nothing.
use Prim.Native.Nat.{ℕ, ◌≤◌}
use native.Mathlib.Omega.{arith}
use mathlib.Core.Path.{◌≡◌, sym, ap, ◌∙◌}
use mathlib.Core.List.{List, ◌++◌, append-nil}
use lib.ListN.{length, take, drop, length-append, drop_of_length-le}
use lib.Seq.{length-take-le}
use Rattle.refusals.specs.Call.{front}

-- in the form in which the prover looks for it where a caller takes the front of the output, `&output[..count]`
abbrev pub Within : ℕ → List ℕ → Type 0
Within count output = (count ≤ length output) × (count ≡ length (take count output))

within : (count : ℕ) (output : List ℕ) → count ≤ length output → Within count output
within count output least = (least, sym (length-take-le count output least))

-- a result at the front, and none
pub front_within : (result before : List ℕ) {count : ℕ} {after : List ℕ} → count ≡ length result → after ≡ front result before → Within count after
unfolding front
front_within result before {count} {after} count-is output_is =
    within count after (omega (arith, count-is, ap length output_is, length-append result (drop (length result) before)))

pub none_within : {count : ℕ} (after : List ℕ) → count ≡ 0 → Within count after
none_within {count} after none = within count after (omega (arith, none))

-- a result as long as the output is all of it
pub front_whole : (result before : List ℕ) → length result ≡ length before → front result before ≡ result
unfolding front
front_whole result before same =
    ap (λ (l : List ℕ). result ++ l) (drop_of_length-le before {i = length result} (omega arith)) ∙ append-nil result
