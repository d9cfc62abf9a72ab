-- `sboxes::put_sevens` meets its contract: each turn of the loop puts the next entry behind the 512 that stay.
-- Assumes nothing.
use Rattle.std.proofs.Common.{rules}
use Prim.Native.Nat.{ℕ, ◌+◌, ◌<◌}
use mathlib.Core.Path.{◌≡◌, sym, ap, ap₂, ◌∙◌}
use mathlib.Core.List.{List, [], ◌∷◌, ◌++◌, append-nil, append_assoc}
use native.Mathlib.Omega.{arith}
use native.Mathlib.Numerals.{add-one}
use lib.ListN.{length, take, drop, set, length-append, take-append-drop}
use lib.Seq.{length-take-le}
use Rattle.octets.specs.Bits.{listed}
use Rattle.octets.proofs.Listed.{length-listed, front_store}
use Rattle.sboxes.specs.FiTable.{entry_of_seven}
use Rattle.sboxes.proofs.put_sevens.Goals as goal

-- one entry more
one_more : (before table : List ℕ) (b : ℕ) → length before ≡ 640 → b < 128 → table ≡ (take 512 before ++ listed entry_of_seven b) ++ drop (512 + b) before
    → set table (512 + b) (entry_of_seven b) ≡ (take 512 before ++ listed entry_of_seven (b + 1)) ++ drop (512 + (b + 1)) before
unfolding listed
one_more before table b long below is =
    let kept : List ℕ = take 512 before in
    let some : List ℕ = listed entry_of_seven b in
    ap (λ (l : List ℕ). set l (512 + b) (entry_of_seven b)) is
    ∙ front_store (kept ++ some) before (512 + b) (entry_of_seven b)
    (length-append kept some ∙ ap₂ ◌+◌ (length-take-le 512 before (omega arith)) (length-listed entry_of_seven b))
    (omega arith)
    ∙ ap₂ (λ (l : List ℕ) (k : ℕ). l ++ drop k before)
    {y = kept ++ listed entry_of_seven (b + 1)}
    {u = 512 + b + 1}
    {v = 512 + (b + 1)}
    (append_assoc kept some (entry_of_seven b ∷ []) ∙ rw (add-one b))
    (omega arith)

pub loop-b-init : goal.loop-b-init
unfolding listed
loop-b-init c =
    let before : List ℕ = c.args.table.now in
    sym (ap (λ (l : List ℕ). l ++ drop 512 before) (append-nil (take 512 before)) ∙ take-append-drop 512 before)

pub loop-b-preserved : goal.loop-b-preserved
loop-b-preserved c =
    let b : ℕ = c.loop-b.b in
    ap (set c.loop-b.table (512 + b)) c.entry_of_seven.ensures
    ∙ one_more c.args.table.now c.loop-b.table b (search rules) (omega arith) c.loop-b.invariant
