-- `lines::put_text` meets its contract: there is room to copy the text, or there is none.
-- Assumes nothing.
use native.Mathlib.Omega.{arith}
use Prim.Native.Nat.{ℕ}
use mathlib.Core.Path.{sym, ap, ◌∙◌}
use mathlib.Core.List.{List, ◌++◌}
use lib.ListN.{length, drop}
use lib.Seq.{take-length}
use Rattle.lines.proofs.Placed.{at_front_copied}
use Rattle.lines.proofs.Text.{put_short, put_fits}
use Rattle.lines.proofs.put_text.Goals as goal

pub returns-then-output-count : goal.returns-then-output-count
returns-then-output-count c = put_short _ _ _ c.if-output-count.true

pub returns : goal.returns
returns c =
    let text : List ℕ = c.args.text.now in
    let before : List ℕ = c.args.output.now in
    put_fits _ _ (omega arith)
    (at_front_copied text before
    (ap (λ (l : List ℕ). l ++ drop (length text) before) (c.copy_from_slice.ensures.after ∙ sym (take-length text))))
