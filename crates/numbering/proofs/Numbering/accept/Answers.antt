-- `numbering::Numbering::accept` meets its contract: a short gap moves the marks, and a long one leaves none.
-- Assumes nothing.
use borrow.Author.Tests.{le-leb}
use mathlib.Core.Path.{sym, ap, ◌∙◌}
use Prim.Native.Nat.{ℕ, ◌+◌, ◌-◌}
use native.Mathlib.Omega.{arith}
use lib.Dec.{lit<}
use Rattle.numbering.specs.Numbering.{width, marks_of, numbering_of, accepted}
use Rattle.numbering.proofs.Masks.{moved_marked, moved_out}
use Rattle.numbering.proofs.Numbering.accept.Goals.{then-gap-ge-WIDTH, else-gap-ge-WIDTH}
use Rattle.numbering.proofs.Numbering.accept.Goals as goal

pub returns : goal.returns
unfolding marks_of accepted
returns c =
    let state = c.args.self.now in
    let after : ℕ = c.args.number + 1 in
    ap (numbering_of after)
    (elim c.if-gap-ge-WIDTH.branch [
      | then-gap-ge-WIDTH w ↦ w.self-is ∙ ap (λ (m : ℕ). m + 1) (sym (moved_out width state.marks (after - state.next) (omega arith)))
      | else-gap-ge-WIDTH w ↦ w.self-is ∙ moved_marked width state.marks (after - state.next) (lit< tt) (omega arith)
    ])
    ∙ simp (le-leb _ _ c.if-number-self.false)
