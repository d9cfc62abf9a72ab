-- `numbering::Numbering::is_accepted` meets its contract: the mask's test is the mark of the number.
-- Assumes nothing.
use borrow.Author.Tests.{lt-ltb}
use mathlib.Core.Path.{ap, ◌∙◌}
use mathlib.Core.Bool.{not}
use Prim.Native.Nat.{ℕ, ◌-◌}
use lib.Bits.{bit_and}
use lib.Dec.{eqb}
use Rattle.numbering.specs.Numbering.{marks_of, is_accepted}
use Rattle.numbering.proofs.Masks.{mask_tests}
use Rattle.numbering.proofs.Numbering.is_accepted.Goals as goal

pub returns-then-number-self : goal.returns-then-number-self
unfolding marks_of is_accepted
returns-then-number-self c =
    let state = c.args.self in
    ap (λ (m : ℕ). not (eqb (bit_and state.marks m) 0)) c.mask.ensures
    ∙ mask_tests state.marks (state.next - 1 - c.args.number)
    ∙ simp (lt-ltb _ _ c.if-number-self.true)
