-- `numbering::Numbering::raised` meets its contract: what is added to `low` is how far `sent` lies ahead of it in its turn, or in the next.
-- Assumes nothing.
use borrow.Author.Tests.{leb-true, leb-false}
use mathlib.Core.Path.{◌≡◌}
use Prim.Native.Nat.{ℕ, ◌+◌, ◌-◌, ◌*◌, ◌/◌, ◌%◌, ◌<◌}
use native.Mathlib.Omega.{arith}
use lib.Dec.{leb}
use Rattle.refusals.proofs.Tests.{by-test}
use Rattle.numbering.specs.Numbering.{width, first_from}
use Rattle.numbering.proofs.Numbering.raised.Goals as goal

-- the code's sum, whichever turn it ends in
summed : (low N : ℕ) → N < 512 → low + (N + (512 - low % 512)) % 512 ≡ first_from low N
unfolding first_from
summed low N sent =
    let turn : ℕ = low / 512 * 512 in
    by-test (leb low (turn + N)) (low + (N + (512 - low % 512)) % 512 ≡ first_from low N)
    (λ here. rw here (omega (arith, leb-true low (turn + N) here)))
    (λ next. rw next (omega (arith, leb-false low (turn + N) next)))

pub returns : goal.returns
returns c = summed (c.args.self.next + (512 - width)) c.args.sent c.requires.1
