-- `demo::hosts::Phone::keep_ahead` meets its contract: who sees to the reservation decides, and whether it is behind.
-- Assumes nothing.
use Prim.Native.Nat.{◌+◌, min}
use mathlib.Core.Path.{◌≡◌, ap, ◌∙◌}
use native.Mathlib.Omega.{arith}
use Rattle.numbering.specs.Numbering.{end}
use Rattle.demo.specs.Ends.{sender_in, stored_phone, told_phone}
use Rattle.demo.proofs.Ends.{kept_ahead_lem, kept_by_script, kept_as_is}
use Rattle.demo.proofs.hosts.Phone.keep_ahead.Goals as goal

pub returns-in_default : goal.returns-in_default
returns-in_default c = kept_by_script c.args.self.now c.in_default.is

pub returns-then-reserved-next : goal.returns-then-reserved-next
unfolding end
returns-then-reserved-next c =
    let phone = c.args.self.now in
    let reserved_is : c.min.result ≡ min ((sender_in phone).next + 64) 134217728 =
    omega (arith, c.min.ensures, c.saturating_add.ensures, c.next-next.ensures) in
    c.tell.ensures.phone
    ∙ ap told_phone (c.store.ensures.phone ∙ ap (stored_phone phone) reserved_is)
    ∙ kept_ahead_lem phone c.in-Bench.is (omega (arith, c.if-reserved-next.true, c.reserved.ensures, c.next-next.ensures))

pub returns-else-reserved-next : goal.returns-else-reserved-next
returns-else-reserved-next c =
    kept_as_is c.args.self.now c.in-Bench.is (omega (arith, c.if-reserved-next.false, c.reserved.ensures, c.next-next.ensures))
