-- `demo::hosts::Cell::open` meets its contract: the cell answers as its receiver does.
-- Assumes nothing.
use mathlib.Core.Path.{refl}
use Rattle.demo.proofs.Ends.{open_meets, no_receiver_opens}
use Rattle.demo.proofs.hosts.Cell.open.Goals as goal

pub returns-in_default : goal.returns-in_default
returns-in_default c =
    rw c.from.ensures (open_meets c.args.self.now c.in_default.is (no_receiver_opens c.args.octets.now c.args.text.now) c.in_default.is refl)

pub returns : goal.returns
returns c = open_meets c.args.self.now c.in-Some.is c.open.ensures.answer refl refl
