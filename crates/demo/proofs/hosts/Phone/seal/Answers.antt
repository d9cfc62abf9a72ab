-- `demo::hosts::Phone::seal` meets its contract: the phone seals with its reservation kept ahead.
-- Assumes nothing.
use mathlib.Core.Path.{refl}
use Rattle.demo.proofs.Ends.{seal_meets, no_sender_seals}
use Rattle.demo.proofs.hosts.Phone.seal.Goals as goal

pub returns-in_default : goal.returns-in_default
returns-in_default c =
    seal_meets c.args.self.now c.keep_ahead.ensures c.in_default.is (no_sender_seals c.args.text.now c.args.frame.now) c.in_default.is refl

pub returns : goal.returns
returns c = seal_meets c.args.self.now c.keep_ahead.ensures c.in-Some.is c.seal.ensures refl refl
