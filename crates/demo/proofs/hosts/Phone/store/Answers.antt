-- `demo::hosts::Phone::store` meets its contract: what is stored is what storing puts over the form.
-- Assumes nothing.
use Rattle.demo.proofs.Ends.{store_meets, no_sender_stored}
use Rattle.demo.proofs.hosts.Phone.store.Goals as goal

pub returns-in_default : goal.returns-in_default
returns-in_default c = store_meets c.args.self.now c.args.reserved c.in_default.is (no_sender_stored c.args.reserved c.args.self.now.form)

pub returns : goal.returns
returns c = store_meets c.args.self.now c.args.reserved c.in-Some.is c.store_sender.ensures
