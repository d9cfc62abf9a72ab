-- `demo::hosts::Cell::store` meets its contract: what is stored is what storing puts over the form.
-- Assumes nothing.
use Rattle.demo.proofs.Ends.{store_cell_meets, no_receiver_stored}
use Rattle.demo.proofs.hosts.Cell.store.Goals as goal

pub returns-in_default : goal.returns-in_default
returns-in_default c = store_cell_meets c.args.self.now c.in_default.is (no_receiver_stored c.args.self.now.form)

pub returns : goal.returns
returns c = store_cell_meets c.args.self.now c.in-Some.is c.store_receiver.ensures
