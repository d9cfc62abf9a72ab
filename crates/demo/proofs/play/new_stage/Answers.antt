-- `demo::play::new_stage` meets its contract: both ends are opened and stored, and the shelf is empty.
-- Assumes nothing.
use lib.ListN.{replicate}
use mathlib.Core.Path.{ap, ◌∙◌}
use Rattle.std.specs.Prelude.{Option}
use Rattle.sender.specs.declared.Sender.{Sender}
use Rattle.receiver.specs.declared.Receiver.{Receiver}
use Rattle.demo.specs.declared.hosts.Keeper.TheVariants.{Bench}
use Rattle.demo.specs.Ends.{example_key, stored_phone, new_phone, stored_cell, new_cell, empty_shelf}
use Rattle.demo.specs.Play.{new_stage}
use Rattle.demo.proofs.Ends.{phone_start, cell_start}
use Rattle.demo.proofs.play.new_stage.Goals as goal

pub returns : goal.returns
unfolding new_stage new_phone new_cell example_key empty_shelf
returns c =
    let phone_is =
    c.store.ensures.phone
    ∙ ap (λ (s : Option Sender). stored_phone (record { sender = s; form = replicate 29 0; keeper = Bench }) 0)
    (c.ok.ensures.value ∙ phone_start c.open_sender.result c.open_sender.ensures) in
    let cell_is =
    c.store-2.ensures.cell
    ∙ ap (λ (r : Option Receiver). stored_cell (record { receiver = r; form = replicate 33 0 }))
    (c.ok-2.ensures.value ∙ cell_start c.open_receiver.result c.open_receiver.ensures) in
    λ i. record { phone = phone_is i; cell = cell_is i; shelf = empty_shelf }
