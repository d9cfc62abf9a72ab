-- `demo::hosts::Cell::restart` meets its contract: the cell is what the form makes.
-- Assumes nothing.
use mathlib.Core.Path.{ap, ◌∙◌}
use Rattle.std.specs.Prelude.{Result}
use Rattle.refusals.specs.declared.Refusal.{Refusal}
use Rattle.refusals.specs.Number.{refusal_of}
use Rattle.numbering.specs.Numbering.{width}
use Rattle.link.specs.Link.{no_link}
use Rattle.receiver.specs.Receiver.{new_receiver}
use Rattle.stored.specs.Ends.{restore_receiver_call}
use Rattle.demo.specs.Ends.{restarted_cell}
use Rattle.demo.proofs.Ends.{made_meets}
use Rattle.demo.proofs.hosts.Cell.restart.Goals as goal

pub returns : goal.returns
unfolding restarted_cell
returns c =
    let cell = c.args.self.now in
    let is = made_meets (restore_receiver_call width cell.form) (new_receiver no_link) _ c.restore_receiver-restored.ensures in
    record {
      answered = ap (λ (r : Result (Unit {0}) Refusal). refusal_of r) c.and.ensures ∙ is.0;
      cell = λ i. record { receiver = (c.ok-self.ensures.value ∙ is.1) i; form = cell.form };
    }
