-- `demo::hosts::Phone::restart` meets its contract: the phone is what the form makes.
-- Assumes nothing.
use mathlib.Core.Path.{ap, ◌∙◌}
use Rattle.std.specs.Prelude.{Result}
use Rattle.refusals.specs.declared.Refusal.{Refusal}
use Rattle.refusals.specs.Number.{refusal_of}
use Rattle.link.specs.Link.{no_link}
use Rattle.sender.specs.Sender.{new_sender}
use Rattle.stored.specs.Ends.{restore_sender_call}
use Rattle.demo.specs.Ends.{restarted_phone}
use Rattle.demo.proofs.Ends.{made_meets}
use Rattle.demo.proofs.hosts.Phone.restart.Goals as goal

pub returns : goal.returns
unfolding restarted_phone
returns c =
    let phone = c.args.self.now in
    let is = made_meets (restore_sender_call phone.form) (new_sender no_link) _ c.restore_sender-restored.ensures in
    record {
      answered = ap (λ (r : Result (Unit {0}) Refusal). refusal_of r) c.and.ensures ∙ is.0;
      phone = λ i. record { sender = (c.ok-self.ensures.value ∙ is.1) i; form = phone.form; keeper = phone.keeper };
    }
