-- `demo::hosts::Phone::tell` meets its contract: the reservation told is that of the phone which the form makes.
-- Assumes nothing.
use mathlib.Core.Path.{◌≡◌, refl, sym, ap, ◌∙◌}
use Rattle.std.specs.Prelude.{Result}
use Rattle.std.specs.Result.{result_unwrap_or}
use Rattle.refusals.specs.declared.Refusal.{Refusal}
use Rattle.refusals.specs.Call.{Outcome}
use Rattle.refusals.proofs.Calls.{is_outcome}
use Rattle.link.specs.Link.{no_link}
use Rattle.sender.specs.declared.Sender.{Sender}
use Rattle.sender.specs.Sender.{new_sender}
use Rattle.stored.specs.Ends.{restore_sender_call}
use Rattle.demo.specs.Ends.{restart_answer}
use Rattle.demo.proofs.Ends.{tell_meets, no_sender_told}
use Rattle.demo.proofs.hosts.Phone.tell.Goals.{in-Ok, in-Err}
use Rattle.demo.proofs.hosts.Phone.tell.Goals as goal

pub returns-in_default : goal.returns-in_default
returns-in_default c =
    let phone = c.args.self.now in
    tell_meets phone c.in_default.is refl (no_sender_told (restart_answer phone).lent.reserved) c.in_default.is

pub returns : goal.returns
unfolding new_sender
returns c =
    let phone = c.args.self.now in
    let reserved_is : c.match-restore_sender.reserved ≡ (result_unwrap_or c.restore_sender.result (new_sender no_link)).reserved =
    elim c.match-restore_sender.branch [
      | in-Ok w ↦ w.reserved-is ∙ sym (ap (λ (r : Result Sender Refusal). (result_unwrap_or r (new_sender no_link)).reserved) w.in-Ok.is)
      | in-Err w ↦ w.reserved-is ∙ sym (ap (λ (r : Result Sender Refusal). (result_unwrap_or r (new_sender no_link)).reserved) w.in-Err.is)
    ] in
    tell_meets phone c.in-Some.is (reserved_is ∙ ap (λ (o : Outcome Sender). o.lent.reserved) (is_outcome (restore_sender_call phone.form) c.restore_sender.ensures)) c.reserve.ensures refl
