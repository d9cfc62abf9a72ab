-- A sender that survives the pulled plug: the theorem of every careful host. Assumes nothing.
use native.Mathlib.Omega.{arith}
use mathlib.Core.Path.{◌≡◌, ap, ◌∙◌}
use Rattle.sender.specs.declared.Sender.{Sender}
use Rattle.sender.specs.Sender.{new_sender}
use Rattle.sender.proofs.Laws.{opened_sender}
use Rattle.promises.specs.PulledPlug.{PulledPlug}
use Rattle.promises.proofs.NoInputTwice.{told_by_place}
use Rattle.promises.proofs.HostLaws.{host_half, host_safe, new_safe, restarted_safe, stored_taken, accounted}
use Rattle.promises.proofs.Promise3.{host_promise_3}
use Rattle.promises.proofs.HostExamples.{three_cuts, tells_first, handed_out_again, all_have_sealed}

pub pulled_plug : PulledPlug
unfolding new_sender
pulled_plug = record {
  rising = λ new sends. (host_half new sends).rising;
  once = λ new sends first second same. told_by_place (host_half new sends).rising first second same;
  goes_on = λ {last = last} new sends refusal later restarts. (restarted_safe last.setting last.stored (host_safe new sends) restarts).0;
  takes = λ new sends octets reserved is refusal later answered. answered.refusal_is ∙ stored_taken (host_safe new sends) octets reserved is;
  accounted = λ {host} new sends.
      let none : host.sender.next ≡ 0 = ap (λ (s : Sender). s.next) (opened_sender host.setting.key host.setting.iov host.setting.sapi host.setting.direction new.opened) in
      omega (arith, none, accounted (new_safe new) sends);
  promise_3 = host_promise_3;
  some = all_have_sealed;
  three_cuts = three_cuts;
  tells_first = tells_first;
  handed_out_again = handed_out_again;
}
