-- Promise 3: the two halves meet in the frame of a number with its payload on a link. Assumes nothing.
use Prim.Native.Nat.{ℕ, ◌≤◌, ◌<◌}
use mathlib.Core.Path.{◌≡◌, sym, ap, subst, ◌∙◌}
use mathlib.Core.Bool.{true}
use mathlib.Core.List.{List, []}
use lib.Dec.{lit<, lit≤}
use lib.ListN.{length}
use Rattle.numbering.specs.Numbering.{width}
use Rattle.numbering.proofs.Means.{Means, start_means}
use Rattle.link.specs.declared.Link.{Link}
use Rattle.link.specs.Link.{link_can_arise, link_of, frame_at}
use Rattle.link.proofs.Links.{opened_link, opened_length}
use Rattle.sender.specs.declared.Sender.{Sender}
use Rattle.sender.specs.Sender.{new_sender}
use Rattle.sender.proofs.Laws.{opened_sender}
use Rattle.receiver.specs.declared.Receiver.{Receiver}
use Rattle.receiver.specs.Receiver.{new_receiver}
use Rattle.receiver.proofs.Laws.{opened_receiver}
use Rattle.promises.specs.Ends.{SentFrame, Events, AllInWindow, Since, IsOneOf, IsFrame, NewlyOpenedEnds, NewlyOpenedReceiver, bench_receiving, bench_ends}
use Rattle.promises.specs.Promise3.{KeptBy, Promise3, BenchPromise3}
use Rattle.promises.specs.Hosts.{host_ends}
use Rattle.promises.specs.PulledPlug.{HostPromise3}
use Rattle.promises.proofs.Frames.{told_by_number}
use Rattle.promises.proofs.Receiving.{since_stands, kept_by}
use Rattle.promises.proofs.BenchLaws.{bench_half, bench_receiving_lem, bench_stands}
use Rattle.promises.proofs.HostLaws.{host_half}

module _ (w : ℕ) (wide : 0 < w) (narrow : w ≤ 512) where
  -- the receiver's half, of a newly opened receiver and what became of it
  from_new : {receiver state receiver_last : Receiver} {earlier : List ℕ} {frames : List SentFrame} → NewlyOpenedReceiver receiver
      → Since (bench_receiving w) receiver state earlier
      → ((frame : SentFrame) → IsOneOf frame frames → IsFrame frame_at receiver.link frame)
      → (events : Events (bench_receiving w) frames state receiver_last) → AllInWindow w events
      → KeptBy earlier events
  unfolding new_receiver link_of
  from_new {receiver} new since each events inside =
      let is-new = opened_receiver new.key new.iov new.sapi new.direction new.receiver_opened in
      let allowed = sym new.receiver_opened.refusal_is in
      let good : link_can_arise receiver.link ≡ true = ap (λ (r : Receiver). link_can_arise r.link) is-new ∙ opened_link new.key new.iov new.sapi new.direction allowed in
      let sixteen : length receiver.link.key ≡ 16 = ap (λ (r : Receiver). length r.link.key) is-new ∙ opened_length new.key new.iov new.sapi new.direction allowed in
      let at = bench_stands w wide narrow (record { can_arise_lem = good; sixteen = sixteen }) (subst (λ (r : Receiver). Means w r.numbering []) (sym is-new) (start_means w)) in
      let laws = bench_receiving_lem w wide narrow in
      kept_by w wide frame_at (bench_receiving w) laws receiver.link each (since_stands w wide frame_at (bench_receiving w) laws receiver.link at since) events inside

  -- ends that were opened alike are on one link
  same_link : {sender : Sender} {receiver : Receiver} → NewlyOpenedEnds sender receiver → sender.link ≡ receiver.link
  unfolding new_sender new_receiver link_of
  same_link alike =
      ap (λ (s : Sender). s.link) (opened_sender alike.sender_key alike.iov alike.sapi alike.direction alike.opened.sender_opened)
      ∙ (λ i. record { key = alike.opened.same_key i; iov = alike.iov; sapi = alike.sapi; direction = alike.direction })
      ∙ sym (ap (λ (r : Receiver). r.link) (opened_receiver alike.receiver_key alike.iov alike.sapi alike.direction alike.opened.receiver_opened))

  -- the receiver of two ends opened alike is new
  receiver_of_lem : {sender : Sender} {receiver : Receiver} → NewlyOpenedEnds sender receiver → NewlyOpenedReceiver receiver
  receiver_of_lem alike = record { key = alike.receiver_key; iov = alike.iov; sapi = alike.sapi; direction = alike.direction; receiver_opened = alike.opened.receiver_opened }

  pub promise_3_at : Promise3 w (bench_ends w)
  promise_3_at = record {
    kept = λ alike since sends events inside.
        from_new (receiver_of_lem alike) since
        (λ frame one. subst (λ (l : Link). IsFrame frame_at l frame) (same_link alike) ((bench_half sends).each_is frame one)) events inside;
    told_by_number = λ begins sends one other same. told_by_number (bench_half sends).rising one other same;
    senders_half = λ begins sends. bench_half sends;
    receivers_half = λ new since each events inside. from_new new since each events inside;
  }

  -- and over a careful host
  pub host_promise_3_at : Promise3 w (host_ends w)
  host_promise_3_at = record {
    kept = λ both since sends events inside.
        from_new (receiver_of_lem both.alike) since
        (λ frame one. subst (λ (l : Link). IsFrame frame_at l frame) (same_link both.alike) ((host_half both.new sends).each_is frame one)) events inside;
    told_by_number = λ new sends one other same. told_by_number (host_half new sends).rising one other same;
    senders_half = λ new sends. host_half new sends;
    receivers_half = λ new since each events inside. from_new new since each events inside;
  }

-- at the width of the link
pub promise_3 : BenchPromise3
promise_3 = promise_3_at width (lit< tt) (lit≤ tt)

pub host_promise_3 : HostPromise3
host_promise_3 = host_promise_3_at width (lit< tt) (lit≤ tt)
