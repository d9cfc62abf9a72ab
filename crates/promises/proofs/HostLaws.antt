-- A careful host keeps the laws that the sender's half of promise 3 asks, over all its restarts: what is stored is never below what the sender was told,
-- and at most 64 above its next number. Assumes nothing.
use Prim.Native.Nat.{ℕ, ◌+◌, ◌*◌, ◌^◌, ◌≤◌, ◌<◌}
use native.Mathlib.Omega.{arith}
use mathlib.Core.Path.{◌≡◌, refl, sym, ap, subst, ◌∙◌}
use mathlib.Core.Bool.{true}
use mathlib.Core.List.{List, [], ◌∷◌}
use borrow.Author.Tests.{eqb-true, eqb-false}
use lib.Dec.{eqb}
use lib.ListN.{length}
use Rattle.refusals.specs.Refusal.{first}
use Rattle.refusals.specs.Call.{Answered}
use Rattle.refusals.proofs.Calls.{one_outcome, answered_done, refused_keeps}
use Rattle.refusals.proofs.Tests.{by-test}
use Rattle.numbering.specs.Numbering.{end}
use Rattle.link.specs.declared.Link.{Link}
use Rattle.link.specs.Link.{link_order, link_of, frame_at}
use Rattle.link.proofs.Links.{opened_length}
use Rattle.sender.specs.declared.Sender.{Sender}
use Rattle.sender.specs.Sender.{sender_of, new_sender, after_frame, with_reservation, open_sender_call, sender_can_arise, reserve_order, reserve_call, Sealing, seal_call}
use Rattle.sender.proofs.Sealing.{sender_says, says_sender}
use Rattle.sender.proofs.Laws.{FrameSealed, ReservationTold, opened_sender, opened_can_arise, sealed_can_arise, says_reservation, reserve_0, reserve_done, told_can_arise}
use Rattle.stored.specs.Ends.{sender_form, restore_sender_call}
use Rattle.stored.proofs.Senders.{store_sender_done, stored_sender_form, sender_restores}
use Rattle.promises.specs.Ends.{SealCall, SentFrame, Sends, no_more, seal, step, with_sealed}
use Rattle.promises.specs.Hosts.{Setting, Stored, nothing_yet, form_with, Host, with_sender, OpensWith, RestartsWith, HostStep, store, no_store, tell, restart, StoredLast, HostSeals, careful_sending, NewHost, Event, restarted, nothing_done, sealed as event-sealed, stored as event-stored, told as event-told, event_of, history, restarts}
use Rattle.promises.specs.Promise3.{SendersHalf}
use Rattle.promises.specs.PulledPlug.{GoesOn}
use Rattle.promises.proofs.Sending.{Sealed, Stepped, SendingLaws, senders_half, good_last}
use Rattle.promises.proofs.BenchLaws.{done, sealed, told_keeps}

-- the link of a setting
abbrev pub link_with : Setting → Link
link_with setting = link_of setting.key setting.iov setting.sapi setting.direction

-- what is stored, beside a sender: a form of its link, with a reservation not below the one that it was told and at most 64 above its next number
pub record Holds (sender : Sender) (octets : List ℕ) (reserved : ℕ) : Type 0 where
  pub octets_are : octets ≡ sender_form sender.link reserved
  pub above : sender.reserved ≤ reserved
  pub near : reserved ≤ sender.next + 64
  pub before_end : reserved ≤ end

abbrev pub StoredSafe : Stored → Sender → Type 0
StoredSafe nothing_yet sender = sender.reserved ≡ 0
StoredSafe (form_with octets reserved) sender = Holds sender octets reserved

-- a host that is safe, by its parts
pub record SafeAt (setting : Setting) (sender : Sender) (stored : Stored) : Type 0 where
  pub opens : first (link_order setting.key setting.sapi setting.direction) ≡ 0
  pub iov_fits : setting.iov < 2 ^ 32
  pub link_is : sender.link ≡ link_with setting
  pub can_arise_lem : sender_can_arise sender ≡ true
  pub stored_is : StoredSafe stored sender

abbrev pub Safe : Host → Type 0
Safe host = SafeAt host.setting host.sender host.stored

-- a new host is safe
pub new_safe : {host : Host} → NewHost host → Safe host
unfolding new_sender
new_safe {host} new =
    let setting : Setting = host.setting in
    let is = opened_sender setting.key setting.iov setting.sapi setting.direction new.opened in
    record {
      opens = sym new.opened.refusal_is;
      iov_fits = new.iov_fits;
      link_is = ap (λ (s : Sender). s.link) is;
      can_arise_lem = opened_can_arise setting.key setting.iov setting.sapi setting.direction new.opened;
      stored_is = subst (λ (s : Stored). StoredSafe s host.sender) (sym new.empty) (ap (λ (s : Sender). s.reserved) is);
    }

module _ (setting : Setting) {sender : Sender} where
  -- another sender of the same link, not behind, that was told no other reservation
  same_told : (stored : Stored) {later : Sender} → later.link ≡ sender.link → sender.next ≤ later.next → later.reserved ≡ sender.reserved → StoredSafe stored sender
      → StoredSafe stored later
  same_told nothing_yet link_is on same is = same ∙ is
  same_told (form_with octets reserved) link_is on same is = record {
    octets_are = is.octets_are ∙ ap (λ (l : Link). sender_form l reserved) (sym link_is);
    above = omega (arith, is.above, same);
    near = omega (arith, is.near, on);
    before_end = is.before_end;
  }

  -- a frame is sealed
  sealed_safe : (stored : Stored) {payload before : List ℕ} {number size : ℕ} {later : Sender} {after : List ℕ} → FrameSealed sender payload before number size later after
      → SafeAt setting sender stored → SafeAt setting later stored
  unfolding after_frame
  sealed_safe stored made safe =
      let is = made.later_is in
      record {
        opens = safe.opens;
        iov_fits = safe.iov_fits;
        link_is = ap (λ (s : Sender). s.link) is ∙ safe.link_is;
        can_arise_lem = sealed_can_arise made;
        stored_is = same_told stored (ap (λ (s : Sender). s.link) is) (omega (arith, ap (λ (s : Sender). s.next) is)) (ap (λ (s : Sender). s.reserved) is) safe.stored_is;
      }

  -- a reservation that was stored last is told
  told_safe : (stored : Stored) {later : Sender} {refusal : ℕ} (reserved : ℕ) → StoredLast stored reserved → Answered (reserve_call sender reserved) refusal [] later
      → SafeAt setting sender stored → SafeAt setting later stored
  unfolding with_reservation
  told_safe nothing_yet reserved never answered safe = absurd never
  told_safe (form_with octets last) {later} {refusal} reserved is_last answered safe =
      by-test (eqb refusal 0) (SafeAt setting later (form_with octets last))
      (λ zero.
      let taken : ReservationTold sender reserved later = reserve_done sender reserved (subst (λ (r : ℕ). Answered (reserve_call sender reserved) r [] later) (eqb-true refusal 0 zero) answered) in
      let is = taken.later_is in
      let held : Holds sender octets last = safe.stored_is in
      record {
        opens = safe.opens;
        iov_fits = safe.iov_fits;
        link_is = ap (λ (s : Sender). s.link) is ∙ safe.link_is;
        can_arise_lem = told_can_arise taken;
        stored_is = record {
          octets_are = held.octets_are ∙ ap (λ (s : Sender). sender_form s.link last) (sym is);
          above = omega (arith, ap (λ (s : Sender). s.reserved) is, is_last);
          near = omega (arith, held.near, ap (λ (s : Sender). s.next) is);
          before_end = held.before_end;
        };
      })
      (λ other. subst (λ (s : Sender). SafeAt setting s (form_with octets last)) (sym (refused_keeps (reserve_call sender reserved) answered (eqb-false refusal 0 other))) safe)

  module _ {stored : Stored} (safe : SafeAt setting sender stored) where
    sixteen : length sender.link.key ≡ 16
    sixteen = ap (λ (l : Link). length l.key) safe.link_is ∙ opened_length setting.key setting.iov setting.sapi setting.direction safe.opens

    iov_fits : sender.link.iov < 2 ^ 32
    unfolding link_of
    iov_fits = subst (λ (l : Link). l.iov < 2 ^ 32) (sym safe.link_is) safe.iov_fits

  -- the plug is pulled, and the host restarts
  pub restarted_safe : (stored : Stored) {refusal : ℕ} {later : Sender} → SafeAt setting sender stored → RestartsWith setting stored refusal later
      → GoesOn sender refusal later × SafeAt setting later stored
  unfolding new_sender
  restarted_safe nothing_yet {refusal} {later} safe opened =
      let is = answered_done (open_sender_call setting.key setting.iov setting.sapi setting.direction) opened safe.opens in
      let says = sender_says sender safe.can_arise_lem in
      let next_is : later.next ≡ 0 = ap (λ (s : Sender). s.next) is.2 in
      let none : sender.reserved ≡ 0 = safe.stored_is in (
        record {
          not_refused = is.0;
          same_link = ap (λ (s : Sender). s.link) is.2 ∙ sym safe.link_is;
          at_reservation = next_is ∙ sym (ap (λ (s : Sender). s.reserved) is.2);
          not_below = omega (arith, says.within, none, next_is);
          skips_at_most = omega (arith, next_is);
        },
        record {
          opens = safe.opens;
          iov_fits = safe.iov_fits;
          link_is = ap (λ (s : Sender). s.link) is.2;
          can_arise_lem =
              opened_can_arise setting.key setting.iov setting.sapi setting.direction
              (subst (λ (r : ℕ). OpensWith setting r later) is.0 opened);
          stored_is = ap (λ (s : Sender). s.reserved) is.2;
        },
      )
  restarted_safe (form_with octets reserved) {refusal} {later} safe restored =
      let held : Holds sender octets reserved = safe.stored_is in
      let says = sender_says sender safe.can_arise_lem in
      let back : Answered (restore_sender_call octets) 0 [] (sender_of sender.link reserved reserved) =
      subst (λ (o : List ℕ). Answered (restore_sender_call o) 0 [] (sender_of sender.link reserved reserved)) (sym held.octets_are)
      (sender_restores sender.link reserved (sixteen safe) (iov_fits safe) says.link_can held.before_end) in
      let is = one_outcome (restore_sender_call octets) restored back in
      let next_is : later.next ≡ reserved = ap (λ (s : Sender). s.next) is.2 in (
        record {
          not_refused = is.0;
          same_link = ap (λ (s : Sender). s.link) is.2;
          at_reservation = next_is ∙ sym (ap (λ (s : Sender). s.reserved) is.2);
          not_below = omega (arith, says.within, held.above, next_is);
          skips_at_most = omega (arith, held.near, next_is);
        },
        subst (λ (s : Sender). SafeAt setting s (form_with octets reserved)) (sym is.2)
            (record {
              opens = safe.opens;
              iov_fits = safe.iov_fits;
              link_is = safe.link_is;
              can_arise_lem =
                  says_sender (sender_of sender.link reserved reserved)
                  (record { link_can = says.link_can; before_end = held.before_end; within = omega arith; near = omega arith });
              stored_is = record { octets_are = held.octets_are; above = omega arith; near = omega arith; before_end = held.before_end };
            }),
      )

-- a step beside the seals: the link stays, and the next number is not lower, nor more than 64 higher, and only a restart changes it
pub record Steps (host later : Host) (skipped : ℕ) : Type 0 where
  pub taken : Stepped host.sender.link later.sender.link host.sender.next later.sender.next
  pub skips : later.sender.next ≤ host.sender.next + 64 * skipped
  pub safe : Safe later

stepped : {host later : Host} → Safe host → (one : HostStep StoredLast host later) → Steps host later (restarts (event_of one ∷ []))
stepped {host} safe (store reserved before answered) =
    let made = store_sender_done host.sender reserved before answered in
    record {
      taken = record { not_lower = omega arith; link_is = refl };
      skips = omega arith;
      safe = record {
        opens = safe.opens;
        iov_fits = safe.iov_fits;
        link_is = safe.link_is;
        can_arise_lem = safe.can_arise_lem;
        stored_is = record { octets_are = stored_sender_form made (sixteen host.setting safe); above = made.not_lower; near = made.near; before_end = made.before_end };
      };
    }
stepped safe (no_store reserved before answered) = record { taken = record { not_lower = omega arith; link_is = refl }; skips = omega arith; safe = safe }
stepped {host} safe (tell {refusal = refusal} reserved may answered) =
    let kept = told_keeps (record { reserved = reserved; refusal = refusal; answered = answered }) in
    record {
      taken = record { not_lower = omega (arith, kept.1); link_is = kept.0 };
      skips = omega (arith, kept.1);
      safe = told_safe host.setting host.stored reserved may answered safe;
    }
stepped {host} safe (restart refusal restarts) =
    let both = restarted_safe host.setting host.stored safe restarts in
    record {
      taken = record { not_lower = both.0.not_below; link_is = both.1.link_is ∙ sym safe.link_is };
      skips = omega (arith, both.0.skips_at_most);
      safe = both.1;
    }

-- a seal at a host is one at its sender
module _ {host later : Host} (call : SealCall) (seals : HostSeals host call later) where
  host_sealed : Safe host → call.refusal ≡ 0
      → Sealed frame_at host.sender.link later.sender.link host.sender.next later.sender.next call × Safe later
  host_sealed safe zero =
      subst (λ (h : Host). Sealed frame_at host.sender.link h.sender.link host.sender.next h.sender.next call × Safe h) (sym seals.later_is)
      (sealed call seals.seals zero, sealed_safe host.setting host.stored (done call seals.seals zero) safe)

  host_refused : (call.refusal ≡ 0 → ⊥) → later ≡ host
  host_refused some =
      seals.later_is
      ∙ ap (with_sender host) (ap (λ (lent : Sealing). lent.sender) (refused_keeps (seal_call host.sender call.payload call.before) seals.seals some))

  -- the next number is one more
  host_next : call.refusal ≡ 0 → later.sender.next ≡ host.sender.next + 1
  unfolding after_frame
  host_next zero = ap (λ (h : Host). h.sender.next) seals.later_is ∙ ap (λ (s : Sender). s.next) (done call seals.seals zero).later_is

careful_sending_lem : SendingLaws frame_at careful_sending
careful_sending_lem = record {
  next = λ host. host.sender.next;
  IsGood = Safe;
  sealed = λ call safe seals zero. host_sealed call seals safe zero;
  refused = λ call seals some. host_refused call seals some;
  stepped = λ safe one.
      let is = stepped safe one in
      (is.taken, is.safe);
}

-- the sender's half of promise 3, of a careful host; and the host at the end is safe
pub host_half : {host last : Host} {frames : List SentFrame} → NewHost host → Sends careful_sending host frames last → SendersHalf frame_at host.sender.link frames
unfolding careful_sending_lem
host_half new sends = senders_half frame_at careful_sending careful_sending_lem (new_safe new) sends

pub host_safe : {host last : Host} {frames : List SentFrame} → NewHost host → Sends careful_sending host frames last → Safe last
unfolding careful_sending_lem
host_safe new sends = good_last frame_at careful_sending careful_sending_lem (new_safe new) sends

-- the reservation that was stored last is taken
pub stored_taken : {host : Host} → Safe host → (octets : List ℕ) (reserved : ℕ) → host.stored ≡ form_with octets reserved → first (reserve_order host.sender reserved) ≡ 0
stored_taken {host} safe octets reserved is =
    let held : Holds host.sender octets reserved = subst (λ (s : Stored). StoredSafe s host.sender) is safe.stored_is in
    reserve_0 host.sender reserved safe.can_arise_lem (says_reservation host.sender reserved held.above held.near held.before_end)

-- how many restarts there were, event by event
restarts_of : (one : Event) (rest : List Event) → restarts (one ∷ rest) ≡ restarts (one ∷ []) + restarts rest
restarts_of (restarted next) rest = refl
restarts_of (event-sealed number) rest = omega arith
restarts_of (event-stored reserved) rest = omega arith
restarts_of (event-told reserved) rest = omega arith
restarts_of nothing_done rest = omega arith

-- no more numbers are gone than those that were sealed, and 64 for each restart
pub accounted : {host last : Host} {frames : List SentFrame} → Safe host → (sends : Sends careful_sending host frames last)
    → last.sender.next ≤ host.sender.next + (length frames + 64 * restarts (history sends))
unfolding with_sealed
accounted safe no_more = omega arith
accounted {host} {last} safe (seal {later = later} {rest = rest} call seals sends) =
    by-test (eqb call.refusal 0) (last.sender.next ≤ host.sender.next + (length (with_sealed call rest) + 64 * restarts (history {host = host} (seal call seals sends))))
    (λ zero.
    let is_zero = eqb-true call.refusal 0 zero in
    let others = accounted (host_sealed call seals safe is_zero).1 sends in
    rw zero (omega (arith, others, host_next call seals is_zero)))
    (λ other.
    let some = eqb-false call.refusal 0 other in
    let kept = host_refused call seals some in
    let others = accounted (subst Safe (sym kept) safe) sends in
    rw other (omega (arith, others, ap (λ (h : Host). h.sender.next) kept)))
accounted {host} {last} safe (step {frames = frames} one sends) =
    let is = stepped safe one in
    let others = accounted is.safe sends in
    omega (arith, others, is.skips, restarts_of (event_of one) (history sends))
