-- Of every setting that opens a sender: a careful host with three cuts, and a receiver that hears a part of it; a host that tells before it stores; a receiver
-- restored from an older moment; and careful hosts of all services. Assumes nothing.
use Prim.Native.Nat.{ℕ, zero, suc, ◌+◌, ◌^◌, ◌≤◌, ◌<◌}
use native.Mathlib.Omega.{arith}
use native.Mathlib.Numerals.{add-one}
use mathlib.Core.Path.{◌≡◌, refl, sym, subst, ◌∙◌}
use mathlib.Core.Bool.{true, false, true≢false}
use mathlib.Core.List.{List, [], ◌∷◌}
use lib.Dec.{T, leb, ltb, lit<, lit≤}
use lib.ListN.{length, take, replicate}
use Rattle.refusals.specs.Refusal.{first}
use Rattle.refusals.specs.Call.{Answered, front}
use Rattle.refusals.proofs.Calls.{done, head_is}
use Rattle.refusals.proofs.Tests.{by-test}
use Rattle.octets.specs.Octets.{AreOctets}
use Rattle.keystreams.specs.Key.{is_key, prepared}
use Rattle.numbering.specs.declared.Numbering.{Numbering}
use Rattle.numbering.specs.Numbering.{width, start, numbering_of, end, InWindow, marks_of, mark, can_arise, is_accepted, accepted}
use Rattle.link.specs.declared.Link.{Link}
use Rattle.link.specs.Link.{is_service, is_direction, link_can_arise, link_order, link_of, frame_at}
use Rattle.link.proofs.Links.{opened_link, opened_length}
use Rattle.sender.specs.declared.Sender.{Sender}
use Rattle.sender.specs.Sender.{ahead, sender_of}
use Rattle.sender.proofs.Laws.{says_reservation, reserve_0}
use Rattle.receiver.specs.declared.Receiver.{Receiver}
use Rattle.receiver.specs.Receiver.{receiver_of, new_receiver, after_accepting, receiver_can_arise, open_receiver_call, open_call}
use Rattle.receiver.proofs.Laws.{open_new, open_repeat}
use Rattle.stored.specs.Form.{form_size}
use Rattle.stored.specs.Ends.{sender_form, receiver_form, store_sender_call, restore_sender_call, store_receiver_call, restore_receiver_call}
use Rattle.stored.proofs.Answers.{store_sender_0, store_receiver_0}
use Rattle.stored.proofs.ReadBack.{form_in_front}
use Rattle.stored.proofs.Senders.{sender_restores}
use Rattle.stored.proofs.Receivers.{store_receiver_done, stored_receiver_form, receiver_restores}
use Rattle.promises.specs.Ends.{OpenCall, SentFrame, with_sealed, frame_sealed, Sends, no_more, seal, step, IsOneOf, here, there, Events, arrival, AllInWindow, Since, nothing, called, restored, NewlyOpenedEnds, bench_sending, bench_receiving}
use Rattle.promises.specs.Hosts.{Setting, Stored, nothing_yet, form_with, Host, HostStep, store, tell, restart, Anything, HostSeals, hosting, careful_sending, NewHost}
use Rattle.promises.specs.NoInputTwice.{SealedSince, not_opened, opened, HostUnder, AllHaveSealed}
use Rattle.promises.specs.PulledPlug.{ThreeCuts, TellsFirst, HandedOutAgain, Opens}
use Rattle.promises.proofs.BenchLaws.{bench_half}
use Rattle.promises.proofs.FrameOctets.{frame_at_octets}
use Rattle.promises.proofs.HostLaws.{link_with, host_half}
use Rattle.promises.proofs.SealingAgain.{opening_allowed, sender_opens, sealing_call, sent_at, sent_from, length-sent, one_from, good_sender, tells_one, seals_one, sends_from}
use Rattle.promises.proofs.Promise3.{promise_3}

-- ---- hosts of any setting that opens a sender

module _ (setting : Setting) (fits : Opens setting) where
  abbrev link : Link
  link = link_with setting

  allowed : first (link_order setting.key setting.sapi setting.direction) ≡ 0
  allowed = opening_allowed setting.key setting.sapi setting.direction fits.a_key fits.a_service fits.a_direction

  link_good : link_can_arise link ≡ true
  link_good = opened_link setting.key setting.iov setting.sapi setting.direction allowed

  sixteen : length link.key ≡ 16
  sixteen = opened_length setting.key setting.iov setting.sapi setting.direction allowed

  iov_fits : link.iov < 2 ^ 32
  unfolding link_of
  iov_fits = fits.iov_fits

  -- a host whose sender has this next number and this reservation
  abbrev host_at : ℕ → ℕ → Stored → Host
  host_at next reserved stored = record { setting = setting; sender = sender_of link next reserved; stored = stored }

  -- the new host
  new_host : NewHost (host_at 0 0 nothing_yet)
  new_host = record { opened = sender_opens setting.key setting.iov setting.sapi setting.direction allowed; empty = refl; iov_fits = fits.iov_fits }

  -- what is stored with a reservation: the form, written to 29 octets
  abbrev stored_with : ℕ → Stored
  stored_with reserved = form_with (take (form_size 1) (front (sender_form link reserved) (replicate 29 0))) reserved

  -- the reservations that a sender may be told
  record Near (next reserved more : ℕ) : Type 0 where
    within : next ≤ reserved
    not_lower : reserved ≤ more
    near : more ≤ next + ahead
    before_end : more ≤ end

  near_by : {next reserved more : ℕ} → T (leb next reserved) → T (leb reserved more) → T (leb more (next + ahead)) → T (leb more 1000) → Near next reserved more
  unfolding end
  near_by {more = more} within not_lower near low =
      record { within = lit≤ within; not_lower = lit≤ not_lower; near = lit≤ near; before_end = omega (arith, lit≤ {m = more} {n = 1000} low) }

  written : {next reserved more : ℕ} → Near next reserved more
      → Answered (store_sender_call (sender_of link next reserved) more (replicate 29 0)) 0 [] (front (sender_form link more) (replicate 29 0))
  written {next} {reserved} {more} is =
      let sender : Sender = sender_of link next reserved in
      let told = reserve_0 sender more (good_sender link [] link_good next reserved is.within (omega (arith, is.not_lower, is.near)) (omega (arith, is.not_lower, is.before_end))) (says_reservation sender more is.not_lower is.near is.before_end) in
      done (store_sender_call sender more (replicate 29 0)) (store_sender_0 sender more (replicate 29 0) told (lit≤ tt))

  -- of which the first 29 are the form
  in_front : (reserved : ℕ) → take (form_size 1) (front (sender_form link reserved) (replicate 29 0)) ≡ sender_form link reserved
  unfolding sender_form
  in_front reserved = form_in_front 1 link (reserved ∷ []) sixteen (replicate 29 0)

  module _ {Tells : Stored → ℕ → Type 0} where
    stores : {stored : Stored} (next reserved more : ℕ) → Near next reserved more → HostStep Tells (host_at next reserved stored) (host_at next reserved (stored_with more))
    stores next reserved more is = store more (replicate 29 0) (written is)

    tells : {stored : Stored} (next reserved more : ℕ) → Tells stored more → Near next reserved more → HostStep Tells (host_at next reserved stored) (host_at next more stored)
    tells next reserved more may is = tell more may (tells_one link [] link_good next reserved more is.within is.not_lower is.near is.before_end)

    -- a restart from what is stored, and one where nothing is
    restarts_at : (next reserved more : ℕ) → more ≤ end → HostStep Tells (host_at next reserved (stored_with more)) (host_at more more (stored_with more))
    restarts_at next reserved more before_end =
        restart 0
        (subst (λ (o : List ℕ). Answered (restore_sender_call o) 0 [] (sender_of link more more)) (sym (in_front more))
        (sender_restores link more sixteen iov_fits link_good before_end))

    reopens : (next reserved : ℕ) → HostStep Tells (host_at next reserved nothing_yet) (host_at 0 0 nothing_yet)
    reopens next reserved = restart 0 (sender_opens setting.key setting.iov setting.sapi setting.direction allowed)

  -- a payload of one octet is sealed
  seals : {stored : Stored} (octet next reserved : ℕ) → next < reserved → reserved ≤ next + ahead → reserved ≤ end
      → HostSeals (host_at next reserved stored) (sealing_call link (octet ∷ []) next) (host_at (next + 1) reserved stored)
  seals octet next reserved below near before_end = record {
    sender = sender_of link (next + 1) reserved;
    seals = seals_one link (octet ∷ []) link_good (lit≤ tt) (lit≤ tt) next reserved below near before_end;
    later_is = refl;
  }

  below_end : {n : ℕ} → T (leb n 1000) → n ≤ end
  unfolding end
  below_end {n} low = omega (arith, lit≤ {m = n} {n = 1000} low)

  -- so many frames, each after a reservation for it alone
  record Sealing (n k : ℕ) (stored : Stored) : Type 0 where
    last : Host
    sends : Sends careful_sending (host_at n n stored) (sent_from link (7 ∷ []) n k) last

  seals_from : (n k : ℕ) (stored : Stored) → n + k ≤ end → Sealing n k stored
  unfolding with_sealed frame_sealed
  seals_from n zero stored below = record { last = host_at n n stored; sends = no_more }
  seals_from n (suc k) stored below =
      let near : Near n n (suc n) = record { within = omega arith; not_lower = omega arith; near = omega arith; before_end = omega arith } in
      let others = seals_from (suc n) k (stored_with (suc n)) (omega arith) in
      record {
        last = others.last;
        sends =
            step (stores n n (suc n) near)
            (step (tells n n (suc n) refl near)
            (seal (sealing_call link (7 ∷ []) n)
            (subst (λ (next : ℕ). HostSeals (host_at n (suc n) (stored_with (suc n))) (sealing_call link (7 ∷ []) n) (host_at next (suc n) (stored_with (suc n)))) (add-one n) (seals 7 n (suc n) (omega arith) (omega arith) (omega arith)))
            others.sends));
      }

  -- the frame of a number with a payload of one octet
  abbrev sent : ℕ → ℕ → SentFrame
  sent octet n = sent_at link (octet ∷ []) n

  -- ---- the receiver

  abbrev receiver_at : Numbering → Receiver
  receiver_at numbering = receiver_of link numbering

  abbrev receiver : Receiver
  receiver = receiver_at start

  receiver_can : (numbering : Numbering) → can_arise width numbering ≡ true → receiver_can_arise width (receiver_at numbering) ≡ true
  unfolding receiver_can_arise
  receiver_can numbering can = simp (link_good, can)

  receiver_opens : Answered (open_receiver_call setting.key setting.iov setting.sapi setting.direction) 0 [] receiver
  unfolding new_receiver
  receiver_opens = done (open_receiver_call setting.key setting.iov setting.sapi setting.direction) allowed

  -- a frame of the host, with a payload of one octet, that is new and within the window is handed out
  abbrev call_of : ℕ → OpenCall
  call_of n = record { presented = (sent 7 n).octets; before = 0 ∷ []; refusal = 0; number = n; size = 1; after = 7 ∷ [] }

  opens_at : {numbering : Numbering} (n : ℕ) → can_arise width numbering ≡ true → InWindow width numbering.next n → n < end → is_accepted numbering n ≡ false
      → frame_at link n (7 ∷ []) ≡ (sent 7 n).octets
      → (bench_receiving width).Opens (receiver_at numbering) (call_of n) (receiver_at (accepted width numbering n))
  unfolding front after_accepting receiver_can_arise
  opens_at {numbering} n can inside below anew octets_are =
      subst (λ (o : List ℕ). Answered (open_call width (receiver_at numbering) o (0 ∷ [])) 0 (n ∷ 1 ∷ []) (record { receiver = receiver_at (accepted width numbering n); output = 7 ∷ [] })) octets_are
      (open_new width (lit≤ tt) (receiver_at numbering) (simp (link_good, can)) n inside below (7 ∷ []) (lit≤ tt) (lit≤ tt) (0 ∷ []) anew (lit≤ tt))

  -- ---- three cuts

  three_cuts_sent : Sends careful_sending (host_at 0 0 nothing_yet) (sent 7 0 ∷ sent 7 1 ∷ sent 7 2 ∷ sent 7 128 ∷ sent 7 130 ∷ []) (host_at 131 131 (stored_with 131))
  unfolding with_sealed frame_sealed
  three_cuts_sent =
      step (stores 0 0 64 (near_by tt tt tt tt))
      (step (tells 0 0 64 refl (near_by tt tt tt tt))
      (seal (sealing_call link (7 ∷ []) 0) (seals 7 0 64 (lit< tt) (lit≤ tt) (below_end tt))
      (seal (sealing_call link (7 ∷ []) 1) (seals 7 1 64 (lit< tt) (lit≤ tt) (below_end tt))
      (seal (sealing_call link (7 ∷ []) 2) (seals 7 2 64 (lit< tt) (lit≤ tt) (below_end tt))
      (step (restarts_at 3 64 64 (below_end tt))
      (step (stores 64 64 128 (near_by tt tt tt tt))
      (step (restarts_at 64 64 128 (below_end tt))
      (step (stores 128 128 130 (near_by tt tt tt tt))
      (step (tells 128 128 130 refl (near_by tt tt tt tt))
      (seal (sealing_call link (7 ∷ []) 128) (seals 7 128 130 (lit< tt) (lit≤ tt) (below_end tt))
      (step (restarts_at 129 130 130 (below_end tt))
      (step (stores 130 130 131 (near_by tt tt tt tt))
      (step (tells 130 130 131 refl (near_by tt tt tt tt))
      (seal (sealing_call link (7 ∷ []) 130) (seals 7 130 131 (lit< tt) (lit≤ tt) (below_end tt))
      no_more))))))))))))))

  -- each frame of the host is the frame of its number
  octets_of_lem : (frame : SentFrame) → IsOneOf frame (sent 7 0 ∷ sent 7 1 ∷ sent 7 2 ∷ sent 7 128 ∷ sent 7 130 ∷ []) → frame_at link frame.number frame.payload ≡ frame.octets
  octets_of_lem frame one = sym ((host_half new_host three_cuts_sent).each_is frame one).octets_are

  inside : {v n : ℕ} → T (leb v (n + width)) → T (ltb (n + width) (v + 512)) → InWindow width v n
  inside low high = record { not_below = lit≤ low; not_above = lit< high }

  three_cuts_heard : Events (bench_receiving width) (sent 7 0 ∷ sent 7 1 ∷ sent 7 2 ∷ sent 7 128 ∷ sent 7 130 ∷ []) receiver (receiver_at (numbering_of 131 5))
  unfolding can_arise is_accepted marks_of mark accepted end
  three_cuts_heard =
      arrival (sent 7 0) (call_of 0) here refl (lit≤ tt) (opens_at 0 refl (inside tt tt) (lit< tt) refl (octets_of_lem (sent 7 0) here))
      (arrival (sent 7 2) (call_of 2) (there (there here)) refl (lit≤ tt) (opens_at 2 refl (inside tt tt) (lit< tt) refl (octets_of_lem (sent 7 2) (there (there here))))
      (arrival (sent 7 128) (call_of 128) (there (there (there here))) refl (lit≤ tt)
      (opens_at 128 refl (inside tt tt) (lit< tt) refl (octets_of_lem (sent 7 128) (there (there (there here)))))
      (arrival (sent 7 130) (call_of 130) (there (there (there (there here)))) refl (lit≤ tt)
      (opens_at 130 refl (inside tt tt) (lit< tt) refl (octets_of_lem (sent 7 130) (there (there (there (there here))))))
      no_more)))

  -- the host and the receiver were opened alike
  ends_alike : NewlyOpenedEnds (sender_of link 0 0) receiver
  ends_alike = record {
    sender_key = setting.key;
    receiver_key = setting.key;
    iov = setting.iov;
    sapi = setting.sapi;
    direction = setting.direction;
    opened = record { same_key = refl; sender_opened = new_host.opened; receiver_opened = receiver_opens };
  }

  pub three_cuts : ThreeCuts setting
  unfolding three_cuts_sent three_cuts_heard new_host stores tells restarts_at with_sealed frame_sealed
  three_cuts = record {
    host = host_at 0 0 nothing_yet;
    last = host_at 131 131 (stored_with 131);
    receiver = receiver;
    receiver_last = receiver_at (numbering_of 131 5);
    frames = sent 7 0 ∷ sent 7 1 ∷ sent 7 2 ∷ sent 7 128 ∷ sent 7 130 ∷ [];
    with_setting = refl;
    alike = record { new = new_host; alike = ends_alike };
    sends = three_cuts_sent;
    history_is = refl;
    events = three_cuts_heard;
    in_window = (inside tt tt, (inside tt tt, (inside tt tt, (inside tt tt, tt))));
    arrived = refl;
  }

  -- ---- a host that tells before it stores

  twice_sent : Sends (hosting Anything) (host_at 0 0 nothing_yet) (sent 7 0 ∷ sent 7 1 ∷ sent 8 1 ∷ []) (host_at 2 2 (stored_with 2))
  unfolding with_sealed frame_sealed
  twice_sent =
      step (stores 0 0 1 (near_by tt tt tt tt))
      (step (tells 0 0 1 tt (near_by tt tt tt tt))
      (seal (sealing_call link (7 ∷ []) 0) (seals 7 0 1 (lit< tt) (lit≤ tt) (below_end tt))
      (step (tells 1 1 2 tt (near_by tt tt tt tt))
      (seal (sealing_call link (7 ∷ []) 1) (seals 7 1 2 (lit< tt) (lit≤ tt) (below_end tt))
      (step (restarts_at 2 2 1 (below_end tt))
      (step (stores 1 1 2 (near_by tt tt tt tt))
      (step (tells 1 1 2 tt (near_by tt tt tt tt))
      (seal (sealing_call link (8 ∷ []) 1) (seals 8 1 2 (lit< tt) (lit≤ tt) (below_end tt))
      no_more))))))))

  pub tells_first : TellsFirst setting
  unfolding twice_sent stores tells restarts_at with_sealed frame_sealed
  tells_first = record {
    host = host_at 0 0 nothing_yet;
    last = host_at 2 2 (stored_with 2);
    zeroth = sent 7 0;
    one = sent 7 1;
    other = sent 8 1;
    with_setting = refl;
    new = new_host;
    sends = twice_sent;
    history_is = refl;
    same_number = refl;
    other_payload = λ same. omega (arith, head_is same);
  }

  -- ---- a receiver restored from an older moment

  -- the frames 0 to 3 of a sender of the bench
  abbrev four : List SentFrame
  four = sent_from link (7 ∷ []) 0 4

  four_sent : Sends bench_sending (sender_of link 0 0) four (sender_of link 4 4)
  unfolding end
  four_sent = sends_from link (7 ∷ []) link_good (lit≤ tt) (lit≤ tt) 0 4 (lit≤ tt)

  one_of : (n : ℕ) → n < 4 → IsOneOf (sent 7 n) four
  one_of n below = subst (λ (m : ℕ). IsOneOf (sent 7 m) four) {x = 0 + n} (omega arith) (one_from link (7 ∷ []) 0 4 n below)

  four_octets : (n : ℕ) → n < 4 → frame_at link n (7 ∷ []) ≡ (sent 7 n).octets
  four_octets n below = sym ((bench_half four_sent).each_is (sent 7 n) (one_of n below)).octets_are

  seven_octets : AreOctets (7 ∷ [])
  seven_octets zero = lit< tt
  seven_octets (suc i) = lit< tt

  are_octets : (n : ℕ) → n < 4 → AreOctets (sent 7 n).octets
  are_octets n below = subst AreOctets (four_octets n below) (frame_at_octets link n (7 ∷ []) link_good (lit≤ tt) seven_octets)

  -- a frame is new
  opens_new : {numbering : Numbering} (n : ℕ) → T (ltb n 4) → can_arise width numbering ≡ true → InWindow width numbering.next n → is_accepted numbering n ≡ false
      → (bench_receiving width).Opens (receiver_at numbering) (call_of n) (receiver_at (accepted width numbering n))
  unfolding end
  opens_new n below can inside anew = opens_at n can inside (omega (arith, lit< {m = n} {n = 4} below)) anew (four_octets n (lit< below))

  -- and a repeat
  abbrev repeat_of : ℕ → OpenCall
  repeat_of n = record { presented = (sent 7 n).octets; before = 0 ∷ []; refusal = 11; number = n; size = 0; after = 0 ∷ [] }

  opens_again : {numbering : Numbering} (n : ℕ) → T (ltb n 4) → can_arise width numbering ≡ true → InWindow width numbering.next n → is_accepted numbering n ≡ true
      → (bench_receiving width).Opens (receiver_at numbering) (repeat_of n) (receiver_at numbering)
  unfolding receiver_can_arise end
  opens_again {numbering} n below can inside marked =
      subst (λ (o : List ℕ). Answered (open_call width (receiver_at numbering) o (0 ∷ [])) 11 (n ∷ 0 ∷ []) (record { receiver = receiver_at numbering; output = 0 ∷ [] })) (four_octets n (lit< below))
      (open_repeat width (lit≤ tt) (receiver_at numbering) (simp (link_good, can)) n inside (omega (arith, lit< {m = n} {n = 4} below)) (7 ∷ []) (lit≤ tt) (lit≤ tt) (0 ∷ []) marked)

  -- the receiver when it is stored: V is 3, and 0 and 2 are marked
  abbrev stored_at : Receiver
  stored_at = receiver_at (numbering_of 3 5)

  opens_0 : (bench_receiving width).Opens receiver (call_of 0) (receiver_at (numbering_of 1 1))
  unfolding can_arise is_accepted marks_of mark accepted end
  opens_0 = opens_new {numbering = start} 0 tt refl (inside tt tt) refl

  opens_2 : (bench_receiving width).Opens (receiver_at (numbering_of 1 1)) (call_of 2) stored_at
  unfolding can_arise is_accepted marks_of mark accepted end
  opens_2 = opens_new {numbering = numbering_of 1 1} 2 tt refl (inside tt tt) refl

  opens_3 : (bench_receiving width).Opens stored_at (call_of 3) (receiver_at (numbering_of 4 11))
  unfolding can_arise is_accepted marks_of mark accepted end
  opens_3 = opens_new {numbering = numbering_of 3 5} 3 tt refl (inside tt tt) refl

  opens_1 : (bench_receiving width).Opens (receiver_at (numbering_of 4 11)) (call_of 1) (receiver_at (numbering_of 4 15))
  unfolding can_arise is_accepted marks_of mark accepted end
  opens_1 = opens_new {numbering = numbering_of 4 11} 1 tt refl (inside tt tt) refl

  opens_0_again : (bench_receiving width).Opens stored_at (repeat_of 0) stored_at
  unfolding can_arise is_accepted marks_of mark end
  opens_0_again = opens_again {numbering = numbering_of 3 5} 0 tt refl (inside tt tt) refl

  stored_good : receiver_can_arise width stored_at ≡ true
  unfolding can_arise marks_of mark end
  stored_good = receiver_can (numbering_of 3 5) refl

  -- the receiver comes back as it was stored
  comes_back : (bench_receiving width).Restores stored_at stored_at
  comes_back = record {
    marks_fit = lit≤ tt;
    iov_fits = iov_fits;
    before = replicate 33 0;
    after = front (receiver_form stored_at) (replicate 33 0);
    refusal = 0;
    stored = written_receiver;
    restored =
        subst (λ (o : List ℕ). Answered (restore_receiver_call width o) 0 [] stored_at)
        (sym (stored_receiver_form (store_receiver_done width stored_at (replicate 33 0) written_receiver) sixteen))
        (receiver_restores width (lit≤ tt) stored_at stored_good sixteen iov_fits);
  }
    where
      written_receiver : Answered (store_receiver_call width stored_at (replicate 33 0)) 0 [] (front (receiver_form stored_at) (replicate 33 0))
      written_receiver = done (store_receiver_call width stored_at (replicate 33 0)) (store_receiver_0 width stored_at (replicate 33 0) stored_good (lit≤ tt))

  since : Since (bench_receiving width) receiver stored_at (2 ∷ 0 ∷ [])
  since = restored (called (call_of 2) (called (call_of 0) nothing (are_octets 0 (lit< tt)) opens_0) (are_octets 2 (lit< tt)) opens_2) comes_back

  heard_after_lem : Events (bench_receiving width) four stored_at (receiver_at (numbering_of 4 15))
  heard_after_lem =
      arrival (sent 7 0) (repeat_of 0) (one_of 0 (lit< tt)) refl (lit≤ tt) opens_0_again
      (arrival (sent 7 3) (call_of 3) (one_of 3 (lit< tt)) refl (lit≤ tt) opens_3
      (arrival (sent 7 1) (call_of 1) (one_of 1 (lit< tt)) refl (lit≤ tt) opens_1 no_more))

  after_inside : AllInWindow width heard_after_lem
  unfolding heard_after_lem
  after_inside = (inside tt tt, (inside tt tt, (inside tt tt, tt)))

  pub handed_out_again : HandedOutAgain setting
  unfolding heard_after_lem ends_alike front
  handed_out_again = record {
    sender = sender_of link 0 0;
    sender_last = sender_of link 4 4;
    receiver = receiver;
    stored_at = stored_at;
    heard = receiver_at (numbering_of 4 11);
    restored = stored_at;
    last = receiver_at (numbering_of 4 15);
    frames = four;
    three = sent 7 3;
    once = call_of 3;
    opened = ends_alike.opened;
    sends = four_sent;
    before = arrival (sent 7 0) (call_of 0) (one_of 0 (lit< tt)) refl (lit≤ tt) opens_0 (arrival (sent 7 2) (call_of 2) (one_of 2 (lit< tt)) refl (lit≤ tt) opens_2 no_more);
    before_arrived = refl;
    three_is = refl;
    three_sent = one_of 3 (lit< tt);
    once_presented = refl;
    once_opens = opens_3;
    once_handed_out = record { refusal_is = refl; number_is = refl; size_is = refl; output_is = refl };
    restores = comes_back;
    since = since;
    after = heard_after_lem;
    after_arrived = refl;
    in_window = after_inside;
    answered = (promise_3.kept ends_alike since four_sent heard_after_lem after_inside).answered;
  }

-- ---- careful hosts of all services

module _ (key : List ℕ) (iov direction count : ℕ) (valid : is_key key ≡ true) (way : is_direction direction ≡ true) (fit : iov < 2 ^ 32) (most : count ≤ 2 ^ 27) where
  -- what the host of a service sealed: so many frames, where the service is assigned
  record OfService (sapi : ℕ) : Type 0 where
    frames : List SentFrame
    sealed : SealedSince careful_sending (HostUnder (prepared key) iov direction sapi) frames
    has : is_service sapi ≡ true → length frames ≡ count

  of_service : (sapi : ℕ) → OfService sapi
  unfolding end
  of_service sapi =
      by-test (is_service sapi) (OfService sapi)
      (λ service.
      let setting : Setting = record { key = key; iov = iov; sapi = sapi; direction = direction } in
      let fits : Opens setting = record { a_key = valid; a_service = service; a_direction = way; iov_fits = fit } in
      let new = new_host setting fits in
      record {
        frames = sent_from (link_with setting) (7 ∷ []) 0 count;
        sealed = opened (record { new = new; under = record { key = key; yields = refl; sender_opened = new.opened } }) (seals_from setting fits 0 count nothing_yet (omega (arith, most))).sends;
        has = λ exists. length-sent (link_with setting) (7 ∷ []) 0 count;
      })
      (λ none. record { frames = []; sealed = not_opened; has = λ exists. absurd (true≢false (sym exists ∙ none)) })

  pub all_have_sealed : AllHaveSealed careful_sending (HostUnder (prepared key) iov direction) count
  all_have_sealed = record {
    senders = record { frames = λ sapi. (of_service sapi).frames; sealed = λ sapi. (of_service sapi).sealed };
    each_has = λ sapi. (of_service sapi).has;
  }
