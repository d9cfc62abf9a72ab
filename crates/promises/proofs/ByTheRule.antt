-- Sealing and opening by the frame layout and the numbering rule, for every width from 1 to 512. Assumes nothing.
use Prim.Native.Nat.{ℕ, ◌+◌, ◌≤◌, ◌<◌}
use native.Mathlib.Omega.{arith}
use mathlib.Core.Path.{◌≡◌, refl, sym, ap, ap₂, subst, ◌∙◌}
use mathlib.Core.Bool.{false, and-eq-true_iff, ◌&&◌, ◌||◌}
use mathlib.Core.List.{List, [], ◌∷◌}
use borrow.Author.Tests.{eqb-true}
use lib.Dec.{eqb, leb}
use lib.ListN.{length, take, drop}
use lib.Seq.{take_at, drop_at}
use Rattle.refusals.specs.Refusal.{first, row_at}
use Rattle.refusals.specs.Call.{Answered, front}
use Rattle.refusals.proofs.Calls.{determined, head_is}
use Rattle.numbering.specs.declared.Numbering.{Numbering}
use Rattle.numbering.specs.Numbering.{is_accepted, accepted, candidate_order}
use Rattle.numbering.proofs.Candidate.{by_the_paper}
use Rattle.numbering.proofs.State.{accepted_new, accepted_late}
use Rattle.numbering.proofs.Marks.{accepted_marks}
use Rattle.octets.specs.Xor.{xored}
use Rattle.keystreams.proofs.Laws.{gea4_prepared}
use Rattle.frames.specs.Frame.{AreOctets, frame, header_of, payload_of, look_order}
use Rattle.frames.proofs.ReadBack.{length-payload, frame_of_octets}
use Rattle.frames.proofs.Laws.{look_empty}
use Rattle.link.specs.declared.Link.{Link}
use Rattle.link.specs.Input.{input_of}
use Rattle.link.specs.Link.{link_order, link_of, ciphered, header_at, frame_at}
use Rattle.link.proofs.Links.{opened_key}
use Rattle.link.proofs.Frames.{length-ciphered, ciphered_twice, length-frame_at}
use Rattle.sender.specs.declared.Sender.{Sender}
use Rattle.sender.specs.Sender.{new_sender, after_frame}
use Rattle.sender.proofs.Laws.{opened_sender, seal_done}
use Rattle.receiver.specs.declared.Receiver.{Receiver}
use Rattle.receiver.specs.Receiver.{Opening, new_receiver, after_accepting, is_of_link, candidate_of, open_order, open_call}
use Rattle.receiver.proofs.Laws.{opened_receiver}
use Rattle.receiver.proofs.Opening.{receiver_says}
use Rattle.promises.specs.ByTheRule.{HoldsLink, OpenedByTheRule, IsNumberedAs, ByTheRule}
use Rattle.promises.proofs.Refusals.{as_numbered, open_refusals, state_refusal}

-- ---- a frame that was opened

module _ (w : ℕ) (wide : 0 < w) (narrow : w ≤ 512) (receiver : Receiver) (octets before : List ℕ) (each : AreOctets octets) {number size : ℕ} {later : Receiver} {after : List ℕ}
    (answered : Answered (open_call w receiver octets before) 0 (number ∷ size ∷ []) (record { receiver = later; output = after })) where
  passed : (k : ℕ) → (row_at (open_order w receiver octets before) k).holds ≡ false
  unfolding open_order look_order candidate_order
  passed = ((determined (open_call w receiver octets before) tt).refuses answered).none.0 refl

  number_is : number ≡ candidate_of w receiver octets
  number_is = head_is answered.numbers_are

  size_is : size ≡ length (payload_of octets)
  size_is =
      let same = answered.numbers_are in
      cc

  its : IsNumberedAs w receiver octets number
  its = subst (IsNumberedAs w receiver octets) (sym number_is) (as_numbered w narrow receiver octets before each (λ k _. passed k))

  fresh : is_accepted receiver.numbering number ≡ false
  unfolding open_order look_order candidate_order row_at candidate_of
  fresh = ap (is_accepted receiver.numbering) number_is ∙ passed 7

  -- the payload, deciphered, at the front of the output
  clear : List ℕ
  clear = ciphered receiver.link number (payload_of octets)

  length_clear : length clear ≡ size
  unfolding clear
  length_clear = length-ciphered receiver.link number (payload_of octets) ∙ sym size_is

  output_is : after ≡ front clear before
  unfolding clear
  output_is = ap (λ (l : Opening). l.output) answered.lent_is ∙ ap (λ (n : ℕ). front (ciphered receiver.link n (payload_of octets)) before) (sym number_is)

  taken : take size after ≡ clear
  unfolding front
  taken = ap (take size) output_is ∙ take_at clear (drop (length clear) before) size length_clear

  header_is : header_at receiver.link number ≡ header_of octets
  unfolding header_at is_of_link
  header_is =
      let same = (and-eq-true_iff _ _).0 its.numbered.of_link in
      let sapi_is : receiver.link.sapi ≡ (header_of octets).sapi = sym (eqb-true _ _ same.0) in
      let direction_is : receiver.link.direction ≡ (header_of octets).direction = sym (eqb-true _ _ same.1) in
      λ i. record { sapi = sapi_is i; direction = direction_is i; sent = its.is_candidate.on_air i }

  frame_is : octets ≡ frame_at receiver.link number (take size after)
  unfolding frame_at clear
  frame_is =
      sym (frame_of_octets octets each its.numbered.passes_look)
      ∙ ap₂ frame (sym header_is) (sym (ap (ciphered receiver.link number) taken ∙ ciphered_twice receiver.link number (payload_of octets)))

  pub moved : later ≡ after_accepting w receiver number
  moved = ap (λ (l : Opening). l.receiver) answered.lent_is ∙ ap (after_accepting w receiver) (sym number_is)

  pub opened_by_the_rule : OpenedByTheRule w receiver octets before number size later after
  unfolding after_accepting front
  opened_by_the_rule =
      let numbering_is : later.numbering ≡ accepted w receiver.numbering number = ap (λ (r : Receiver). r.numbering) moved in
      record {
        is_candidate = its.is_candidate;
        before_end = its.before_end;
        not_repeat = fresh;
        size_is = ap (λ (k : ℕ). k + 6) size_is ∙ length-payload octets each its.numbered.passes_look;
        frame_is = frame_is;
        past = ap (drop size) output_is ∙ drop_at clear (drop (length clear) before) size length_clear ∙ ap (λ (k : ℕ). drop k before) length_clear;
        new = λ above. ap (λ (s : Numbering). s.next) (numbering_is ∙ accepted_new w receiver.numbering number above);
        late = λ below. ap (λ (s : Numbering). s.next) (numbering_is ∙ accepted_late w receiver.numbering number below);
        marks = λ m.
            ap (λ (s : Numbering). is_accepted s m) numbering_is
            ∙ accepted_marks w wide receiver.numbering (receiver_says w receiver its.numbered.can_arise_lem).1 number its.is_candidate.in_window m
            ∙ ap (λ (s : Numbering). (eqb m number || is_accepted receiver.numbering m) && leb s.next (m + w)) (sym numbering_is);
        link_is = ap (λ (r : Receiver). r.link) moved;
      }

-- ---- the link of an end that was opened

holds_link : (key : List ℕ) (iov sapi direction : ℕ) {link : Link} → first (link_order key sapi direction) ≡ 0 → link ≡ link_of key iov sapi direction
    → HoldsLink key iov sapi direction link
unfolding link_of ciphered
holds_link key iov sapi direction nothing is = record {
  key_is = ap (λ (l : Link). l.key) is;
  iov_is = ap (λ (l : Link). l.iov) is;
  sapi_is = ap (λ (l : Link). l.sapi) is;
  direction_is = ap (λ (l : Link). l.direction) is;
  ciphers = λ n payload.
      ap (λ (l : Link). ciphered l n payload) is
      ∙ ap (xored payload) (gea4_prepared key (input_of iov sapi n) direction (length payload) (opened_key key iov sapi direction nothing));
}

pub by_the_rule : (w : ℕ) → 0 < w → w ≤ 512 → ByTheRule w
unfolding new_sender new_receiver after_frame front
by_the_rule w wide narrow = record {
  sender_opened = λ key iov sapi direction answered.
      holds_link key iov sapi direction (sym answered.refusal_is) (ap (λ (s : Sender). s.link) (opened_sender key iov sapi direction answered));
  receiver_opened = λ key iov sapi direction answered.
      holds_link key iov sapi direction (sym answered.refusal_is) (ap (λ (r : Receiver). r.link) (opened_receiver key iov sapi direction answered));
  sealed = λ sender payload before {number} {size} {later} {after} answered.
      let done = seal_done sender payload before answered in
      let whole : List ℕ = frame_at sender.link sender.next payload in
      let long : length whole ≡ size = length-frame_at sender.link sender.next payload ∙ sym done.size_is in
      record {
        number_is = done.number_is;
        before_end = omega (arith, done.number_is, done.before_end);
        reserved_above = omega (arith, done.number_is, done.below);
        size_is = done.size_is;
        frame_is = ap (take size) done.output_is ∙ take_at whole (drop (length whole) before) size long ∙ ap (λ (n : ℕ). frame_at sender.link n payload) (sym done.number_is);
        past = ap (drop size) done.output_is ∙ drop_at whole (drop (length whole) before) size long ∙ ap (λ (k : ℕ). drop k before) long;
        next_is = ap (λ (s : Sender). s.next) done.later_is ∙ ap (λ (n : ℕ). n + 1) (sym done.number_is);
        reserved_is = ap (λ (s : Sender). s.reserved) done.later_is;
        link_is = ap (λ (s : Sender). s.link) done.later_is;
      };
  opened = λ receiver octets before each answered. opened_by_the_rule w wide narrow receiver octets before each answered;
  refused = λ receiver octets before each answered. open_refusals w narrow receiver octets before each answered;
  state = state_refusal w wide;
  candidate = by_the_paper w narrow;
  look = look_empty;
}
