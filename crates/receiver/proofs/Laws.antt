-- The laws of a receiver for its callers: one that was opened, and what opening the frame of a number answers, for every width.
-- Assumes nothing.
use Prim.Native.Nat.{ℕ, ◌%◌, ◌≤◌, ◌<◌}
use native.Mathlib.Omega.{arith}
use mathlib.Core.Path.{◌≡◌, refl, sym, ap, ap₂, subst, ◌∙◌}
use mathlib.Core.Bool.{true, false}
use mathlib.Core.List.{List, [], ◌∷◌}
use borrow.Author.Tests.{eq-eqb, eqb-false}
use lib.ListN.{length}
use Rattle.refusals.specs.Refusal.{first}
use Rattle.refusals.specs.Call.{Answered, front}
use Rattle.refusals.proofs.Calls.{done, refused}
use Rattle.frames.specs.Frame.{header_of, payload_of, look_order}
use Rattle.numbering.specs.Numbering.{InWindow, end, is_accepted, candidate, candidate_order}
use Rattle.numbering.proofs.Candidate.{candidate_of_lem}
use Rattle.numbering.proofs.Arrival.{candidate_repeat, candidate_new}
use Rattle.numbering.proofs.Arising.{start_can_arise, accepted_can_arise}
use Rattle.numbering.proofs.Marks.{accepted_in_window, accepted_again}
use Rattle.link.specs.Link.{link_can_arise, link_of, ciphered, header_at, frame_at}
use Rattle.link.proofs.Links.{opened_link}
use Rattle.link.proofs.Frames.{length-ciphered, ciphered_twice, header_of_frame_at, payload_of_frame_at, frame_at_looked}
use Rattle.receiver.specs.declared.Receiver.{Receiver}
use Rattle.receiver.specs.Receiver.{new_receiver, after_accepting, open_receiver_call, receiver_can_arise, is_of_link, candidate_of, open_call}
use Rattle.receiver.proofs.Opening.{receiver_says, open_candidate, open_4, open_0}

-- a receiver that was opened is new on its link, and can arise
module _ (key : List ℕ) (iov sapi direction : ℕ) {numbers : List ℕ} {receiver : Receiver} (answered : Answered (open_receiver_call key iov sapi direction) 0 numbers receiver) where
  pub opened_receiver : receiver ≡ new_receiver (link_of key iov sapi direction)
  opened_receiver = answered.lent_is

  pub opened_can_arise : (w : ℕ) → receiver_can_arise w receiver ≡ true
  unfolding receiver_can_arise new_receiver
  opened_can_arise w = ap (receiver_can_arise w) opened_receiver ∙ simp (opened_link key iov sapi direction (sym answered.refusal_is), start_can_arise w)

-- ---- opening the frame of a number

module _ (w : ℕ) (narrow : w ≤ 512) (receiver : Receiver) (good : receiver_can_arise w receiver ≡ true) (n : ℕ) (inside : InWindow w receiver.numbering.next n) (before_end : n < end)
    (payload : List ℕ) (some : 1 ≤ length payload) (most : length payload ≤ 1520) (before : List ℕ) where
  octets : List ℕ
  octets = frame_at receiver.link n payload

  link_good : link_can_arise receiver.link ≡ true
  link_good = (receiver_says w receiver good).0

  length_is : length (payload_of octets) ≡ length payload
  unfolding octets
  length_is = ap length (payload_of_frame_at receiver.link n link_good payload) ∙ length-ciphered receiver.link n payload

  nothing : first (look_order octets) ≡ 0
  unfolding octets
  nothing = frame_at_looked receiver.link n link_good payload some most

  header_is : header_of octets ≡ header_at receiver.link n
  unfolding octets
  header_is = header_of_frame_at receiver.link n link_good payload

  ours : is_of_link receiver.link octets ≡ true
  unfolding is_of_link header_at
  ours = rw header_is (simp (eq-eqb receiver.link.sapi receiver.link.sapi refl, eq-eqb receiver.link.direction receiver.link.direction refl))

  sent_is : (header_of octets).sent ≡ n % 512
  unfolding header_at
  sent_is = ap (λ (h : _). h.sent) header_is

  number_is : candidate_of w receiver octets ≡ n
  unfolding candidate_of
  number_is = ap (candidate w receiver.numbering.next) sent_is ∙ candidate_of_lem w narrow receiver.numbering.next n inside

  causes_are : first (candidate_order w receiver.numbering (header_of octets).sent) ≡ first (candidate_order w receiver.numbering (n % 512))
  causes_are = ap (λ (N : ℕ). first (candidate_order w receiver.numbering N)) sent_is

  -- a frame that was accepted before is a repeat
  pub open_repeat : is_accepted receiver.numbering n ≡ true
      → Answered (open_call w receiver (frame_at receiver.link n payload) before) 11 (n ∷ 0 ∷ []) (record { receiver = receiver; output = before })
  unfolding octets
  open_repeat again =
      let named = causes_are ∙ candidate_repeat w narrow receiver.numbering n inside before_end again in
      subst (λ (m : ℕ). Answered (open_call w receiver octets before) 11 (m ∷ 0 ∷ []) (record { receiver = receiver; output = before })) number_is
      (refused (open_call w receiver octets before) 11
      (open_candidate w receiver octets before good nothing ours (λ zero. eqb-false 11 0 refl (sym named ∙ zero)) ∙ named)
      (eqb-false 11 0 refl))

  module _ (anew : is_accepted receiver.numbering n ≡ false) where
    numbered : first (candidate_order w receiver.numbering (header_of octets).sent) ≡ 0
    numbered = causes_are ∙ candidate_new w narrow receiver.numbering n inside before_end anew

    -- a frame that is new to the receiver, without room for its payload, is refused with 4 and not marked
    pub open_no_room : length before < length payload
        → Answered (open_call w receiver (frame_at receiver.link n payload) before) 4 (n ∷ 0 ∷ []) (record { receiver = receiver; output = before })
    unfolding octets
    open_no_room short =
        subst (λ (m : ℕ). Answered (open_call w receiver octets before) 4 (m ∷ 0 ∷ []) (record { receiver = receiver; output = before })) number_is
        (refused (open_call w receiver octets before) 4
        (open_4 w receiver octets before good nothing ours numbered (omega (arith, length_is)))
        (eqb-false 4 0 refl))

    -- and with room its number is accepted, and the sender's payload stands at the front of the output
    pub open_new : length payload ≤ length before
        → Answered (open_call w receiver (frame_at receiver.link n payload) before) 0 (n ∷ length payload ∷ [])
        (record { receiver = after_accepting w receiver n; output = front payload before })
    unfolding octets
    open_new room =
        let back : ciphered receiver.link (candidate_of w receiver octets) (payload_of octets) ≡ payload =
        ap₂ (ciphered receiver.link) number_is (payload_of_frame_at receiver.link n link_good payload) ∙ ciphered_twice receiver.link n payload in
        let answer = done (open_call w receiver octets before) (open_0 w receiver octets before good nothing ours numbered (omega (arith, length_is))) in
        record {
          refusal_is = answer.refusal_is;
          numbers_are = (λ i. sym number_is i ∷ sym length_is i ∷ []) ∙ answer.numbers_are;
          lent_is = (λ i. record { receiver = after_accepting w receiver (sym number_is i); output = front (sym back i) before }) ∙ answer.lent_is;
        }

-- presented again, to the receiver that accepted it, a frame is a repeat, whatever the room
module _ (w : ℕ) (wide : 0 < w) (narrow : w ≤ 512) (receiver : Receiver) (good : receiver_can_arise w receiver ≡ true) (n : ℕ) (inside : InWindow w receiver.numbering.next n) (before_end : n < end) where
  pub accepting_can_arise : receiver_can_arise w (after_accepting w receiver n) ≡ true
  unfolding receiver_can_arise after_accepting
  accepting_can_arise =
      let says = receiver_says w receiver good in
      simp (says.0, accepted_can_arise w wide receiver.numbering says.1 n inside before_end)

  pub open_again : (payload : List ℕ) → 1 ≤ length payload → length payload ≤ 1520 → (before : List ℕ)
      → Answered (open_call w (after_accepting w receiver n) (frame_at receiver.link n payload) before) 11 (n ∷ 0 ∷ []) (record { receiver = after_accepting w receiver n; output = before })
  unfolding after_accepting
  open_again payload some most before =
      let says = receiver_says w receiver good in
      open_repeat w narrow (after_accepting w receiver n) accepting_can_arise n (accepted_in_window w wide receiver.numbering says.1 n inside) before_end payload some most before
      (accepted_again w wide receiver.numbering says.1 n inside)
