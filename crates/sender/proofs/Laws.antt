-- The laws of a sender for its callers: a sender that was opened, and what a seal and a reservation that are not refused leave.
-- Assumes nothing.
use Prim.Native.Nat.{ℕ, ◌+◌, ◌≤◌, ◌<◌, zero-le}
use native.Mathlib.Omega.{arith}
use mathlib.Core.Path.{◌≡◌, refl, sym, ap, ◌∙◌}
use mathlib.Core.Bool.{true, false, and-eq-true_iff}
use mathlib.Core.List.{List, [], ◌∷◌}
use mathlib.Mathlib.Data.Bool.Basic.{or-eq-false-eq-eq-false-and-eq-false}
use borrow.Author.Tests.{le-leb, leb-true, leb-false, ltb-false, eqb-false, not-true, not-false}
use lib.Dec.{eqb, ltb}
use lib.ListN.{length}
use Rattle.refusals.specs.Refusal.{first, row_at}
use Rattle.refusals.specs.Call.{Answered, front}
use Rattle.refusals.proofs.Calls.{determined}
use Rattle.numbering.specs.Numbering.{end}
use Rattle.link.specs.Link.{link_of, is_payload, frame_at}
use Rattle.link.proofs.Links.{opened_link}
use Rattle.sender.specs.declared.Sender.{Sender}
use Rattle.sender.specs.Sender.{new_sender, after_frame, with_reservation, open_sender_call, sender_can_arise, is_reservation, reserve_order, reserve_call, seal_order, seal_call}
use Rattle.sender.proofs.Sealing.{sender_says, says_sender}

-- a sender that was opened is new on its link, and can arise
module _ (key : List ℕ) (iov sapi direction : ℕ) {numbers : List ℕ} {sender : Sender} (answered : Answered (open_sender_call key iov sapi direction) 0 numbers sender) where
  pub opened_sender : sender ≡ new_sender (link_of key iov sapi direction)
  opened_sender = answered.lent_is

  pub opened_can_arise : sender_can_arise sender ≡ true
  unfolding sender_can_arise new_sender
  opened_can_arise =
      ap sender_can_arise opened_sender
      ∙ simp (opened_link key iov sapi direction (sym answered.refusal_is), le-leb 0 end zero-le, le-leb 0 0 zero-le)

-- what a seal that is not refused had, and what it leaves
pub record FrameSealed (sender : Sender) (payload before : List ℕ) (number size : ℕ) (later : Sender) (after : List ℕ) : Type 0 where
  pub good : sender_can_arise sender ≡ true
  pub some : 1 ≤ length payload
  pub most : length payload ≤ 1520
  pub before_end : sender.next < end
  pub below : sender.next < sender.reserved
  pub room : length payload + 6 ≤ length before
  pub number_is : number ≡ sender.next
  pub size_is : size ≡ length payload + 6
  pub later_is : later ≡ after_frame sender
  pub output_is : after ≡ front (frame_at sender.link sender.next payload) before

pub seal_done : (sender : Sender) (payload before : List ℕ) {number size : ℕ} {later : Sender} {after : List ℕ}
    → Answered (seal_call sender payload before) 0 (number ∷ size ∷ []) (record { sender = later; output = after })
    → FrameSealed sender payload before number size later after
unfolding seal_order row_at is_payload
seal_done sender payload before {number} {size} {later} {after} answered =
    let passed : (k : ℕ) → (row_at (seal_order sender payload before) k).holds ≡ false = ((determined (seal_call sender payload before) tt).refuses answered).none.0 refl in
    let good : sender_can_arise sender ≡ true = not-false _ (passed 0) in
    let sizes : (eqb (length payload) 0 ≡ false) × (ltb 1520 (length payload) ≡ false) = (or-eq-false-eq-eq-false-and-eq-false _ _).0 (not-true _ (not-false _ (passed 1))) in
    let told = answered.numbers_are in
    record {
      good = good;
      some = omega (arith, eqb-false (length payload) 0 sizes.0);
      most = ltb-false _ _ sizes.1;
      before_end = omega (arith, eqb-false sender.next end (passed 2), (sender_says sender good).within, (sender_says sender good).before_end);
      below = leb-false _ _ (passed 3);
      room = ltb-false _ _ (passed 4);
      number_is = cc;
      size_is = cc;
      later_is = ap (λ (lent : _). lent.sender) answered.lent_is;
      output_is = ap (λ (lent : _). lent.output) answered.lent_is;
    }

-- and the sender can go on
pub sealed_can_arise : {sender : Sender} {payload before : List ℕ} {number size : ℕ} {later : Sender} {after : List ℕ}
    → FrameSealed sender payload before number size later after → sender_can_arise later ≡ true
unfolding after_frame
sealed_can_arise {sender} done =
    let says = sender_says sender done.good in
    ap sender_can_arise done.later_is
    ∙ says_sender (after_frame sender)
    (record { link_can = says.link_can; before_end = says.before_end; within = omega (arith, done.below); near = omega (arith, says.near) })

-- what a reservation that is not refused had, and what it leaves
pub record ReservationTold (sender : Sender) (reserved : ℕ) (later : Sender) : Type 0 where
  pub good : sender_can_arise sender ≡ true
  pub not_lower : sender.reserved ≤ reserved
  pub near : reserved ≤ sender.next + 64
  pub before_end : reserved ≤ end
  pub later_is : later ≡ with_reservation sender reserved

-- a reservation that a sender may be given, as facts
pub reservation_says : (sender : Sender) (reserved : ℕ) → is_reservation sender reserved ≡ true
    → (sender.reserved ≤ reserved) × (reserved ≤ sender.next + 64) × (reserved ≤ end)
unfolding is_reservation
reservation_says sender reserved fits =
    let first_rest = (and-eq-true_iff _ _).0 fits in
    let both = (and-eq-true_iff _ _).0 first_rest.1 in
    (leb-true _ _ first_rest.0, leb-true _ _ both.0, leb-true _ _ both.1)

pub says_reservation : (sender : Sender) (reserved : ℕ) → sender.reserved ≤ reserved → reserved ≤ sender.next + 64 → reserved ≤ end → is_reservation sender reserved ≡ true
unfolding is_reservation
says_reservation sender reserved not_lower near before_end = simp (le-leb _ _ not_lower, le-leb _ _ near, le-leb _ _ before_end)

-- a reservation is told where it may be
pub reserve_0 : (sender : Sender) (reserved : ℕ) → sender_can_arise sender ≡ true → is_reservation sender reserved ≡ true → first (reserve_order sender reserved) ≡ 0
unfolding first reserve_order
reserve_0 sender reserved good fits = simp (good, fits)

pub reserve_done : (sender : Sender) (reserved : ℕ) {later : Sender} → Answered (reserve_call sender reserved) 0 [] later → ReservationTold sender reserved later
unfolding reserve_order row_at
reserve_done sender reserved answered =
    let passed : (k : ℕ) → (row_at (reserve_order sender reserved) k).holds ≡ false = ((determined (reserve_call sender reserved) tt).refuses answered).none.0 refl in
    let says = reservation_says sender reserved (not-false _ (passed 1)) in
    record { good = not-false _ (passed 0); not_lower = says.0; near = says.1; before_end = says.2; later_is = answered.lent_is }

-- and the sender can go on
pub told_can_arise : {sender : Sender} {reserved : ℕ} {later : Sender} → ReservationTold sender reserved later → sender_can_arise later ≡ true
unfolding with_reservation
told_can_arise {sender} {reserved} done =
    let says = sender_says sender done.good in
    ap sender_can_arise done.later_is
    ∙ says_sender (with_reservation sender reserved)
    (record { link_can = says.link_can; before_end = done.before_end; within = omega (arith, says.within, done.not_lower); near = done.near })
