-- The laws of storing and restoring a sender, for their callers: what a store and a restore that are not refused had and leave, and that a sender is
-- restored from what was stored of it.
-- Assumes nothing.
use Prim.Native.Nat.{ℕ, ◌+◌, ◌^◌, ◌≤◌, ◌<◌}
use native.Mathlib.Omega.{arith}
use mathlib.Core.Path.{◌≡◌, refl, sym, ap, subst, ◌∙◌}
use mathlib.Core.Bool.{true, false}
use mathlib.Core.List.{List, [], ◌∷◌}
use borrow.Author.Tests.{ltb-false, not-false}
use lib.Dec.{lit<}
use lib.ListN.{length, take}
use Rattle.refusals.specs.Refusal.{first, row_at}
use Rattle.refusals.specs.Call.{Answered, front}
use Rattle.refusals.proofs.Calls.{done, determined, one_outcome}
use Rattle.numbering.specs.Numbering.{end}
use Rattle.frames.specs.Frame.{AreOctets}
use Rattle.link.specs.declared.Link.{Link}
use Rattle.link.specs.Link.{link_can_arise}
use Rattle.sender.specs.declared.Sender.{Sender}
use Rattle.sender.specs.Sender.{ahead, sender_of, sender_can_arise, reserve_order}
use Rattle.sender.proofs.Sealing.{sender_says, says_sender}
use Rattle.sender.proofs.Laws.{reservation_says}
use Rattle.stored.specs.Form.{form_size, form_order}
use Rattle.stored.specs.Ends.{sender_form, sender_in, store_sender_order, store_sender_call, restore_sender_order, restore_sender_call}
use Rattle.stored.proofs.Answers.{restore_0}
use Rattle.stored.proofs.Places.{length-form}
use Rattle.stored.proofs.ReadBack.{form_read, link_of_form, word_of_form, form_in_front, form_of_octets}

-- what a store that is not refused had, and what it leaves
pub record SenderStored (sender : Sender) (reserved : ℕ) (before after : List ℕ) : Type 0 where
  pub good : sender_can_arise sender ≡ true
  pub not_lower : sender.reserved ≤ reserved
  pub near : reserved ≤ sender.next + ahead
  pub before_end : reserved ≤ end
  pub room : form_size 1 ≤ length before
  pub output_is : after ≡ front (sender_form sender.link reserved) before

pub store_sender_done : (sender : Sender) (reserved : ℕ) (before : List ℕ) {after : List ℕ}
    → Answered (store_sender_call sender reserved before) 0 [] after → SenderStored sender reserved before after
unfolding store_sender_order reserve_order row_at
store_sender_done sender reserved before answered =
    let passed : (k : ℕ) → (row_at (store_sender_order sender reserved before) k).holds ≡ false = ((determined (store_sender_call sender reserved before) tt).refuses answered).none.0 refl in
    let says = reservation_says sender reserved (not-false _ (passed 1)) in
    record {
      good = not-false _ (passed 0);
      not_lower = says.0;
      near = says.1;
      before_end = says.2;
      room = ltb-false _ _ (passed 2);
      output_is = answered.lent_is;
    }

-- what a restore that is not refused had, and what it leaves
pub record SenderRestored (octets : List ℕ) (sender : Sender) : Type 0 where
  pub formed : first (form_order 1 1 octets) ≡ 0
  pub good : sender_can_arise sender ≡ true
  pub sender_is : sender ≡ sender_in octets
  -- it stands at its reservation
  pub stands : sender.next ≡ sender.reserved

pub restore_sender_done : (octets : List ℕ) {sender : Sender} → Answered (restore_sender_call octets) 0 [] sender → SenderRestored octets sender
unfolding restore_sender_order form_order row_at first sender_in
restore_sender_done octets answered =
    let passed : (k : ℕ) → (row_at (restore_sender_order octets) k).holds ≡ false = ((determined (restore_sender_call octets) tt).refuses answered).none.0 refl in
    record {
      formed = simp (passed 0, passed 1);
      good = ap sender_can_arise answered.lent_is ∙ not-false _ (passed 2);
      sender_is = answered.lent_is;
      stands = ap (λ (s : Sender). s.next) answered.lent_is ∙ sym (ap (λ (s : Sender). s.reserved) answered.lent_is);
    }

-- octets that a sender is restored from are the form that would be stored of it
pub restored_sender_form : {octets : List ℕ} {sender : Sender} → AreOctets octets → SenderRestored octets sender → octets ≡ sender_form sender.link sender.reserved
unfolding sender_form sender_in
restored_sender_form {octets} each restored =
    form_of_octets octets each 1 1 restored.formed ∙ sym (ap (λ (s : Sender). sender_form s.link s.reserved) restored.sender_is)

pub length-sender_form : (link : Link) (reserved : ℕ) → length link.key ≡ 16 → length (sender_form link reserved) ≡ form_size 1
unfolding sender_form
length-sender_form link reserved sixteen = length-form 1 link (reserved ∷ []) sixteen

-- from what was stored of a sender on this link a sender is restored that stands at the reservation
module _ (link : Link) (reserved : ℕ) (sixteen : length link.key ≡ 16) (offset : link.iov < 2 ^ 32) where
  pub sender_in_form : reserved < 2 ^ 32 → sender_in (sender_form link reserved) ≡ sender_of link reserved reserved
  unfolding sender_in sender_form
  sender_in_form fits =
      let link_is = link_of_form 1 link (reserved ∷ []) sixteen offset in
      let reserved_is = word_of_form 1 link (reserved ∷ []) sixteen 0 (lit< tt) fits in
      λ i. sender_of (link_is i) (reserved_is i) (reserved_is i)

  pub sender_restores : link_can_arise link ≡ true → reserved ≤ end → Answered (restore_sender_call (sender_form link reserved)) 0 [] (sender_of link reserved reserved)
  unfolding sender_form restore_sender_order end
  sender_restores good before_end =
      let held : sender_in (sender_form link reserved) ≡ sender_of link reserved reserved = sender_in_form (omega arith) in
      let can : sender_can_arise (sender_in (sender_form link reserved)) ≡ true =
      ap sender_can_arise held
      ∙ says_sender (sender_of link reserved reserved) (record { link_can = good; before_end = before_end; within = omega arith; near = omega arith }) in
      subst (λ (s : Sender). Answered (restore_sender_call (sender_form link reserved)) 0 [] s) held
      (done (restore_sender_call (sender_form link reserved)) (restore_0 1 (sender_form link reserved) _ (form_read 1 link (reserved ∷ []) sixteen) can))

module _ {sender : Sender} {reserved : ℕ} {before after : List ℕ} (stored : SenderStored sender reserved before after) (sixteen : length sender.link.key ≡ 16) where
  -- the form is what stands at the front of the output
  pub stored_sender_form : take (form_size 1) after ≡ sender_form sender.link reserved
  unfolding sender_form
  stored_sender_form = ap (take (form_size 1)) stored.output_is ∙ form_in_front 1 sender.link (reserved ∷ []) sixteen before

  -- so any answer to restoring it is that sender
  pub stored_sender_restored : sender.link.iov < 2 ^ 32 → {refusal : ℕ} {numbers : List ℕ} {later : Sender}
      → Answered (restore_sender_call (take (form_size 1) after)) refusal numbers later → (refusal ≡ 0) × (later ≡ sender_of sender.link reserved reserved)
  stored_sender_restored offset {refusal} {numbers} {later} answered =
      let again : Answered (restore_sender_call (sender_form sender.link reserved)) refusal numbers later = rw stored_sender_form at answered in
      let good = (sender_says sender stored.good).link_can in
      let same = one_outcome (restore_sender_call (sender_form sender.link reserved)) again (sender_restores sender.link reserved sixteen offset good stored.before_end) in
      (same.0, same.2)
