-- The laws of storing and restoring a receiver, for their callers: what a store and a restore that are not refused had and leave, and that a receiver is
-- restored from what was stored of it.
-- Assumes nothing.
use Prim.Native.Nat.{ℕ, ◌^◌, ◌≤◌, ◌<◌}
use native.Mathlib.Omega.{arith}
use native.Mathlib.Nat.{lt_of_lt_of_le}
use mathlib.Core.Path.{◌≡◌, refl, sym, ap, subst, ◌∙◌}
use mathlib.Core.Bool.{true, false}
use mathlib.Core.List.{List, [], ◌∷◌}
use borrow.Author.Tests.{ltb-false, not-false}
use lib.Dec.{lit<}
use lib.ListN.{length, take}
use lib.Pow.{pow_mono}
use Rattle.refusals.specs.Refusal.{first, row_at}
use Rattle.refusals.specs.Call.{Answered, front}
use Rattle.refusals.proofs.Calls.{done, determined, one_outcome}
use Rattle.numbering.specs.declared.Numbering.{Numbering}
use Rattle.numbering.specs.Numbering.{end, marks_of, numbering_of}
use Rattle.numbering.proofs.State.{CanArise, can_arise_says, numbering_of_lem}
use Rattle.frames.specs.Frame.{AreOctets}
use Rattle.receiver.specs.declared.Receiver.{Receiver}
use Rattle.receiver.specs.Receiver.{receiver_of, receiver_can_arise}
use Rattle.receiver.proofs.Opening.{receiver_says}
use Rattle.stored.specs.Form.{form_size, form_order}
use Rattle.stored.specs.Ends.{receiver_form, receiver_in, store_receiver_order, store_receiver_call, restore_receiver_order, restore_receiver_call}
use Rattle.stored.proofs.Answers.{restore_0}
use Rattle.stored.proofs.Places.{length-form}
use Rattle.stored.proofs.ReadBack.{form_read, link_of_form, word_of_form, form_in_front, form_of_octets}

-- what a store that is not refused had, and what it leaves
pub record ReceiverStored (w : ℕ) (receiver : Receiver) (before after : List ℕ) : Type 0 where
  pub good : receiver_can_arise w receiver ≡ true
  pub room : form_size 2 ≤ length before
  pub output_is : after ≡ front (receiver_form receiver) before

pub store_receiver_done : (w : ℕ) (receiver : Receiver) (before : List ℕ) {after : List ℕ}
    → Answered (store_receiver_call w receiver before) 0 [] after → ReceiverStored w receiver before after
unfolding store_receiver_order row_at
store_receiver_done w receiver before answered =
    let passed : (k : ℕ) → (row_at (store_receiver_order w receiver before) k).holds ≡ false = ((determined (store_receiver_call w receiver before) tt).refuses answered).none.0 refl in
    record { good = not-false _ (passed 0); room = ltb-false _ _ (passed 1); output_is = answered.lent_is }

-- what a restore that is not refused had, and what it leaves
pub record ReceiverRestored (w : ℕ) (octets : List ℕ) (receiver : Receiver) : Type 0 where
  pub formed : first (form_order 1 2 octets) ≡ 0
  pub good : receiver_can_arise w receiver ≡ true
  pub receiver_is : receiver ≡ receiver_in octets

pub restore_receiver_done : (w : ℕ) (octets : List ℕ) {receiver : Receiver} → Answered (restore_receiver_call w octets) 0 [] receiver → ReceiverRestored w octets receiver
unfolding restore_receiver_order form_order row_at first
restore_receiver_done w octets answered =
    let passed : (k : ℕ) → (row_at (restore_receiver_order w octets) k).holds ≡ false = ((determined (restore_receiver_call w octets) tt).refuses answered).none.0 refl in
    record {
      formed = simp (passed 0, passed 1);
      good = ap (receiver_can_arise w) answered.lent_is ∙ not-false _ (passed 2);
      receiver_is = answered.lent_is;
    }

-- octets that a receiver is restored from are the form that would be stored of it
pub restored_receiver_form : {w : ℕ} {octets : List ℕ} {receiver : Receiver} → AreOctets octets → ReceiverRestored w octets receiver → octets ≡ receiver_form receiver
unfolding receiver_form receiver_in marks_of
restored_receiver_form {octets = octets} each restored = form_of_octets octets each 1 2 restored.formed ∙ sym (ap receiver_form restored.receiver_is)

pub length-receiver_form : (receiver : Receiver) → length receiver.link.key ≡ 16 → length (receiver_form receiver) ≡ form_size 2
unfolding receiver_form
length-receiver_form receiver sixteen = length-form 1 receiver.link (receiver.numbering.next ∷ marks_of receiver.numbering ∷ []) sixteen

-- from what was stored of a receiver that receiver is restored: its numbers fit their four octets
module _ (w : ℕ) (narrow : w ≤ 32) (receiver : Receiver) (good : receiver_can_arise w receiver ≡ true) (sixteen : length receiver.link.key ≡ 16)
    (offset : receiver.link.iov < 2 ^ 32) where
  abbrev state : Numbering
  state = receiver.numbering

  says : CanArise w state
  says = can_arise_says w state (receiver_says w receiver good).1

  marks_fit : marks_of state < 2 ^ 32
  marks_fit = lt_of_lt_of_le says.within (pow_mono {j = 32} (omega arith))

  pub receiver_in_form : receiver_in (receiver_form receiver) ≡ receiver
  unfolding receiver_in receiver_form end
  receiver_in_form =
      let words : List ℕ = state.next ∷ marks_of state ∷ [] in
      let link_is = link_of_form 1 receiver.link words sixteen offset in
      let next_is = word_of_form 1 receiver.link words sixteen 0 (lit< tt) (omega (arith, says.not_past)) in
      let marks_are = word_of_form 1 receiver.link words sixteen 1 (lit< tt) marks_fit in
      (λ i. receiver_of (link_is i) (numbering_of (next_is i) (marks_are i))) ∙ ap (receiver_of receiver.link) (numbering_of_lem state)

  pub receiver_restores : Answered (restore_receiver_call w (receiver_form receiver)) 0 [] receiver
  unfolding receiver_form restore_receiver_order
  receiver_restores =
      let can : receiver_can_arise w (receiver_in (receiver_form receiver)) ≡ true = ap (receiver_can_arise w) receiver_in_form ∙ good in
      subst (λ (r : Receiver). Answered (restore_receiver_call w (receiver_form receiver)) 0 [] r) receiver_in_form
      (done (restore_receiver_call w (receiver_form receiver))
      (restore_0 2 (receiver_form receiver) _ (form_read 1 receiver.link (state.next ∷ marks_of state ∷ []) sixteen) can))

module _ {w : ℕ} {receiver : Receiver} {before after : List ℕ} (stored : ReceiverStored w receiver before after) (sixteen : length receiver.link.key ≡ 16) where
  -- the form is what stands at the front of the output
  pub stored_receiver_form : take (form_size 2) after ≡ receiver_form receiver
  unfolding receiver_form
  stored_receiver_form =
      ap (take (form_size 2)) stored.output_is
      ∙ form_in_front 1 receiver.link (receiver.numbering.next ∷ marks_of receiver.numbering ∷ []) sixteen before

  -- so any answer to restoring it is that receiver
  pub stored_receiver_restored : w ≤ 32 → receiver.link.iov < 2 ^ 32 → {refusal : ℕ} {numbers : List ℕ} {later : Receiver}
      → Answered (restore_receiver_call w (take (form_size 2) after)) refusal numbers later → (refusal ≡ 0) × (later ≡ receiver)
  stored_receiver_restored narrow offset {refusal} {numbers} {later} answered =
      let again : Answered (restore_receiver_call w (receiver_form receiver)) refusal numbers later = rw stored_receiver_form at answered in
      let same = one_outcome (restore_receiver_call w (receiver_form receiver)) again (receiver_restores w narrow receiver stored.good sixteen offset) in
      (same.0, same.2)
