-- What storing and restoring answer, cause by cause.
-- Assumes nothing.
use Prim.Native.Nat.{ℕ, ◌≤◌, ◌<◌}
use mathlib.Core.Path.{◌≡◌, refl, ◌∙◌}
use mathlib.Core.Bool.{Bool, true, false, cond, not}
use mathlib.Core.List.{List, [], ◌∷◌, ◌++◌}
use borrow.Author.Tests.{eq-eqb, ne_eqb, lt-ltb, le-ltb}
use lib.Dec.{eqb, ltb}
use lib.ListN.{length}
use Rattle.refusals.specs.Refusal.{Row, first}
use Rattle.refusals.proofs.Laws.{first_append}
use Rattle.keystreams.specs.Key.{is_key}
use Rattle.link.specs.Link.{link_order}
use Rattle.sender.specs.declared.Sender.{Sender}
use Rattle.sender.specs.Sender.{reserve_order}
use Rattle.receiver.specs.declared.Receiver.{Receiver}
use Rattle.receiver.specs.Receiver.{receiver_can_arise}
use Rattle.stored.specs.Form.{form_size, form_order}
use Rattle.stored.specs.Ends.{store_sender_order, store_receiver_order}

-- ---- storing: past the refusals of the end itself, the room decides

module _ (sender : Sender) (reserved : ℕ) (output : List ℕ) where
  past_telling : first (store_sender_order sender reserved output)
      ≡ cond (eqb (first (reserve_order sender reserved)) 0) (cond (ltb (length output) (form_size 1)) 4 0) (first (reserve_order sender reserved))
  unfolding first store_sender_order reserve_order
  past_telling = first_append (reserve_order sender reserved) (record { number = 4; holds = ltb (length output) (form_size 1) } ∷ []) tt

  pub store_sender_told : (first (reserve_order sender reserved) ≡ 0 → ⊥) → first (store_sender_order sender reserved output) ≡ first (reserve_order sender reserved)
  store_sender_told some = past_telling ∙ rw (ne_eqb _ _ some)

  module _ (nothing : first (reserve_order sender reserved) ≡ 0) where
    pub store_sender_4 : length output < form_size 1 → first (store_sender_order sender reserved output) ≡ 4
    store_sender_4 short = past_telling ∙ rw (eq-eqb _ _ nothing, lt-ltb _ _ short)

    pub store_sender_0 : form_size 1 ≤ length output → first (store_sender_order sender reserved output) ≡ 0
    store_sender_0 room = past_telling ∙ rw (eq-eqb _ _ nothing, le-ltb _ _ room)

module _ (w : ℕ) (receiver : Receiver) (output : List ℕ) where
  pub store_receiver_12 : receiver_can_arise w receiver ≡ false → first (store_receiver_order w receiver output) ≡ 12
  unfolding first store_receiver_order
  store_receiver_12 bad = simp bad

  module _ (good : receiver_can_arise w receiver ≡ true) where
    pub store_receiver_4 : length output < form_size 2 → first (store_receiver_order w receiver output) ≡ 4
    unfolding first store_receiver_order
    store_receiver_4 short = simp (good, lt-ltb _ _ short)

    pub store_receiver_0 : form_size 2 ≤ length output → first (store_receiver_order w receiver output) ≡ 0
    unfolding first store_receiver_order
    store_receiver_0 room = simp (good, le-ltb _ _ room)

-- ---- restoring: past the refusals of the form, the end that it holds decides

-- the order of restoring either end, from a form of so many words that holds an end which can arise or not
abbrev pub restore_order : ℕ → List ℕ → Bool → List Row
restore_order words octets can = form_order 1 words octets ++ (record { number = 12; holds = not can } ∷ [])

module _ (words : ℕ) (octets : List ℕ) (can : Bool) where
  past_form : first (restore_order words octets can) ≡ cond (eqb (first (form_order 1 words octets)) 0) (cond (not can) 12 0) (first (form_order 1 words octets))
  unfolding first form_order
  past_form = first_append (form_order 1 words octets) (record { number = 12; holds = not can } ∷ []) tt

  pub restore_form : (first (form_order 1 words octets) ≡ 0 → ⊥) → first (restore_order words octets can) ≡ first (form_order 1 words octets)
  restore_form some = past_form ∙ rw (ne_eqb _ _ some)

  module _ (nothing : first (form_order 1 words octets) ≡ 0) where
    pub restore_12 : can ≡ false → first (restore_order words octets can) ≡ 12
    restore_12 bad = past_form ∙ rw (eq-eqb _ _ nothing, bad)

    pub restore_0 : can ≡ true → first (restore_order words octets can) ≡ 0
    restore_0 good = past_form ∙ rw (eq-eqb _ _ nothing, good)

-- an opening without a key is refused
pub no_key : first (link_order [] 0 0) ≡ 1
unfolding first link_order is_key
no_key = refl
