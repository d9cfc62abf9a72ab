-- Why a frame outside the window is misread: the turn is not on the air, and the number that is handed out is in the window. Assumes nothing.
use Prim.Native.Nat.{ℕ, ◌%◌, ◌≤◌}
use mathlib.Core.Path.{◌≡◌, refl, sym, ap, ap₂, subst, ◌∙◌}
use mathlib.Core.Bool.{false}
use mathlib.Core.List.{List, [], ◌∷◌}
use borrow.Author.Tests.{not-false}
use Rattle.refusals.specs.Refusal.{row_at}
use Rattle.refusals.specs.Call.{Answered}
use Rattle.refusals.proofs.Calls.{determined, head_is}
use Rattle.frames.specs.Frame.{frame, header_of, look_order}
use Rattle.numbering.specs.Numbering.{InWindow, candidate, is_below0, candidate_order}
use Rattle.numbering.proofs.Candidate.{outside_misread}
use Rattle.link.specs.declared.Link.{Link}
use Rattle.link.specs.Link.{ciphered, header_at, frame_at}
use Rattle.link.proofs.Frames.{ciphered_twice, header_of_frame_at}
use Rattle.receiver.specs.declared.Receiver.{Receiver}
use Rattle.receiver.specs.Receiver.{Opening, candidate_of, open_order, open_call}
use Rattle.receiver.proofs.Opening.{receiver_says}
use Rattle.promises.specs.Examples.{OutsideMisread}

-- the turn is not on the air: the frame of a number is, for every number with the same nine bits, the frame of that number with another payload
pub turn_not_on_air : (link : Link) (m n : ℕ) (payload : List ℕ) → m % 512 ≡ n % 512 → frame_at link m payload ≡ frame_at link n (ciphered link n (ciphered link m payload))
unfolding frame_at header_at
turn_not_on_air link m n payload same =
    ap₂ frame
    {x = record { sapi = link.sapi; direction = link.direction; sent = m % 512 }}
    (λ i. record { sapi = link.sapi; direction = link.direction; sent = same i })
    (sym (ciphered_twice link n (ciphered link m payload)))

-- a frame that is handed out has a candidate, which is its number; and that is not the number of a frame outside the window
module _ (w : ℕ) (narrow : w ≤ 512) (receiver : Receiver) (n : ℕ) (payload before : List ℕ) {numbers : List ℕ} {lent : Opening}
    (answered : Answered (open_call w receiver (frame_at receiver.link n payload) before) 0 numbers lent) where
  octets : List ℕ
  octets = frame_at receiver.link n payload

  passed : (k : ℕ) → (row_at (open_order w receiver octets before) k).holds ≡ false
  unfolding octets open_order look_order candidate_order
  passed = ((determined (open_call w receiver octets before) tt).refuses answered).none.0 refl

  sent_is : (header_of octets).sent ≡ n % 512
  unfolding octets open_order row_at header_at
  sent_is = ap (λ (h : _). h.sent) (header_of_frame_at receiver.link n (receiver_says w receiver (not-false _ (passed 0))).0 payload)

  not_its_own : (InWindow w receiver.numbering.next n → ⊥) → candidate_of w receiver octets ≡ n → ⊥
  unfolding open_order look_order candidate_order row_at candidate_of
  not_its_own away same =
      let started : is_below0 w receiver.numbering.next (n % 512) ≡ false = ap (is_below0 w receiver.numbering.next) (sym sent_is) ∙ passed 5 in
      outside_misread w narrow receiver.numbering.next n away started (ap (candidate w receiver.numbering.next) (sym sent_is) ∙ same)

pub outside : (w : ℕ) → w ≤ 512 → OutsideMisread w
unfolding octets
outside w narrow receiver later n payload call away presented opens done same =
    let answered : Answered (open_call w receiver (frame_at receiver.link n payload) call.before) 0 (call.number ∷ call.size ∷ []) (record { receiver = later; output = call.after }) =
    subst (λ (r : ℕ). Answered (open_call w receiver (frame_at receiver.link n payload) call.before) r (call.number ∷ call.size ∷ []) (record { receiver = later; output = call.after })) done
    (subst (λ (o : List ℕ). Answered (open_call w receiver o call.before) call.refusal (call.number ∷ call.size ∷ []) (record { receiver = later; output = call.after })) presented opens) in
    not_its_own w narrow receiver n payload call.before answered away (sym (head_is answered.numbers_are) ∙ same)
