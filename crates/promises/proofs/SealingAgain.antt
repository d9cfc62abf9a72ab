-- A sender that seals one payload again and again: the frames that it seals, of the numbers from any number on, each after it was told a reservation.
-- Assumes nothing.
use Prim.Native.Nat.{ℕ, zero, suc, ◌+◌, ◌≤◌, ◌<◌}
use native.Mathlib.Omega.{arith}
use native.Mathlib.Nat.{add-zero}
use native.Mathlib.Numerals.{add-one}
use mathlib.Core.Path.{◌≡◌, refl, sym, ap, subst}
use mathlib.Core.Bool.{true}
use mathlib.Core.List.{List, [], ◌∷◌}
use lib.ListN.{length, take, replicate, length-replicate}
use Rattle.refusals.specs.Refusal.{first}
use Rattle.refusals.specs.Call.{Answered, front}
use Rattle.refusals.proofs.Calls.{done}
use Rattle.keystreams.specs.Key.{is_key}
use Rattle.numbering.specs.Numbering.{end}
use Rattle.link.specs.declared.Link.{Link}
use Rattle.link.specs.Link.{is_service, is_direction, link_can_arise, link_order, link_of, frame_at}
use Rattle.sender.specs.Sender.{ahead, sender_of, new_sender, after_frame, with_reservation, open_sender_call, sender_can_arise, reserve_call, seal_call}
use Rattle.sender.proofs.Sealing.{says_sender, seal_0}
use Rattle.sender.proofs.Laws.{says_reservation, reserve_0}
use Rattle.promises.specs.Ends.{SealCall, SentFrame, frame_sealed, with_sealed, Sends, no_more, seal, step, IsOneOf, here, there, bench_sending}

-- opening refuses no key, no service number that is assigned and no direction
pub opening_allowed : (key : List ℕ) (sapi direction : ℕ) → is_key key ≡ true → is_service sapi ≡ true → is_direction direction ≡ true → first (link_order key sapi direction) ≡ 0
unfolding first link_order
opening_allowed key sapi direction valid service way = simp (valid, service, way)

pub sender_opens : (key : List ℕ) (iov sapi direction : ℕ) → first (link_order key sapi direction) ≡ 0
    → Answered (open_sender_call key iov sapi direction) 0 [] (sender_of (link_of key iov sapi direction) 0 0)
unfolding new_sender
sender_opens key iov sapi direction allowed = done (open_sender_call key iov sapi direction) allowed

module _ (link : Link) (payload : List ℕ) where
  -- an output with room for the frame
  abbrev pub room_for : List ℕ
  room_for = replicate (length payload + 6) 0

  -- the seal call of number n
  abbrev pub sealing_call : ℕ → SealCall
  sealing_call n = record { payload = payload; before = room_for; refusal = 0; number = n; size = length payload + 6; after = front (frame_at link n payload) room_for }

  -- and the frame that it seals
  abbrev pub sent_at : ℕ → SentFrame
  sent_at n = record { number = n; payload = payload; octets = take (length payload + 6) (front (frame_at link n payload) room_for) }

  -- so many frames, from number n on
  abbrev pub sent_from : ℕ → ℕ → List SentFrame
  sent_from n zero = []
  sent_from n (suc k) = sent_at n ∷ sent_from (suc n) k

  pub length-sent : (n k : ℕ) → length (sent_from n k) ≡ k
  length-sent n zero = refl
  length-sent n (suc k) = ap suc (length-sent (suc n) k)

  pub one_from : (n k j : ℕ) → j < k → IsOneOf (sent_at (n + j)) (sent_from n k)
  one_from n zero j below = absurd (omega arith)
  one_from n (suc k) zero below = subst (λ (m : ℕ). IsOneOf (sent_at m) (sent_from n (suc k))) (sym (add-zero n)) here
  one_from n (suc k) (suc j) below =
      subst (λ (m : ℕ). IsOneOf (sent_at m) (sent_from n (suc k))) {x = suc n + j} (omega arith) (there (one_from (suc n) k j (omega arith)))

  module _ (good : link_can_arise link ≡ true) where
    -- a sender of this link with a reservation that is near
    pub good_sender : (n reserved : ℕ) → n ≤ reserved → reserved ≤ n + ahead → reserved ≤ end → sender_can_arise (sender_of link n reserved) ≡ true
    good_sender n reserved within near before_end =
        says_sender (sender_of link n reserved) (record { link_can = good; before_end = before_end; within = within; near = near })

    -- and it is told another
    pub tells_one : (n reserved more : ℕ) → n ≤ reserved → reserved ≤ more → more ≤ n + ahead → more ≤ end
        → Answered (reserve_call (sender_of link n reserved) more) 0 [] (sender_of link n more)
    unfolding with_reservation
    tells_one n reserved more within not_lower near before_end =
        done (reserve_call (sender_of link n reserved) more)
        (reserve_0 (sender_of link n reserved) more (good_sender n reserved within (omega arith) (omega arith)) (says_reservation (sender_of link n reserved) more not_lower near before_end))

    module _ (some : 1 ≤ length payload) (most : length payload ≤ 1520) where
      pub seals_one : (n reserved : ℕ) → n < reserved → reserved ≤ n + ahead → reserved ≤ end
          → bench_sending.Seals (sender_of link n reserved) (sealing_call n) (sender_of link (n + 1) reserved)
      unfolding after_frame
      seals_one n reserved below near before_end =
          done (seal_call (sender_of link n reserved) payload room_for)
          (seal_0 (sender_of link n reserved) payload room_for (good_sender n reserved (omega arith) near before_end) (omega (arith, some)) most (omega arith) below (omega (arith, length-replicate {A = ℕ} (length payload + 6) 0)))

      -- so many frames, each after a reservation for it alone
      pub sends_from : (n k : ℕ) → n + k ≤ end → Sends bench_sending (sender_of link n n) (sent_from n k) (sender_of link (n + k) (n + k))
      unfolding with_sealed frame_sealed
      sends_from n zero below = subst (λ (last : ℕ). Sends bench_sending (sender_of link n n) [] (sender_of link last last)) (sym (add-zero n)) no_more
      sends_from n (suc k) below =
          subst (λ (last : ℕ). Sends bench_sending (sender_of link n n) (sent_from n (suc k)) (sender_of link last last)) {x = suc n + k} (omega arith)
          (step (record { reserved = suc n; refusal = 0; answered = tells_one n n (suc n) (omega arith) (omega arith) (omega arith) (omega arith) })
          (seal (sealing_call n)
          (subst (λ (next : ℕ). bench_sending.Seals (sender_of link n (suc n)) (sealing_call n) (sender_of link next (suc n))) (add-one n) (seals_one n (suc n) (omega arith) (omega arith) (omega arith)))
          (sends_from (suc n) k (omega arith))))
