-- The sender's half of promise 3, of every sending end that keeps three laws, from each of its good states on: each sealed frame is the frame of its number with its payload on the
-- link, and the numbers only rise, whatever calls were refused and whatever other steps were taken in between. Assumes nothing.
use Prim.Native.Nat.{ℕ, ◌+◌, ◌≤◌, ◌<◌}
use native.Mathlib.Omega.{arith}
use mathlib.Core.Path.{◌≡◌, refl, sym, ap, subst, ◌∙◌}
use mathlib.Core.List.{List, ◌∷◌}
use borrow.Author.Tests.{eqb-true, eqb-false}
use lib.Dec.{eqb}
use Rattle.refusals.proofs.Tests.{by-test}
use Rattle.link.specs.declared.Link.{Link}
use Rattle.promises.specs.Ends.{SealCall, Sending, SentFrame, frame_sealed, with_sealed, Sends, no_more, seal, step, IsFrame}
use Rattle.promises.specs.Promise3.{Rising, SendersHalf}
use Rattle.promises.proofs.Frames.{Each, each_one, all_above}

-- what a seal that is not refused made of a sender whose next number is at least `low`
pub record Sealed (frame_of : Link → ℕ → List ℕ → List ℕ) (link link-later : Link) (next next-later : ℕ) (call : SealCall) : Type 0 where
  pub is_frame : IsFrame frame_of link (frame_sealed call)
  pub not_below : next ≤ call.number
  pub moved : call.number < next-later
  pub link_is : link-later ≡ link

-- a sender's other step lowers no number and keeps its link
pub record Stepped (link link-later : Link) (next next-later : ℕ) : Type 0 where
  pub not_lower : next ≤ next-later
  pub link_is : link-later ≡ link

-- the laws of a sending end: its next number; which states are good for the rest; and what a seal, a refused one and another step do
pub record SendingLaws (frame_of : Link → ℕ → List ℕ → List ℕ) (sending : Sending) : Type 1 where
  pub next : sending.State → ℕ
  pub IsGood : sending.State → Type 0
  pub sealed : {state later : sending.State} (call : SealCall) → IsGood state → sending.Seals state call later → call.refusal ≡ 0
      → Sealed frame_of (sending.link state) (sending.link later) (next state) (next later) call × IsGood later
  pub refused : {state later : sending.State} (call : SealCall) → sending.Seals state call later → (call.refusal ≡ 0 → ⊥) → later ≡ state
  pub stepped : {state later : sending.State} → IsGood state → sending.Steps state later
      → Stepped (sending.link state) (sending.link later) (next state) (next later) × IsGood later

-- the frames with one more, or without it where it was refused
with_sealed_lem : (P : List SentFrame → Type 0) (call : SealCall) (rest : List SentFrame) → (call.refusal ≡ 0 → P (frame_sealed call ∷ rest)) → ((call.refusal ≡ 0 → ⊥) → P rest)
    → P (with_sealed call rest)
unfolding with_sealed
with_sealed_lem P call rest one none =
    by-test (eqb call.refusal 0) (P (with_sealed call rest))
    (λ zero. rw zero (one (eqb-true call.refusal 0 zero)))
    (λ other. rw other (none (eqb-false call.refusal 0 other)))

-- a frame is of the link, and its number is not below another
record OfLink (frame_of : Link → ℕ → List ℕ → List ℕ) (link : Link) (low : ℕ) (frame : SentFrame) : Type 0 where
  is_frame : IsFrame frame_of link frame
  not_below : low ≤ frame.number

module _ (frame_of : Link → ℕ → List ℕ → List ℕ) (sending : Sending) (laws : SendingLaws frame_of sending) where
  -- a refused seal leaves a good state
  kept_good : {state later : sending.State} (call : SealCall) → laws.IsGood state → sending.Seals state call later → (call.refusal ≡ 0 → ⊥) → laws.IsGood later
  kept_good call good seals some = subst laws.IsGood (sym (laws.refused call seals some)) good

  each_of_link : (link : Link) (low : ℕ) {state last : sending.State} {frames : List SentFrame} → laws.IsGood state → sending.link state ≡ link → low ≤ laws.next state
      → Sends sending state frames last → Each (OfLink frame_of link low) frames
  unfolding frame_sealed
  each_of_link link low good same least no_more = tt
  each_of_link link low {state} good same least (seal {later = later} {rest = rest} call seals sends) =
      with_sealed_lem (Each (OfLink frame_of link low)) call rest
      (λ zero.
      let both = laws.sealed call good seals zero in
      let made = both.0 in (
        record {
          is_frame = subst (λ (l : Link). IsFrame frame_of l (frame_sealed call)) same made.is_frame;
          not_below = omega (arith, made.not_below, least);
        },
        each_of_link link low both.1 (made.link_is ∙ same) (omega (arith, made.not_below, made.moved, least)) sends,
      ))
      (λ some.
      let kept = laws.refused call seals some in
      each_of_link link low (kept_good call good seals some) (ap sending.link kept ∙ same) (omega (arith, ap laws.next kept, least)) sends)
  each_of_link link low good same least (step steps sends) =
      let both = laws.stepped good steps in
      let taken = both.0 in
      each_of_link link low both.1 (taken.link_is ∙ same) (omega (arith, taken.not_lower, least)) sends

  all_rising : {state last : sending.State} {frames : List SentFrame} → laws.IsGood state → Sends sending state frames last → Rising frames
  unfolding frame_sealed
  all_rising good no_more = tt
  all_rising good (seal {later = later} {rest = rest} call seals sends) =
      with_sealed_lem Rising call rest
      (λ zero.
      let both = laws.sealed call good seals zero in
      let made = both.0 in
      (all_above call.number rest (λ frame of. omega (arith, of.not_below)) (each_of_link (sending.link later) (call.number + 1) both.1 refl (omega (arith, made.moved)) sends), all_rising both.1 sends))
      (λ some. all_rising (kept_good call good seals some) sends)
  all_rising good (step steps sends) = all_rising (laws.stepped good steps).1 sends

  -- the state at the end is good
  pub good_last : {state last : sending.State} {frames : List SentFrame} → laws.IsGood state → Sends sending state frames last → laws.IsGood last
  good_last good no_more = good
  good_last good (seal {later = later} {last = last} call seals sends) =
      by-test (eqb call.refusal 0) (laws.IsGood last)
      (λ zero. good_last (laws.sealed call good seals (eqb-true call.refusal 0 zero)).1 sends)
      (λ other. good_last (kept_good call good seals (eqb-false call.refusal 0 other)) sends)
  good_last good (step steps sends) = good_last (laws.stepped good steps).1 sends

  pub senders_half : {state last : sending.State} {frames : List SentFrame} → laws.IsGood state → Sends sending state frames last
      → SendersHalf frame_of (sending.link state) frames
  senders_half {state} good sends = record {
    each_is = λ frame one. (each_one (OfLink frame_of (sending.link state) 0) (each_of_link (sending.link state) 0 good refl (omega arith) sends) one).is_frame;
    rising = all_rising good sends;
  }
