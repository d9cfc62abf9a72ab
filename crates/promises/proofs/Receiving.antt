-- The receiver's half of promise 3, of every receiving end that keeps five laws: of frames of its link, whatever sender made them, lost, repeated or
-- reordered, with refused presentations in between, for every width from 1 to 512. Assumes nothing.
use Prim.Native.Nat.{ℕ, ◌≤◌, ◌<◌}
use mathlib.Core.Path.{◌≡◌, sym, subst, ◌∙◌}
use mathlib.Core.Bool.{true, false, true≢false}
use mathlib.Core.List.{List, [], ◌∷◌}
use borrow.Author.Tests.{eqb-true, eqb-false}
use lib.Dec.{eqb}
use lib.ListN.{length}
use Rattle.refusals.proofs.Tests.{by-test}
use Rattle.octets.specs.Octets.{AreOctets}
use Rattle.numbering.specs.declared.Numbering.{Numbering}
use Rattle.numbering.specs.Numbering.{end, InWindow, is_accepted, can_arise, accepted}
use Rattle.numbering.specs.History.{is_among}
use Rattle.numbering.proofs.Means.{Means, again_means, accepted_means}
use Rattle.link.specs.declared.Link.{Link}
use Rattle.promises.specs.Ends.{OpenCall, Receiving, SentFrame, IsOneOf, IsFrame, Events, no_more, arrival, refused, arrived_after, AllInWindow, with_accepted, Since, nothing, called, restored}
use Rattle.promises.specs.Promise3.{HandedOut, RefusedAsRepeat, AnsweredAs, AsPromised, KeptBy}

-- the arrival of a frame of its link, in the window and with room, at a state that can arise
pub record Arrives (w : ℕ) (frame_of : Link → ℕ → List ℕ → List ℕ) (link : Link) (numbering : Numbering) (frame : SentFrame) (call : OpenCall) : Type 0 where
  pub can_arise_lem : can_arise w numbering ≡ true
  pub is_frame : IsFrame frame_of link frame
  pub in_window : InWindow w numbering.next frame.number
  pub presented : call.presented ≡ frame.octets
  pub room : length frame.payload ≤ length call.before

-- a frame that is handed out is accepted, and the end goes on
pub record Accepted (w : ℕ) (receiving : Receiving) (numbering : receiving.State → Numbering) (IsGood : receiving.State → Type 0) (frame : SentFrame) (call : OpenCall) (state later : receiving.State) : Type 0 where
  pub handed_out : HandedOut frame call
  pub numbering_is : numbering later ≡ accepted w (numbering state) frame.number
  pub link_is : receiving.link later ≡ receiving.link state
  pub is_good : IsGood later

-- any octets that are opened, the sender's or not: their number is in the window, and it is accepted, and the end goes on
pub record Taken (w : ℕ) (receiving : Receiving) (numbering : receiving.State → Numbering) (IsGood : receiving.State → Type 0) (call : OpenCall) (state later : receiving.State) : Type 0 where
  pub in_window : InWindow w (numbering state).next call.number
  pub before_end : call.number < end
  pub numbering_is : numbering later ≡ accepted w (numbering state) call.number
  pub link_is : receiving.link later ≡ receiving.link state
  pub is_good : IsGood later

-- the laws of a receiving end: the numbering of a state; which states are good for the rest; what a new frame, a repeat, a refusal and any
-- other octets do; and that what is stored comes back
pub record ReceivingLaws (w : ℕ) (frame_of : Link → ℕ → List ℕ → List ℕ) (receiving : Receiving) : Type 1 where
  pub numbering : receiving.State → Numbering
  pub next_is : (state : receiving.State) → receiving.next state ≡ (numbering state).next
  pub IsGood : receiving.State → Type 0
  pub new : {state later : receiving.State} (frame : SentFrame) (call : OpenCall) → IsGood state → Arrives w frame_of (receiving.link state) (numbering state) frame call
      → receiving.Opens state call later → is_accepted (numbering state) frame.number ≡ false → Accepted w receiving numbering IsGood frame call state later
  pub repeat : {state later : receiving.State} (frame : SentFrame) (call : OpenCall) → IsGood state → Arrives w frame_of (receiving.link state) (numbering state) frame call
      → receiving.Opens state call later → is_accepted (numbering state) frame.number ≡ true → RefusedAsRepeat frame call × (later ≡ state)
  pub refused : {state later : receiving.State} (call : OpenCall) → receiving.Opens state call later → (call.refusal ≡ 0 → ⊥) → (later ≡ state) × (call.after ≡ call.before)
  pub opened : {state later : receiving.State} (call : OpenCall) → IsGood state → AreOctets call.presented → receiving.Opens state call later → call.refusal ≡ 0
      → Taken w receiving numbering IsGood call state later
  pub restored : {state later : receiving.State} → IsGood state → can_arise w (numbering state) ≡ true → receiving.Restores state later → later ≡ state

module _ (w : ℕ) (wide : 0 < w) (frame_of : Link → ℕ → List ℕ → List ℕ) (receiving : Receiving) (laws : ReceivingLaws w frame_of receiving) (link : Link) where
  -- an end stands on this link, and its numbering means these arrivals
  pub record Stands (state : receiving.State) (earlier : List ℕ) : Type 0 where
    pub link_is : receiving.link state ≡ link
    pub is_good : laws.IsGood state
    pub means : Means w (laws.numbering state) earlier

  -- what an arrival is answered, and where the end then stands
  record Step (earlier : List ℕ) (frame : SentFrame) (call : OpenCall) (state later : receiving.State) : Type 0 where
    answered : AnsweredAs receiving earlier frame call state later
    stands : Stands later (frame.number ∷ earlier)

  -- one arrival
  module _ {state later : receiving.State} {earlier : List ℕ} (at : Stands state earlier) (frame : SentFrame) (call : OpenCall) (is : IsFrame frame_of link frame)
      (inside : InWindow w (receiving.next state) frame.number) (presented : call.presented ≡ frame.octets) (room : length frame.payload ≤ length call.before)
      (opens : receiving.Opens state call later) where
    in_window : InWindow w (laws.numbering state).next frame.number
    in_window = subst (λ (v : ℕ). InWindow w v frame.number) (laws.next_is state) inside

    arrives : Arrives w frame_of (receiving.link state) (laws.numbering state) frame call
    arrives = record {
      can_arise_lem = at.means.can_arise_lem;
      is_frame = subst (λ (l : Link). IsFrame frame_of l frame) (sym at.link_is) is;
      in_window = in_window;
      presented = presented;
      room = room;
    }

    among_is : is_accepted (laws.numbering state) frame.number ≡ is_among frame.number earlier
    among_is = at.means.marks_are frame.number in_window.not_below

    step : Step earlier frame call state later
    step =
        by-test (is_accepted (laws.numbering state) frame.number) (Step earlier frame call state later)
        (λ marked.
        let there : is_among frame.number earlier ≡ true = sym among_is ∙ marked in
        let same = laws.repeat frame call at.is_good arrives opens marked in
        let stands : Stands later (frame.number ∷ earlier) =
        subst (λ (s : receiving.State). Stands s (frame.number ∷ earlier)) (sym same.1)
        (record { link_is = at.link_is; is_good = at.is_good; means = again_means w at.means frame.number there }) in
        record {
          answered = record {
            first_time = λ never. absurd (true≢false (sym there ∙ never));
            again = λ _. same;
            next_is = laws.next_is later ∙ stands.means.next_is;
          };
          stands = stands;
        })
        (λ unmarked.
        let never : is_among frame.number earlier ≡ false = sym among_is ∙ unmarked in
        let taken = laws.new frame call at.is_good arrives opens unmarked in
        let means : Means w (laws.numbering later) (frame.number ∷ earlier) =
        subst (λ (n : Numbering). Means w n (frame.number ∷ earlier)) (sym taken.numbering_is) (accepted_means w at.means frame.number wide in_window is.before_end) in
        record {
          answered = record {
            first_time = λ _. taken.handed_out;
            again = λ there. absurd (true≢false (sym there ∙ never));
            next_is = laws.next_is later ∙ means.next_is;
          };
          stands = record { link_is = taken.link_is ∙ at.link_is; is_good = taken.is_good; means = means };
        })

  -- all events, from an end that stands at what arrived earlier: what they are answered, and where the end then stands
  pub receivers_half : {frames : List SentFrame} → ((frame : SentFrame) → IsOneOf frame frames → IsFrame frame_of link frame)
      → {state last : receiving.State} {earlier : List ℕ} → Stands state earlier
      → (events : Events receiving frames state last) → AllInWindow w events
      → AsPromised earlier events × Stands last (arrived_after earlier events)
  receivers_half each at no_more inside = (tt, at)
  receivers_half each at (arrival frame call one presented room opens rest) inside =
      let first = step at frame call (each frame one) inside.0 presented room opens in
      let others = receivers_half each first.stands rest inside.1 in
      ((first.answered, others.0), others.1)
  receivers_half each {earlier = earlier} at (refused call some opens rest) inside =
      let kept = laws.refused call opens some in
      let others = receivers_half each (subst (λ (s : receiving.State). Stands s earlier) (sym kept.0) at) rest inside in
      ((kept.0, kept.1, others.0), others.1)

  -- and what became of an end that stood at nothing stands at what counts as arrived
  pub since_stands : {first state : receiving.State} {earlier : List ℕ} → Stands first [] → Since receiving first state earlier → Stands state earlier
  since_stands at nothing = at
  since_stands at (called {state = state} {later = later} {earlier = earlier} call before each opens) =
      let stood = since_stands at before in
      by-test (eqb call.refusal 0) (Stands later (with_accepted call earlier))
      (λ zero.
      let taken = laws.opened call stood.is_good each opens (eqb-true call.refusal 0 zero) in
      rw zero
      (record {
        link_is = taken.link_is ∙ stood.link_is;
        is_good = taken.is_good;
        means =
            subst (λ (n : Numbering). Means w n (call.number ∷ earlier)) (sym taken.numbering_is)
            (accepted_means w stood.means call.number wide taken.in_window taken.before_end);
      }))
      (λ other. rw other (subst (λ (s : receiving.State). Stands s earlier) (sym (laws.refused call opens (eqb-false call.refusal 0 other)).0) stood))
  since_stands at (restored {earlier = earlier} before restores) =
      let stood = since_stands at before in
      subst (λ (s : receiving.State). Stands s earlier) (sym (laws.restored stood.is_good stood.means.can_arise_lem restores)) stood

  -- what the events keep
  pub kept_by : {frames : List SentFrame} → ((frame : SentFrame) → IsOneOf frame frames → IsFrame frame_of link frame)
      → {state last : receiving.State} {earlier : List ℕ} → Stands state earlier
      → (events : Events receiving frames state last) → AllInWindow w events
      → KeptBy earlier events
  kept_by each {last = last} at events inside =
      let both = receivers_half each at events inside in
      record { answered = both.0; next_is = laws.next_is last ∙ both.1.means.next_is }
