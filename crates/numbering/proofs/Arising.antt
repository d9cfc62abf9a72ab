-- Refusal 12 is given for exactly the table's causes, at every width, and for exactly the states that no run reaches, at each width from 1 to 256.
-- Past 256 a state that no run reaches passes the test. Assumes nothing.
use Prim.Native.Nat.{ℕ, zero, suc, ◌+◌, ◌-◌, ◌*◌, ◌/◌, ◌%◌, ◌^◌, ◌≤◌, ◌<◌, min, zero-le}
use native.Mathlib.Omega.{arith}
use native.Mathlib.Numerals.{add-one}
use native.Mathlib.Decide.{dec_le, dec_lt, ℕ_discrete}
use native.Mathlib.Nat.{mod-eq_of_lt, pow-suc, mod-lt, mul_assoc, le-min, min-le_left, min-zero, lt_of_lt_of_le}
use mathlib.Core.Path.{◌≡◌, refl, sym, ap, ap₂, subst, ◌∙◌}
use mathlib.Core.Logic.{◌↔◌, ◌⊎◌, inl, inr}
use mathlib.Core.Bool.{true, false, true≢false, false≢true}
use borrow.Author.Tests.{leb-false, eq-eqb}
use lib.Arith.{lt-one}
use lib.Bits.{bit_or}
use lib.Dec.{lit<}
use lib.Pow.{pow_pos, pow_mono, pow-lt, pow-add}
use Rattle.refusals.proofs.Tests.{by-test}
use Rattle.numbering.specs.declared.Numbering.{Numbering}
use Rattle.numbering.specs.Numbering.{end, marks_of, numbering_of, start, mark, is_accepted, accepted, InWindow, candidate, is_past_end, can_arise, CannotArise, next_past_end, mark_at_0, last_unmarked, mark_below_0, mark_outside, Arises, at_start, by_step}
use Rattle.numbering.proofs.Masks.{mark_cases, mark_zero, mark_beyond, mark_above, mark_of_new, mark_of_old, mark_set, mark_stays, new_within, late_within, moved_out}
use Rattle.numbering.proofs.State.{marks_of_lem, numbering_of_lem, CanArise, can_arise_says, says_can_arise, accepted_new, accepted_late, new_not_accepted, old_accepted}
use Rattle.numbering.proofs.Step.{Passed, step_passed}
use Rattle.numbering.proofs.Candidate.{in_window}
use Rattle.numbering.proofs.Arrival.{arrival_accepted}

-- ---- the table's causes

module _ (w : ℕ) (state : Numbering) where
  -- of a state that can arise no mark is set where the window or number 0 ends
  none_outside : can_arise w state ≡ true → (k : ℕ) → min w state.next ≤ k → mark (marks_of state) k ≡ 1 → ⊥
  none_outside can k far set = omega (arith, mark_beyond (marks_of state) k (lt_of_lt_of_le (can_arise_says w state can).within (pow_mono far)))

  no_cause : can_arise w state ≡ true → CannotArise w state → ⊥
  no_cause can (next_past_end past) = omega (arith, (can_arise_says w state can).not_past)
  no_cause can (mark_at_0 k at-0 set) = none_outside can k (omega arith) set
  no_cause can (last_unmarked some unset) = omega (arith, (can_arise_says w state can).last_marked some)
  no_cause can (mark_below_0 k low set) = none_outside can k (omega arith) set
  no_cause can (mark_outside k far set) = none_outside can k (omega arith) set

  cause : can_arise w state ≡ false → CannotArise w state
  cause cannot =
      go (dec_le state.next end) (dec_lt (marks_of state) (2 ^ min w state.next)) (ℕ_discrete state.next 0) (mark_cases (marks_of state) 0)
    where
      beyond : (k : ℕ) → min w state.next ≤ k → mark (marks_of state) k ≡ 1 → Dec (w ≤ k) → CannotArise w state
      beyond k far set (yes out) = mark_outside k out set
      beyond k far set (no within) = mark_below_0 k (omega arith) set

      go : Dec (state.next ≤ end) → Dec (marks_of state < 2 ^ min w state.next) → Dec (state.next ≡ 0)
          → (mark (marks_of state) 0 ≡ 0) ⊎ (mark (marks_of state) 0 ≡ 1) → CannotArise w state
      go (no past) _ _ _ = next_past_end (omega arith)
      go (yes below) (no out) _ _ =
          let (k, far, set) = mark_above (marks_of state) (min w state.next) (omega arith) in
          beyond k far set (dec_le w k)
      go (yes below) (yes within) (no some) (inl unset) = last_unmarked (omega arith) unset
      go (yes below) (yes within) (no some) (inr set) =
          absurd (false≢true (sym cannot ∙ says_can_arise w state (record { not_past = below; within = within; last_marked = λ _. set })))
      go (yes below) (yes within) (yes at-0) _ =
          absurd (false≢true (sym cannot ∙ says_can_arise w state (record { not_past = below; within = within; last_marked = λ some. absurd (omega arith) })))

  -- the test fails exactly where one of the causes holds
  pub cannot_arise_iff : (can_arise w state ≡ false) ↔ CannotArise w state
  cannot_arise_iff = (cause, (λ one. by-test (can_arise w state) (can_arise w state ≡ false) (λ can. absurd (no_cause can one)) (λ cannot. cannot)))

-- ---- what is accepted leaves a state that can arise

-- the state of v and these marks can arise
can_of : (w v marks : ℕ) → v ≤ end → marks < 2 ^ min w v → (0 < v → mark marks 0 ≡ 1) → can_arise w (numbering_of v marks) ≡ true
can_of w v marks below within last =
    says_can_arise w (numbering_of v marks)
    (record { not_past = below; within = rw (marks_of_lem v marks) within; last_marked = λ some. rw (marks_of_lem v marks) (last some) })

module _ (w : ℕ) where
  pub start_can_arise : can_arise w start ≡ true
  start_can_arise = can_of w 0 0 zero-le (pow_pos (min w 0)) (λ some. absurd (omega arith))

  module _ (wide : 0 < w) where
    pub accepted_can_arise : (state : Numbering) → can_arise w state ≡ true → (n : ℕ) → InWindow w state.next n → n < end → can_arise w (accepted w state n) ≡ true
    accepted_can_arise state can n inside before_end = go (dec_le state.next n)
      where
        was : CanArise w state
        was = can_arise_says w state can

        go : Dec (state.next ≤ n) → can_arise w (accepted w state n) ≡ true
        go (yes new) =
            rw (accepted_new w state n new)
            (can_of w (n + 1) (marks_of state * 2 ^ (n + 1 - state.next) % 2 ^ w + 1) (omega arith)
            (new_within w (marks_of state) state.next n wide new was.within)
            (λ some. mark_of_new w (marks_of state) (n + 1 - state.next) wide (omega arith)))
        go (no late) =
            rw (accepted_late w state n (omega arith))
            (can_of w state.next (bit_or (marks_of state) (2 ^ (state.next - 1 - n))) was.not_past
            (late_within w (marks_of state) state.next n (omega arith) inside.not_below was.within)
            (λ some. mark_stays (marks_of state) (state.next - 1 - n) 0 (was.last_marked some)))

    -- so each state that arises can arise
    pub arises_can : w ≤ 512 → {state : Numbering} → Arises w state → can_arise w state ≡ true
    unfolding is_past_end
    arises_can narrow at_start = start_can_arise
    arises_can narrow (by_step {state = state} N before call) =
        let passed = step_passed w state N call in
        ap (can_arise w) call.lent_is
        ∙ accepted_can_arise state passed.can (candidate w state.next N)
        (in_window w narrow state.next N passed.sent passed.started)
        (leb-false _ _ passed.ended)

-- ---- the other way round: each state that can arise does, from the start, by accepting its marked numbers in rising order

-- the marks below the highest, one place lower
half_within : (w v m : ℕ) → m < 2 ^ min w (suc v) → m / 2 < 2 ^ min w v
half_within w v m within =
    let wider : 2 ^ min w (suc v) ≤ 2 ^ suc (min w v) = pow_mono (omega arith) in
    omega (arith, pow-suc 2 (min w v))

-- odd marks are their upper half, moved by one, and the mark of V - 1
odd_made : (w v m : ℕ) → 0 < w → m < 2 ^ w → m % 2 ≡ 1 → numbering_of (v + 1) (m / 2 * 2 ^ 1 % 2 ^ w + 1) ≡ numbering_of (suc v) m
odd_made w v m wide fits odd = ap₂ numbering_of (add-one v) (ap (λ (x : ℕ). x + 1) (mod-eq_of_lt {n = m / 2 * 2} {m = 2 ^ w} (omega arith)) ∙ omega arith)

-- even marks are their half, moved by one more
even_made : (w v m g : ℕ) → (m % 2 ≡ 1 → ⊥) → numbering_of (v + (1 + g)) (m / 2 * 2 ^ (1 + g) % 2 ^ w + 1) ≡ numbering_of (suc v + g) (m * 2 ^ g % 2 ^ w + 1)
even_made w v m g even =
    let doubled : m / 2 * 2 ^ (1 + g) ≡ m * 2 ^ g =
    ap (λ (x : ℕ). m / 2 * x) (pow-add 2 1 g) ∙ sym (mul_assoc (m / 2) 2 (2 ^ g)) ∙ ap (λ (x : ℕ). x * 2 ^ g) (omega (arith, mod-lt m {m = 2} (lit< tt))) in
    ap₂ (λ (next moved : ℕ). numbering_of next (moved % 2 ^ w + 1)) (omega arith) doubled

-- a new number, a gap of g ahead, moves the marks by g
new_made : (w v m g : ℕ) → 0 < g → accepted w (numbering_of v m) (v + g - 1) ≡ numbering_of (v + g) (m * 2 ^ g % 2 ^ w + 1)
new_made w v m g some =
    accepted_new w (numbering_of v m) (v + g - 1) (omega arith)
    ∙ ap (λ (x : ℕ). numbering_of (v + g - 1 + 1) (x * 2 ^ (v + g - 1 + 1 - v) % 2 ^ w + 1)) (marks_of_lem v m)
    ∙ ap₂ (λ (next gap : ℕ). numbering_of next (m * 2 ^ gap % 2 ^ w + 1)) (omega arith) (omega arith)

module _ (w : ℕ) (wide : 0 < w) (narrow : w ≤ 256) where
  -- a state that a gap of at most w leaves arises, if the state before does
  gap_arises : (v m g : ℕ) → 0 < g → g ≤ w → v + g ≤ end → Arises w (numbering_of v m) → Arises w (numbering_of (v + g) (m * 2 ^ g % 2 ^ w + 1))
  gap_arises v m g some short below before =
      let n : ℕ = v + g - 1 in
      subst (Arises w) (new_made w v m g some)
      (by_step (n % 512) before
      (arrival_accepted w (omega arith) (numbering_of v m) n
      (record { not_below = omega arith; not_above = omega arith })
      (omega arith)
      (arises_can w wide (omega arith) before)
      (new_not_accepted (numbering_of v m) n (omega arith))))

  -- marks that need not have the mark of V - 1, and a gap of g above them
  Above : ℕ → Type 0
  Above v = (m g : ℕ) → m < 2 ^ min w v → 0 < g → g ≤ w → v + g ≤ end → Arises w (numbering_of (v + g) (m * 2 ^ g % 2 ^ w + 1))

  -- odd marks arise
  odd_arises : (v m : ℕ) → Above v → m < 2 ^ min w (suc v) → m % 2 ≡ 1 → suc v ≤ end → Arises w (numbering_of (suc v) m)
  unfolding Above
  odd_arises v m above within odd below =
      let fits : 2 ^ min w (suc v) ≤ 2 ^ w = pow_mono (min-le_left w (suc v)) in
      subst (Arises w) (odd_made w v m wide (lt_of_lt_of_le within fits) odd) (above (m / 2) 1 (half_within w v m within) (lit< tt) wide (omega arith))

  above_arises : (v : ℕ) → Above v
  unfolding Above
  above_arises zero m g within some short below =
      let none : m ≡ 0 = lt-one (subst (λ (k : ℕ). m < 2 ^ k) (min-zero w) within) in
      subst (λ (x : ℕ). Arises w (numbering_of (0 + g) (x * 2 ^ g % 2 ^ w + 1))) (sym none) (gap_arises 0 0 g some short below at_start)
  above_arises (suc v) m g within some short below = go (above_arises v) (ℕ_discrete (m % 2) 1) (dec_lt g w)
    where
      go : Above v → Dec (m % 2 ≡ 1) → Dec (g < w) → Arises w (numbering_of (suc v + g) (m * 2 ^ g % 2 ^ w + 1))
      go above (yes odd) _ = gap_arises (suc v) m g some short below (odd_arises v m above within odd (omega arith))
      go above (no even) (yes shorter) =
          subst (Arises w) (even_made w v m g even) (above (m / 2) (1 + g) (half_within w v m within) (omega arith) (omega arith) (omega arith))
      go above (no even) (no long) =
          subst (λ (x : ℕ). Arises w (numbering_of (suc v + g) (x + 1))) (moved_out w 1 g (omega arith) ∙ sym (moved_out w m g (omega arith)))
          (gap_arises (suc v) 1 g some short below (odd_arises v 1 above (pow-lt (le-min wide (omega arith))) refl (omega arith)))

  can_arises : (v m : ℕ) → v ≤ end → m < 2 ^ min w v → (0 < v → mark m 0 ≡ 1) → Arises w (numbering_of v m)
  can_arises zero m below within last =
      let none : m ≡ 0 = lt-one (subst (λ (k : ℕ). m < 2 ^ k) (min-zero w) within) in
      subst (λ (x : ℕ). Arises w (numbering_of 0 x)) (sym none) at_start
  can_arises (suc v) m below within last = odd_arises v m (above_arises v) within (sym (mark_zero m) ∙ last (omega arith)) below

  -- the states of refusal 12 are exactly those that no run reaches
  pub can_arise_iff : (state : Numbering) → (can_arise w state ≡ true) ↔ Arises w state
  can_arise_iff state = (
    (λ can.
        let says = can_arise_says w state can in
        subst (Arises w) (numbering_of_lem state) (can_arises state.next (marks_of state) says.not_past says.within says.last_marked)),
    arises_can w wide (omega arith),
  )

-- ---- past the width 256 a state with the mark of V - 1 alone passes the test, and no run reaches it: it takes a gap as long as the window, and no
-- number may be so far ahead

-- mark k of 1 is set at place 0 alone
one_mark : (k : ℕ) → mark 1 k ≡ 1 → k ≡ 0
one_mark zero set = refl
one_mark (suc k) set = absurd (omega (arith, mark_beyond 1 (suc k) (pow-lt {i = 0} {j = suc k} (omega arith))))

module _ (w : ℕ) (far : 256 < w) (narrow : w ≤ 512) where
  pub alone_can_arise : can_arise w (numbering_of w 1) ≡ true
  unfolding end
  alone_can_arise = can_of w w 1 (omega arith) (pow-lt {i = 0} {j = min w w} (omega arith)) (λ some. mark_zero 1)

  module _ (state : Numbering) (can : can_arise w state ≡ true) (n : ℕ) where
    not_by_new : state.next ≤ n → n + w < state.next + 512 → n + 1 ≡ w → marks_of state * 2 ^ (n + 1 - state.next) % 2 ^ w + 1 ≡ 1 → ⊥
    not_by_new new near top alone =
        let gap : ℕ = n + 1 - state.next in
        let moved : mark (marks_of state * 2 ^ gap % 2 ^ w + 1) gap ≡ mark (marks_of state) (gap - gap) =
        mark_of_old w (marks_of state) gap (omega arith) (omega arith) gap (omega arith) (omega arith) in
        let set : mark 1 gap ≡ 1 =
        ap (λ (m : ℕ). mark m gap) (sym alone) ∙ moved ∙ ap (mark (marks_of state)) (omega arith) ∙ (can_arise_says w state can).last_marked (omega arith) in
        omega (arith, one_mark gap set)

    not_by_late : n < state.next → is_accepted state n ≡ false → bit_or (marks_of state) (2 ^ (state.next - 1 - n)) ≡ 1 → ⊥
    not_by_late late anew alone =
        let place : ℕ = state.next - 1 - n in
        let lowest : place ≡ 0 = one_mark place (ap (λ (m : ℕ). mark m place) (sym alone) ∙ mark_set (marks_of state) place) in
        let marked : mark (marks_of state) place ≡ 1 = ap (mark (marks_of state)) lowest ∙ (can_arise_says w state can).last_marked (omega arith) in
        true≢false (sym (old_accepted state n late ∙ eq-eqb _ _ marked) ∙ anew)

  alone_cannot : {state : Numbering} → Arises w state → state.next ≡ w → marks_of state ≡ 1 → ⊥
  alone_cannot at_start top alone = omega arith
  alone_cannot (by_step {state = state} {after = after} N before call) top alone = go (dec_le state.next n)
    where
      passed : Passed w state N
      passed = step_passed w state N call

      n : ℕ
      n = candidate w state.next N

      go : Dec (state.next ≤ n) → ⊥
      go (yes new) =
          let left = call.lent_is ∙ accepted_new w state n new in
          not_by_new state passed.can n new (in_window w narrow state.next N passed.sent passed.started).not_above
          (sym (ap (λ (s : Numbering). s.next) left) ∙ top) (sym (ap marks_of left ∙ marks_of_lem _ _) ∙ alone)
      go (no old) =
          let late : n < state.next = omega arith in
          let left = call.lent_is ∙ accepted_late w state n late in
          not_by_late state passed.can n late passed.anew (sym (ap marks_of left ∙ marks_of_lem _ _) ∙ alone)

  pub alone_never_arises : Arises w (numbering_of w 1) → ⊥
  alone_never_arises arises = alone_cannot arises refl (marks_of_lem w 1)
