-- What is marked after a number was accepted: what was marked before, and that number, cut to the window. For every width from 1 on.
-- Assumes nothing.
use Prim.Native.Nat.{ℕ, ◌+◌, ◌-◌, ◌*◌, ◌%◌, ◌^◌, ◌≤◌, ◌<◌, min}
use native.Mathlib.Omega.{arith}
use native.Mathlib.Decide.{dec_le, dec_lt, ℕ_discrete}
use native.Mathlib.Nat.{lt_of_lt_of_le}
use mathlib.Core.Path.{◌≡◌, refl, sym, ap, subst⁻¹, ◌∙◌}
use mathlib.Core.Bool.{true, ◌&&◌, ◌||◌, and-true, and-false}
use borrow.Author.Tests.{eq-eqb, ne_eqb, le-leb, lt-leb}
use lib.Bits.{bit_or}
use lib.Dec.{eqb, leb}
use lib.Pow.{pow_mono}
use Rattle.numbering.specs.declared.Numbering.{Numbering}
use Rattle.numbering.specs.Numbering.{InWindow, marks_of, numbering_of, mark, is_accepted, accepted, can_arise}
use Rattle.numbering.proofs.Masks.{mark_beyond, mark_of_new, mark_of_gap, mark_of_old, mark_set, mark_kept, new_within}
use Rattle.numbering.proofs.State.{marks_of_lem, CanArise, can_arise_says, accepted_new, accepted_late, accepted_next, new_not_accepted, old_accepted}

-- a number below V was accepted as its mark says
accepted_by : (v marks n : ℕ) → n < v → is_accepted (numbering_of v marks) n ≡ eqb (mark marks (v - 1 - n)) 1
accepted_by v marks n old = old_accepted (numbering_of v marks) n old ∙ ap (λ (m : ℕ). eqb (mark m (v - 1 - n)) 1) (marks_of_lem v marks)

module _ (w : ℕ) (wide : 0 < w) (state : Numbering) (can : can_arise w state ≡ true) (n : ℕ) (inside : InWindow w state.next n) where
  was : CanArise w state
  was = can_arise_says w state can

  -- what is claimed of m in the state afterwards
  abbrev Claim : Numbering → ℕ → Type 0
  Claim after m = is_accepted after m ≡ ((eqb m n || is_accepted state m) && leb after.next (m + w))

  -- from V on no number is marked
  from_next : (v marks m : ℕ) → state.next ≤ v → n < v → v ≤ m → Claim (numbering_of v marks) m
  from_next v marks m rises above new =
      simp (new_not_accepted (numbering_of v marks) m new, ne_eqb m n (λ same. omega arith), new_not_accepted state m (omega arith))

  -- n is,
  itself : (v marks : ℕ) → n < v → v ≤ n + w → mark marks (v - 1 - n) ≡ 1 → Claim (numbering_of v marks) n
  itself v marks above low set = simp (accepted_by v marks n above, eq-eqb _ _ set, eq-eqb n n refl, le-leb _ _ low)

  -- another number of the window as it was,
  kept : (v marks m : ℕ) → (m ≡ n → ⊥) → v ≤ m + w → is_accepted (numbering_of v marks) m ≡ is_accepted state m → Claim (numbering_of v marks) m
  kept v marks m apart low same = simp (ne_eqb m n apart, le-leb _ _ low, and-true) same

  -- and one below the window is not
  cut : (v marks m : ℕ) → m < v → m + w < v → mark marks (v - 1 - m) ≡ 0 → Claim (numbering_of v marks) m
  cut v marks m old below unset = simp (accepted_by v marks m old, ap (λ (b : ℕ). eqb b 1) unset, lt-leb _ _ below, and-false)

  -- marks in a window of w have none from place w on
  beyond : (v marks k : ℕ) → marks < 2 ^ min w v → w ≤ k → mark marks k ≡ 0
  beyond v marks k within far = mark_beyond marks k (lt_of_lt_of_le within (pow_mono {i = min w v} {j = k} (omega arith)))

  -- after a new number
  module _ (new : state.next ≤ n) where
    abbrev gap : ℕ
    gap = n + 1 - state.next

    abbrev marks : ℕ
    marks = marks_of state * 2 ^ gap % 2 ^ w + 1

    after_new : (m : ℕ) → Claim (numbering_of (n + 1) marks) m
    after_new m = go (ℕ_discrete m n) (dec_lt n m) (dec_lt n (m + w)) (dec_lt m state.next)
      where
        go : Dec (m ≡ n) → Dec (n < m) → Dec (n < m + w) → Dec (m < state.next) → Claim (numbering_of (n + 1) marks) m
        go (yes same) _ _ _ =
            subst⁻¹ (Claim (numbering_of (n + 1) marks)) same
            (itself (n + 1) marks (omega arith) (omega arith) (ap (mark marks) (omega arith) ∙ mark_of_new w (marks_of state) gap wide (omega arith)))
        go (no apart) (yes above) _ _ = from_next (n + 1) marks m (omega arith) (omega arith) (omega arith)
        go (no apart) (no below) (no out) _ =
            cut (n + 1) marks m (omega arith) (omega arith)
            (beyond (n + 1) marks (n + 1 - 1 - m) (new_within w (marks_of state) state.next n wide new was.within) (omega arith))
        go (no apart) (no below) (yes in_window) (yes old) =
            kept (n + 1) marks m apart (omega arith)
            (accepted_by (n + 1) marks m (omega arith)
            ∙ ap (λ (b : ℕ). eqb b 1)
            (ap (mark marks) (omega arith)
            ∙ mark_of_old w (marks_of state) gap wide (omega arith) (n - m) (omega arith) (omega arith)
            ∙ ap (mark (marks_of state)) (omega arith))
            ∙ sym (old_accepted state m old))
        go (no apart) (no below) (yes in_window) (no skipped) =
            kept (n + 1) marks m apart (omega arith)
            (accepted_by (n + 1) marks m (omega arith)
            ∙ ap (λ (b : ℕ). eqb b 1)
            (ap (mark marks) (omega arith)
            ∙ mark_of_gap w (marks_of state) gap wide (omega arith) (n - m) (omega arith) (omega arith) (omega arith))
            ∙ sym (new_not_accepted state m (omega arith)))

  -- after a late one
  module _ (late : n < state.next) where
    abbrev place : ℕ
    place = state.next - 1 - n

    abbrev late_marks : ℕ
    late_marks = bit_or (marks_of state) (2 ^ place)

    after_late : (m : ℕ) → Claim (numbering_of state.next late_marks) m
    after_late m = go (ℕ_discrete m n) (dec_lt m state.next) (dec_le state.next (m + w))
      where
        unchanged : (m ≡ n → ⊥) → m < state.next → mark late_marks (state.next - 1 - m) ≡ mark (marks_of state) (state.next - 1 - m)
        unchanged apart old = mark_kept (marks_of state) place (state.next - 1 - m) (λ same. apart (omega arith))

        go : Dec (m ≡ n) → Dec (m < state.next) → Dec (state.next ≤ m + w) → Claim (numbering_of state.next late_marks) m
        go (yes same) _ _ =
            subst⁻¹ (Claim (numbering_of state.next late_marks)) same
            (itself state.next late_marks late inside.not_below (mark_set (marks_of state) place))
        go (no apart) (no above) _ = from_next state.next late_marks m (omega arith) late (omega arith)
        go (no apart) (yes old) (yes in_window) =
            kept state.next late_marks m apart in_window
            (accepted_by state.next late_marks m old ∙ ap (λ (b : ℕ). eqb b 1) (unchanged apart old) ∙ sym (old_accepted state m old))
        go (no apart) (yes old) (no out) =
            cut state.next late_marks m old (omega arith)
            (unchanged apart old ∙ beyond state.next (marks_of state) (state.next - 1 - m) was.within (omega arith))

  -- n is in the window as it was
  pub accepted_in_window : InWindow w (accepted w state n).next n
  accepted_in_window = record {
    not_below = omega (arith, accepted_next w state n);
    not_above = omega (arith, accepted_next w state n);
  }

  -- the marks afterwards are those before and that of n, cut to the window
  pub accepted_marks : (m : ℕ) → is_accepted (accepted w state n) m ≡ ((eqb m n || is_accepted state m) && leb (accepted w state n).next (m + w))
  accepted_marks m = go (dec_le state.next n)
    where
      go : Dec (state.next ≤ n) → Claim (accepted w state n) m
      go (yes new) = rw (accepted_new w state n new) (after_new new m)
      go (no late) = rw (accepted_late w state n (omega arith)) (after_late (omega arith) m)

  -- so n is marked from then on
  pub accepted_again : is_accepted (accepted w state n) n ≡ true
  accepted_again = accepted_marks n ∙ simp (eq-eqb n n refl, le-leb _ _ accepted_in_window.not_below)
