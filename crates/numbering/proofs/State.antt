-- The state: its next number and its marks make it; `can_arise` in three facts; and the state that an accepted number leaves. For every width.
-- Assumes nothing.
use Prim.Native.Nat.{ℕ, ◌+◌, ◌-◌, ◌*◌, ◌%◌, ◌^◌, ◌≤◌, ◌<◌, min, max}
use native.Mathlib.Omega.{arith}
use native.Mathlib.Decide.{dec_le}
use native.Mathlib.Nat.{pos_of_ne-zero}
use mathlib.Core.Path.{◌≡◌, refl, sym}
use mathlib.Core.Bool.{Bool, true, false, ◌||◌, false≢true, and-eq-true_iff}
use borrow.Author.Tests.{le-leb, lt-leb, leb-true, lt-ltb, le-ltb, ltb-true, eq-eqb, eqb-true, eqb-false, ne_eqb}
use lib.Bits.{bit_or}
use lib.Dec.{eqb, leb, ltb}
use Rattle.numbering.specs.declared.Numbering.{Numbering}
use Rattle.numbering.specs.Numbering.{end, marks_of, numbering_of, mark, is_accepted, accepted, can_arise}

-- ---- the two parts of a state

pub marks_of_lem : (v marks : ℕ) → marks_of (numbering_of v marks) ≡ marks
unfolding marks_of
marks_of_lem v marks = refl

pub numbering_of_lem : (state : Numbering) → numbering_of state.next (marks_of state) ≡ state
unfolding marks_of
numbering_of_lem state = refl

-- ---- the states that can arise

-- V is at most 2^27; the marks are in the window; at V > 0 the mark of V - 1 is set
pub record CanArise (w : ℕ) (state : Numbering) : Type 0 where
  pub not_past : state.next ≤ end
  pub within : marks_of state < 2 ^ min w state.next
  pub last_marked : 0 < state.next → mark (marks_of state) 0 ≡ 1

either : (a b : Bool) → (a ≡ false → b ≡ true) → (a || b) ≡ true
either true b h = refl
either false b h = h refl

second : (a b : Bool) → (a || b) ≡ true → a ≡ false → b ≡ true
second true b h e = absurd (false≢true (sym e))
second false b h e = h

module _ (w : ℕ) (state : Numbering) where
  pub can_arise_says : can_arise w state ≡ true → CanArise w state
  unfolding can_arise
  can_arise_says h =
      let outer = (and-eq-true_iff (leb state.next end) _).0 h in
      let inner = (and-eq-true_iff (ltb (marks_of state) (2 ^ min w state.next)) _).0 outer.1 in
      record {
        not_past = leb-true _ _ outer.0;
        within = ltb-true _ _ inner.0;
        last_marked = λ above. eqb-true _ _ (second (eqb state.next 0) _ inner.1 (ne_eqb state.next 0 (λ e. omega arith)));
      }

  pub says_can_arise : CanArise w state → can_arise w state ≡ true
  unfolding can_arise
  says_can_arise can =
      simp (le-leb _ _ can.not_past, lt-ltb _ _ can.within)
      (either (eqb state.next 0) (eqb (mark (marks_of state) 0) 1) (λ some. eq-eqb _ _ (can.last_marked (pos_of_ne-zero (eqb-false _ _ some)))))

  -- ---- what a new number and what a late one leaves

  module _ (n : ℕ) where
    pub accepted_new : state.next ≤ n → accepted w state n ≡ numbering_of (n + 1) (marks_of state * 2 ^ (n + 1 - state.next) % 2 ^ w + 1)
    unfolding accepted
    accepted_new new = rw (le-leb _ _ new)

    pub accepted_late : n < state.next → accepted w state n ≡ numbering_of state.next (bit_or (marks_of state) (2 ^ (state.next - 1 - n)))
    unfolding accepted
    accepted_late late = rw (lt-leb _ _ late)

    -- V afterwards
    pub accepted_next : (accepted w state n).next ≡ max state.next (n + 1)
    accepted_next = go (dec_le state.next n)
      where
        go : Dec (state.next ≤ n) → (accepted w state n).next ≡ max state.next (n + 1)
        go (yes new) = rw (accepted_new new) (omega arith)
        go (no old) = rw (accepted_late (omega arith)) (omega arith)

-- ---- the numbers that were accepted

-- a number from V on was not
pub new_not_accepted : (state : Numbering) (n : ℕ) → state.next ≤ n → is_accepted state n ≡ false
unfolding is_accepted
new_not_accepted state n new = rw (le-ltb n state.next new)

-- and of one below V the mark decides
pub old_accepted : (state : Numbering) (n : ℕ) → n < state.next → is_accepted state n ≡ eqb (mark (marks_of state) (state.next - 1 - n)) 1
unfolding is_accepted
old_accepted state n old = rw (lt-ltb n state.next old)
