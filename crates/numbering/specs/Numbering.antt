-- The numbering rule of a receiver (document 01, "The link"): nine bits are on the air, and the turn is worked out from what was accepted.
-- V is the next number, and w the width of the window behind it, a number throughout. Assumes nothing.
use Rattle.std.specs.Prelude.{ℕ, ◌+◌, ◌-◌, ◌*◌, ◌/◌, ◌%◌, ◌^◌, ◌<◌, ◌≤◌, min, ◌≡◌, ◌↔◌, Bool, true, false, cond, not, ◌&&◌, ◌||◌, List, [], ◌∷◌, eqb, leb, ltb}
use Rattle.std.specs.Int.Bits.{bit_or}
use Rattle.refusals.specs.Refusal.{Row}
use Rattle.refusals.specs.Call.{Call, Answered}
use Rattle.numbering.specs.declared.Numbering.{Numbering}

-- the width of the link's window: how many numbers behind V may still come late
abbrev pub width : ℕ
width = 32

-- one more than the last number that a frame may have, which is 2^27 - 1 = 134,217,727; sealing answers 10 here
unfoldable pub end : ℕ
end = 2 ^ 27

-- ---- the state

-- the marks of a state, as one number: mark k, counted from its lowest bit, is of the number V - 1 - k
unfoldable pub marks_of : Numbering → ℕ
marks_of state = state.marks

-- the state with the next number v and these marks
abbrev pub numbering_of : ℕ → ℕ → Numbering
numbering_of v marks = record { next = v; marks = marks }

-- the state of a receiver that has accepted nothing
abbrev pub start : Numbering
start = numbering_of 0 0

-- mark k of the marks, from the lowest bit on
unfoldable pub mark : ℕ → ℕ → ℕ
mark marks k = marks / 2 ^ k % 2

-- a number was accepted already: it is below V, and its mark is set
unfoldable pub is_accepted : Numbering → ℕ → Bool
is_accepted state n = ltb n state.next && eqb (mark (marks_of state) (state.next - 1 - n)) 1

-- the state after accepting n: a new number moves V past it and the marks by the gap; a late one sets its mark
unfoldable pub accepted : ℕ → Numbering → ℕ → Numbering
accepted w state n =
    cond (leb state.next n)
    (numbering_of (n + 1) (marks_of state * 2 ^ (n + 1 - state.next) % 2 ^ w + 1))
    (numbering_of state.next (bit_or (marks_of state) (2 ^ (state.next - 1 - n))))

-- ---- the candidate

-- n is in the window at V: V - w <= n <= V + 511 - w
pub record InWindow (w v n : ℕ) : Type 0 where
  pub not_below : v ≤ n + w
  pub not_above : n + w < v + 512

-- the paper's rule: n is the candidate for N at V where n mod 512 = N and n is in the window
pub record Candidate (w v N n : ℕ) : Type 0 where
  pub on_air : n % 512 ≡ N
  pub in_window : InWindow w v n

-- the first number from `low` on that is N modulo 512: N in the turn of `low` or, where that is below `low`, in the next turn
unfoldable pub first_from : ℕ → ℕ → ℕ
first_from low N =
    let turn = low / 512 * 512 in
    cond (leb low (turn + N)) (turn + N) (turn + 512 + N)

-- the lowest number of the window: V - w, or 0 where that is below 0
abbrev pub lowest : ℕ → ℕ → ℕ
lowest w v = v - w

-- the candidate, where it is not below 0: the first number of the window that is N modulo 512
unfoldable pub candidate : ℕ → ℕ → ℕ → ℕ
candidate w v N = first_from (lowest w v) N

-- the candidate is below 0: the first such number from 0 on is past the window
unfoldable pub is_below0 : ℕ → ℕ → ℕ → Bool
is_below0 w v N = leb (v + 512) (candidate w v N + w)

-- the candidate is 2^27 or more
unfoldable pub is_past_end : ℕ → ℕ → ℕ → Bool
is_past_end w v N = leb end (candidate w v N)

-- what these three have to do with the paper's rule, for every V and every N of nine bits
pub record ByThePaper (w : ℕ) : Type 0 where
  -- where it is not below 0, the candidate is the one number that the rule allows
  pub candidate_is : (v N n : ℕ) → N < 512 → is_below0 w v N ≡ false → Candidate w v N n ↔ (n ≡ candidate w v N)
  -- it is below 0 exactly where the rule allows no number
  pub start_is : (v N : ℕ) → N < 512 → (is_below0 w v N ≡ true) ↔ ((n : ℕ) → Candidate w v N n → ⊥)
  -- it is 2^27 or more exactly where the rule allows such a number
  pub end_is : (v N : ℕ) → N < 512 → (is_past_end w v N ≡ true) ↔ ((n : ℕ) × Candidate w v N n × (end ≤ n))

-- ---- refusal 12

-- a state that can arise: V is at most 2^27; no mark is out of the window or below number 0; at V > 0 the mark of V - 1 is set
unfoldable pub can_arise : ℕ → Numbering → Bool
can_arise w state =
    leb state.next end
    && (ltb (marks_of state) (2 ^ min w state.next)
    && (eqb state.next 0 || eqb (mark (marks_of state) 0) 1))

-- the table's causes of refusal 12, one by one: `can_arise` fails exactly where one of them holds
pub data CannotArise (w : ℕ) (state : Numbering) : Type 0 where
  -- next above 2^27
  next_past_end : end < state.next → CannotArise w state
  -- V = 0 with a mark
  mark_at_0 : (k : ℕ) → state.next ≡ 0 → mark (marks_of state) k ≡ 1 → CannotArise w state
  -- V > 0 without the mark of V - 1, which is mark 0
  last_unmarked : 0 < state.next → mark (marks_of state) 0 ≡ 0 → CannotArise w state
  -- a mark below number 0: mark k is of the number V - 1 - k
  mark_below_0 : (k : ℕ) → state.next ≤ k → mark (marks_of state) k ≡ 1 → CannotArise w state
  -- a mark outside the window; not in the table: a number of 32 bits has no such mark
  mark_outside : (k : ℕ) → w ≤ k → mark (marks_of state) k ≡ 1 → CannotArise w state

-- ---- one step

-- the refusals of a candidate, in their order: it is below 0, it is 2^27 or more, it was accepted already
unfoldable pub candidate_order : ℕ → Numbering → ℕ → List Row
candidate_order w state N =
    record { number = 9; holds = is_below0 w state.next N } ∷
    record { number = 10; holds = is_past_end w state.next N } ∷
    record { number = 11; holds = is_accepted state (candidate w state.next N) } ∷ []

-- the refusals of a step, in their order: the state and N, then those of the candidate
unfoldable pub number_order : ℕ → Numbering → ℕ → List Row
number_order w state N =
    record { number = 12; holds = not (can_arise w state) } ∷
    record { number = 2; holds = ltb 511 N } ∷
    candidate_order w state N

-- numbering::number, of a frame with N on the air: it hands out the candidate, which is given with 11 too
abbrev pub number_call : ℕ → Numbering → ℕ → Call Numbering
number_call w state N = record {
  order = number_order w state N;
  numbers = candidate w state.next N ∷ [];
  candidate_with = λ (refusal : ℕ). eqb refusal 11;
  before = state;
  after = accepted w state (candidate w state.next N);
}

-- the states that arise: the start, and what an accepted frame leaves of one that arises
pub data Arises (w : ℕ) : Numbering → Type 0 where
  at_start : Arises w start
  by_step : {state after : Numbering} {numbers : List ℕ} (N : ℕ) → Arises w state → Answered (number_call w state N) 0 numbers after → Arises w after
