-- The candidate is the paper's, for every width up to 512: the one number that N and the window allow.
-- Assumes nothing.
use Prim.Native.Nat.{ℕ, ◌+◌, ◌-◌, ◌*◌, ◌/◌, ◌%◌, ◌≤◌, ◌<◌}
use native.Mathlib.Omega.{arith}
use native.Mathlib.Nat.{mod-lt}
use mathlib.Core.Path.{◌≡◌, refl, subst⁻¹}
use mathlib.Core.Bool.{true, false}
use borrow.Author.Tests.{leb-true, leb-false, le-leb, lt-leb}
use lib.Dec.{leb, lit<}
use Rattle.refusals.proofs.Tests.{by-test}
use Rattle.numbering.specs.Numbering.{end, InWindow, Candidate, first_from, lowest, candidate, is_below0, is_past_end, ByThePaper}

-- n is N modulo 512, and one of the 512 numbers from `low` on
record IsFirst (low N n : ℕ) : Type 0 where
  on_air : n % 512 ≡ N
  not_below : low ≤ n
  not_above : n < low + 512

is_first : (low N : ℕ) → N < 512 → IsFirst low N (first_from low N)
unfolding first_from
is_first low N sent =
    let turn : ℕ = low / 512 * 512 in
    by-test (leb low (turn + N)) (IsFirst low N (first_from low N))
    (λ here.
    let above : low ≤ turn + N = leb-true _ _ here in
    rw here (record { on_air = omega arith; not_below = above; not_above = omega arith }))
    (λ next.
    let below : turn + N < low = leb-false _ _ next in
    rw next (record { on_air = omega arith; not_below = omega arith; not_above = omega arith }))

module _ (w : ℕ) (narrow : w ≤ 512) (v N : ℕ) (sent : N < 512) where
  -- what is known of the candidate
  is_lowest : IsFirst (lowest w v) N (candidate w v N)
  unfolding candidate
  is_lowest = is_first (lowest w v) N sent

  -- where it is not below 0, the candidate is in the window
  pub in_window : is_below0 w v N ≡ false → InWindow w v (candidate w v N)
  unfolding is_below0
  in_window started = record {
    not_below = omega (arith, is_lowest);
    not_above = leb-false (v + 512) (candidate w v N + w) started;
  }

  is_candidate : is_below0 w v N ≡ false → Candidate w v N (candidate w v N)
  is_candidate started = record { on_air = is_lowest.on_air; in_window = in_window started }

  -- a number of the window that is N modulo 512 is the candidate
  one_candidate : {n : ℕ} → Candidate w v N n → n ≡ candidate w v N
  one_candidate c = omega (arith, is_lowest)

  -- a candidate of a later turn than the first is not below 0
  far_not_below : end ≤ candidate w v N → is_below0 w v N ≡ false
  unfolding is_below0 end
  far_not_below far = lt-leb (v + 512) (candidate w v N + w) (omega (arith, is_lowest))

  no_candidate_lem : is_below0 w v N ≡ true → (n : ℕ) → Candidate w v N n → ⊥
  unfolding is_below0
  no_candidate_lem below n c = omega (arith, one_candidate c, leb-true (v + 512) (candidate w v N + w) below)

-- document 01: the candidate is the one number with n mod 512 = N and V - w <= n <= V + 511 - w
pub by_the_paper : (w : ℕ) → w ≤ 512 → ByThePaper w
unfolding is_past_end
by_the_paper w narrow = record {
  candidate_is = λ v N n sent started. (
    one_candidate w narrow v N sent,
    (λ same. subst⁻¹ (Candidate w v N) same (is_candidate w narrow v N sent started)),
  );
  start_is = λ v N sent. (
    no_candidate_lem w narrow v N sent,
    (λ none. by-test (is_below0 w v N) (is_below0 w v N ≡ true) (λ below. below)
        (λ started. absurd (none (candidate w v N) (is_candidate w narrow v N sent started)))),
  );
  end_is = λ v N sent. (
    (λ past.
        let far : end ≤ candidate w v N = leb-true _ _ past in
        (candidate w v N, is_candidate w narrow v N sent (far_not_below w narrow v N sent far), far)),
    (λ found. le-leb end (candidate w v N) (omega (arith, found.2, one_candidate w narrow v N sent found.1))),
  );
}

-- ---- the candidate with 512 added, which is a number even where the candidate is below 0

module _ (w : ℕ) (narrow : w ≤ 512) (v N : ℕ) (sent : N < 512) where
  is_raised : IsFirst (v + (512 - w)) N (first_from (v + (512 - w)) N)
  is_raised = is_first (v + (512 - w)) N sent

  -- it is below 512 where the candidate is below 0
  pub raised_below : first_from (v + (512 - w)) N < 512 → is_below0 w v N ≡ true
  unfolding is_below0
  raised_below below = le-leb (v + 512) (candidate w v N + w) (omega (arith, is_lowest w narrow v N sent, is_raised))

  -- and else it is the candidate and 512
  module _ (started : 512 ≤ first_from (v + (512 - w)) N) where
    pub raised_not_below : is_below0 w v N ≡ false
    unfolding is_below0
    raised_not_below = lt-leb (v + 512) (candidate w v N + w) (omega (arith, is_lowest w narrow v N sent, is_raised))

    pub raised_candidate : first_from (v + (512 - w)) N - 512 ≡ candidate w v N
    raised_candidate = omega (arith, is_lowest w narrow v N sent, is_raised)

-- ---- a number of the window is worked out from its nine bits

module _ (w : ℕ) (narrow : w ≤ 512) (v n : ℕ) where
  sent : n % 512 < 512
  sent = mod-lt n (lit< tt)

  module _ (inside : InWindow w v n) where
    pub candidate_of_lem : candidate w v (n % 512) ≡ n
    candidate_of_lem = omega (arith, one_candidate w narrow v (n % 512) sent (record { on_air = refl; in_window = inside }))

    pub not_below_0 : is_below0 w v (n % 512) ≡ false
    unfolding is_below0
    not_below_0 = lt-leb (v + 512) (candidate w v (n % 512) + w) (omega (arith, candidate_of_lem))

    pub not_past_end : n < end → is_past_end w v (n % 512) ≡ false
    unfolding is_past_end
    not_past_end before_end = lt-leb end (candidate w v (n % 512)) (omega (arith, candidate_of_lem))

  -- and one outside it is never handed out as itself
  pub outside_misread : (InWindow w v n → ⊥) → is_below0 w v (n % 512) ≡ false → candidate w v (n % 512) ≡ n → ⊥
  outside_misread outside started same = outside (rw same at (in_window w narrow v (n % 512) sent started))
