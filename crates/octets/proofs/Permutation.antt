-- Two tables that undo each other, by one computed test over each, are permutations.
-- Assumes nothing.
use Prim.Native.Nat.{ℕ, ◌<◌}
use mathlib.Core.Path.{◌≡◌, ◌∙◌, sym, ap, subst}
use mathlib.Core.Bool.{Bool, ◌&&◌}
use mathlib.Core.List.{List}
use lib.Dec.{T, ltb, eqb, eqb→eq, ltb→lt}
use lib.ListN.{length, get_or}
use Rattle.refusals.proofs.Tests.{and_left, and_right, all, at_place}
use Rattle.octets.specs.Permutation.{Permutes}

-- an entry is below n, and the other table takes it back to its place
abbrev pub back_within : ℕ → List ℕ → ℕ → ℕ → Bool
back_within n other k x = ltb x n && eqb (get_or other x 0) k

-- two tables of n entries below n, each of which undoes the other, are permutations
module _ (n : ℕ) (table inverse : List ℕ) (long : length table ≡ n) (home : T (all (back_within n inverse) 0 table)) where
  within_back : (x : ℕ) → x < n → T (back_within n inverse x (get_or table x 0))
  within_back x l = at_place (back_within n inverse) table 0 home x (subst (λ (m : ℕ). x < m) (sym long) l)

  entry_within : (x : ℕ) → x < n → get_or table x 0 < n
  entry_within x l =
      let y = get_or table x 0 in
      ltb→lt y n (and_left (ltb y n) (eqb (get_or inverse y 0) x) (within_back x l))

  entry_back : (x : ℕ) → x < n → get_or inverse (get_or table x 0) 0 ≡ x
  entry_back x l =
      let y = get_or table x 0 in
      eqb→eq (get_or inverse y 0) x (and_right (ltb y n) (eqb (get_or inverse y 0) x) (within_back x l))

pub permutes : (n : ℕ) (table inverse : List ℕ) → length table ≡ n → length inverse ≡ n
    → T (all (back_within n inverse) 0 table) → T (all (back_within n table) 0 inverse) → Permutes n table
permutes n table inverse long long' home home' = record {
  entries = long;
  within = entry_within n table inverse long home;
  apart = λ x y lx ly e.
      sym (entry_back n table inverse long home x lx)
      ∙ ap (λ (m : ℕ). get_or inverse m 0) e
      ∙ entry_back n table inverse long home y ly;
  onto = λ y l. record {
    input = get_or inverse y 0;
    below = entry_within n inverse table long' home' y l;
    gives = entry_back n inverse table long' home' y l;
  };
}
