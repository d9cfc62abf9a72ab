-- What the tests of a frame and of a header say, as facts.
-- Assumes nothing.
use Prim.Native.Nat.{ℕ, ◌+◌, ◌/◌, ◌%◌, ◌≤◌}
use mathlib.Core.Path.{◌≡◌, refl, sym}
use mathlib.Core.Bool.{true, false, and-eq-true_iff}
use mathlib.Core.List.{List, []}
use borrow.Author.Tests.{le-leb, leb-true, eq-eqb, ne_eqb, eqb-true, not-false}
use lib.ListN.{length, get_or}
use Rattle.refusals.specs.Refusal.{first, row_at}
use Rattle.refusals.proofs.Laws.{then_and_only_then}
use Rattle.frames.specs.declared.Header.{Header}
use Rattle.frames.specs.Frame.{pair_at, is_whole, has_zero_bits, is_header, payload_of, look_order, looked}

-- L is within its limits, and the octets are L + 2
pub record Whole (octets : List ℕ) : Type 0 where
  pub seven_least : 7 ≤ length octets
  pub count_least : 5 ≤ pair_at octets 0
  pub count_most : pair_at octets 0 ≤ 1524
  pub length_is : length octets ≡ pair_at octets 0 + 2

-- the zero bits
pub record ZeroBits (octets : List ℕ) : Type 0 where
  pub service : get_or octets 3 0 / 2 % 8 ≡ 0
  pub sent : get_or octets 4 0 / 2 ≡ 0

-- what a header may say
pub record InRange (header : Header) : Type 0 where
  pub sapi_most : header.sapi ≤ 15
  pub direction_most : header.direction ≤ 1
  pub sent_most : header.sent ≤ 511

module _ (octets : List ℕ) where
  pub whole_says : is_whole octets ≡ true → Whole octets
  unfolding is_whole
  whole_says h =
      let outer = (and-eq-true_iff _ _).0 h in
      let inner = (and-eq-true_iff _ _).0 outer.1 in
      let last = (and-eq-true_iff _ _).0 inner.1 in
      record {
        seven_least = leb-true _ _ outer.0;
        count_least = leb-true _ _ inner.0;
        count_most = leb-true _ _ last.0;
        length_is = eqb-true _ _ last.1;
      }

  pub says_whole : Whole octets → is_whole octets ≡ true
  unfolding is_whole
  says_whole w = simp (le-leb _ _ w.seven_least, le-leb _ _ w.count_least, le-leb _ _ w.count_most, eq-eqb _ _ w.length_is)

  pub zero_bits_say : has_zero_bits octets ≡ true → ZeroBits octets
  unfolding has_zero_bits
  zero_bits_say h =
      let halves = (and-eq-true_iff _ _).0 h in
      record { service = eqb-true _ _ halves.0; sent = eqb-true _ _ halves.1 }

  pub say_zero_bits : ZeroBits octets → has_zero_bits octets ≡ true
  unfolding has_zero_bits
  say_zero_bits z = simp (eq-eqb _ _ z.service, eq-eqb _ _ z.sent)

module _ (header : Header) where
  pub header_says : is_header header ≡ true → InRange header
  unfolding is_header
  header_says h =
      let outer = (and-eq-true_iff _ _).0 h in
      let inner = (and-eq-true_iff _ _).0 outer.1 in
      record { sapi_most = leb-true _ _ outer.0; direction_most = leb-true _ _ inner.0; sent_most = leb-true _ _ inner.1 }

  pub says_header : InRange header → is_header header ≡ true
  unfolding is_header
  says_header r = simp (le-leb _ _ r.sapi_most, le-leb _ _ r.direction_most, le-leb _ _ r.sent_most)

-- what a look asks of octets
pub record Framed (octets : List ℕ) : Type 0 where
  pub whole : Whole octets
  pub version : get_or octets 2 0 ≡ 1
  pub zero_bits : ZeroBits octets

module _ (octets : List ℕ) where
  -- a look refuses nothing exactly where the octets are so
  pub looked_framed : first (look_order octets) ≡ 0 → Framed octets
  unfolding look_order row_at
  looked_framed nothing =
      let passed : (k : ℕ) → (row_at (look_order octets) k).holds ≡ false = (then_and_only_then (look_order octets) tt 0 (sym nothing)).none.0 refl in
      record {
        whole = whole_says octets (not-false _ (passed 0));
        version = eqb-true _ _ (not-false _ (passed 1));
        zero_bits = zero_bits_say octets (not-false _ (passed 2));
      }

  pub framed_looked : Framed octets → first (look_order octets) ≡ 0
  unfolding first look_order
  framed_looked f = simp (says_whole octets f.whole, eq-eqb _ _ f.version, say_zero_bits octets f.zero_bits)

  -- and what it hands out
  pub looked_passed : first (look_order octets) ≡ 0 → looked octets ≡ payload_of octets
  unfolding looked
  looked_passed nothing = rw (eq-eqb _ _ nothing)

  pub looked_refused : (first (look_order octets) ≡ 0 → ⊥) → looked octets ≡ []
  unfolding looked
  looked_refused refused = rw (ne_eqb _ _ refused)
