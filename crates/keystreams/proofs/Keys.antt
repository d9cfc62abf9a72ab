-- The laws of a prepared key: it has 16 octets, those of document 004's rule, and preparing it again changes nothing. And what callers of the
-- preparation use.
-- Assumes nothing.
use Prim.Native.Nat.{ℕ, ◌+◌, ◌-◌, ◌≤◌, ◌<◌}
use native.Mathlib.Omega.{arith}
use mathlib.Core.Path.{◌≡◌, sym, ap, ◌∙◌}
use mathlib.Core.Logic.{◌⊎◌, inl, inr, ⊎_elim}
use mathlib.Core.Bool.{true, false}
use mathlib.Core.List.{List, ◌++◌}
use borrow.Author.Tests.{eq-eqb, ne_eqb, eqb-true, lt-ltb, le-ltb, ltb-true, ltb-false}
use lib.Dec.{eqb, ltb}
use lib.ListN.{length, get_or, length-append, get_or-append}
use lib.Seq.{ext_get_or, get_or-append-add}
use Rattle.refusals.specs.Refusal.{first}
use Rattle.refusals.specs.Call.{Answered}
use Rattle.refusals.proofs.Calls.{answered_done}
use Rattle.refusals.proofs.Tests.{by-test}
use Rattle.octets.specs.Bits.{listed}
use Rattle.octets.proofs.Listed.{length-listed, get_or-listed}
use Rattle.octets.proofs.Octets.{whole_key}
use Rattle.keystreams.specs.Key.{is_key, prepared, source_of, key_order, prepare_key_call}

-- a key has 8 octets or 16
pub key_sizes : (key : List ℕ) → is_key key ≡ true → (length key ≡ 8) ⊎ (length key ≡ 16)
unfolding is_key
key_sizes key is =
    by-test (eqb (length key) 8) ((length key ≡ 8) ⊎ (length key ≡ 16))
    (λ eight. inl (eqb-true (length key) 8 eight))
    (λ other. inr ((whole_key key).0 (rw other at is)))

pub key_most : (key : List ℕ) → is_key key ≡ true → length key ≤ 16
key_most key is = ⊎_elim (λ eight. omega (arith, eight)) (λ sixteen. omega (arith, sixteen)) (key_sizes key is)

-- 8 octets are a key, and yield themselves twice
pub short_is_key : (key : List ℕ) → length key ≡ 8 → is_key key ≡ true
unfolding is_key
short_is_key key eight = rw (eq-eqb (length key) 8 eight)

pub prepared_short : (key : List ℕ) → length key ≡ 8 → prepared key ≡ key ++ key
unfolding prepared
prepared_short key eight = rw (eq-eqb (length key) 8 eight)

-- 16 octets are a key, and yield themselves
pub whole_is_key : (key : List ℕ) → length key ≡ 16 → is_key key ≡ true
unfolding is_key
whole_is_key key sixteen = rw (ne_eqb (length key) 8 (omega (arith, sixteen)), (whole_key key).1 sixteen)

pub prepared_whole : (key : List ℕ) → length key ≡ 16 → prepared key ≡ key
unfolding prepared
prepared_whole key sixteen = rw (ne_eqb (length key) 8 (omega (arith, sixteen)))

-- a key doubled has 16
pub length_doubled : (key : List ℕ) → length key ≡ 8 → length (key ++ key) ≡ 16
length_doubled key eight = length-append key key ∙ omega (arith, eight)

-- a key yields 16 octets
pub length-prepared : (key : List ℕ) → is_key key ≡ true → length (prepared key) ≡ 16
length-prepared key is =
    ⊎_elim
    (λ eight. ap length (prepared_short key eight) ∙ length_doubled key eight)
    (λ sixteen. ap length (prepared_whole key sixteen) ∙ sixteen)
    (key_sizes key is)

-- so preparing what was prepared changes nothing
pub prepared_again : (key : List ℕ) → is_key key ≡ true → prepared (prepared key) ≡ prepared key
prepared_again key is = prepared_whole (prepared key) (length-prepared key is)

-- and a key of 8 octets yields what that key doubled yields
pub prepared_doubled : (key : List ℕ) → length key ≡ 8 → prepared key ≡ prepared (key ++ key)
prepared_doubled key eight = prepared_short key eight ∙ sym (prepared_whole (key ++ key) (length_doubled key eight))

-- ---- document 004's rule

pub source_before : (size i : ℕ) → i < size → source_of size i ≡ i
unfolding source_of
source_before size i before = rw (lt-ltb i size before)

pub source_past : (size i : ℕ) → size ≤ i → source_of size i ≡ i - size
unfolding source_of
source_past size i past = rw (le-ltb i size past)

-- before the key's end or past it
ends : (size i : ℕ) → (i < size) ⊎ (size ≤ i)
ends size i =
    by-test (ltb i size) ((i < size) ⊎ (size ≤ i)) (λ before. inl (ltb-true i size before)) (λ past. inr (ltb-false i size past))

-- the octet that stands at a place is one of the key's
pub source_within : (key : List ℕ) (i : ℕ) → is_key key ≡ true → i < 16 → source_of (length key) i < length key
source_within key i is below =
    ⊎_elim
    (λ before. omega (arith, before, source_before (length key) i before))
    (λ past. ⊎_elim (λ eight. omega (arith, below, past, eight, source_past (length key) i past)) (λ sixteen. absurd (omega (arith, below, past, sixteen))) (key_sizes key is))
    (ends (length key) i)

-- what a key yields has the octet of the rule at each place
pub prepared_octet : (key : List ℕ) (i : ℕ) → is_key key ≡ true → i < 16 → get_or (prepared key) i 0 ≡ get_or key (source_of (length key) i) 0
prepared_octet key i is below =
    ⊎_elim
    (λ eight.
    ap (λ (octets : List ℕ). get_or octets i 0) (prepared_short key eight)
    ∙ ⊎_elim
    (λ before. get_or-append key key 0 i before ∙ ap (λ (k : ℕ). get_or key k 0) (sym (source_before (length key) i before)))
    (λ past.
    ap (λ (k : ℕ). get_or (key ++ key) k 0) {y = length key + (i - length key)} (omega (arith, past))
    ∙ get_or-append-add key key (i - length key) 0
    ∙ ap (λ (k : ℕ). get_or key k 0) (sym (source_past (length key) i past)))
    (ends (length key) i))
    (λ sixteen.
    ap (λ (octets : List ℕ). get_or octets i 0) (prepared_whole key sixteen)
    ∙ ap (λ (k : ℕ). get_or key k 0) (sym (source_before (length key) i (omega (arith, below, sixteen)))))
    (key_sizes key is)

pub prepared_listed : (key : List ℕ) → is_key key ≡ true → listed (λ i. get_or key (source_of (length key) i) 0) 16 ≡ prepared key
prepared_listed key is =
    let octet : ℕ → ℕ = λ i. get_or key (source_of (length key) i) 0 in
    ext_get_or 0 _ _ (length-listed octet 16 ∙ sym (length-prepared key is))
    (λ i below.
    let inside : i < 16 = omega (arith, below, length-listed octet 16) in
    get_or-listed octet 16 i 0 inside ∙ sym (prepared_octet key i is inside))

-- ---- for the callers

-- a preparation that is not refused was given a key, and hands out what the key yields; one that is refused was not
module _ (key : List ℕ) {refusal : ℕ} {numbers octets : List ℕ} (answered : Answered (prepare_key_call key) refusal numbers octets) where
  pub prepare_done : refusal ≡ 0 → (is_key key ≡ true) × (octets ≡ prepared key)
  unfolding first key_order
  prepare_done none =
      by-test (is_key key) ((is_key key ≡ true) × (octets ≡ prepared key))
      (λ is. (is, (answered_done (prepare_key_call key) answered (rw is)).2))
      (λ is-not.
      let named : refusal ≡ 1 = answered.refusal_is ∙ rw is-not in
      let wrong : ◌≡◌ {A = ℕ} 0 1 = sym none ∙ named in
      absurd (omega arith))

  pub prepare_refused : (refusal ≡ 0 → ⊥) → is_key key ≡ false
  unfolding first key_order
  prepare_refused some =
      by-test (is_key key) (is_key key ≡ false)
      (λ is. absurd (some (answered.refusal_is ∙ rw is)))
      (λ is-not. is-not)
