-- What was written is read back, and octets that are read as a form are the form of what they hold.
-- Assumes nothing.
use Prim.Native.Nat.{ℕ, zero, suc, ◌+◌, ◌*◌, ◌/◌, ◌%◌, ◌^◌, ◌≤◌, ◌<◌}
use native.Mathlib.Omega.{arith}
use native.Mathlib.Numerals.{add-one}
use mathlib.Core.Path.{◌≡◌, refl, sym, ap, ◌∙◌}
use mathlib.Core.Bool.{false, and-eq-true_iff}
use mathlib.Core.List.{List, [], ◌∷◌, ◌++◌}
use borrow.Author.Tests.{eq-eqb, eqb-true, not-false}
use lib.Dec.{lit<}
use lib.ListN.{length, get_or, take, drop, take-append-drop, drop_of_length-le}
use lib.Seq.{drop-cons, drop-drop, take_at}
use Rattle.refusals.specs.Refusal.{first, row_at}
use Rattle.refusals.specs.Call.{front}
use Rattle.refusals.proofs.Laws.{then_and_only_then}
use Rattle.frames.specs.Frame.{AreOctets, pair, pair_at}
use Rattle.link.specs.declared.Link.{Link}
use Rattle.stored.specs.Form.{quad, quad_at, quads, form, form_size, link_in, word_in, is_form_long, form_order}
use Rattle.stored.proofs.Places.{high_at, low_at, version_at, offset_at, sapi_at, direction_at, word_at, length-form}

-- ---- what reading asks of octets, as facts

pub record Formed (version words : ℕ) (octets : List ℕ) : Type 0 where
  pub length_is : length octets ≡ form_size words
  pub field_is : pair_at octets 0 + 2 ≡ form_size words
  pub version_is : get_or octets 2 0 ≡ version

module _ (version words : ℕ) (octets : List ℕ) where
  pub read_formed : first (form_order version words octets) ≡ 0 → Formed version words octets
  unfolding form_order row_at is_form_long
  read_formed nothing =
      let passed : (k : ℕ) → (row_at (form_order version words octets) k).holds ≡ false = (then_and_only_then (form_order version words octets) tt 0 (sym nothing)).none.0 refl in
      let long = (and-eq-true_iff _ _).0 (not-false _ (passed 0)) in
      record { length_is = eqb-true _ _ long.0; field_is = eqb-true _ _ long.1; version_is = eqb-true _ _ (not-false _ (passed 1)) }

  pub form_long : first (form_order version words octets) ≡ 0 → length octets ≡ form_size words
  form_long nothing = (read_formed nothing).length_is

  pub formed_read : Formed version words octets → first (form_order version words octets) ≡ 0
  unfolding first form_order is_form_long
  formed_read formed = simp (eq-eqb _ _ formed.length_is, eq-eqb _ _ formed.field_is, eq-eqb _ _ formed.version_is)

-- ---- what was written is read back

-- the number that four octets write, octet by octet
quad_octets : (octets : List ℕ) (k : ℕ) → quad_at octets k ≡ (get_or octets k 0 * 256 + get_or octets (k + 1) 0) * 2 ^ 16 + (get_or octets (k + 2) 0 * 256 + get_or octets (k + 3) 0)
unfolding quad_at pair_at
quad_octets octets k = ap (λ (i : ℕ). (get_or octets k 0 * 256 + get_or octets (k + 1) 0) * 2 ^ 16 + (get_or octets (k + 2) 0 * 256 + get_or octets i 0)) {x = k + 2 + 1} {y = k + 3} (omega arith)

-- four octets that write a number of 32 bits read as it
quad_read : (octets : List ℕ) (k x : ℕ) → x < 2 ^ 32 → ((j : ℕ) → j < 4 → get_or octets (k + j) 0 ≡ get_or (quad x) j 0) → quad_at octets k ≡ x
unfolding quad
quad_read octets k x fits each =
    let first-octet : get_or octets k 0 ≡ x / 2 ^ 24 % 256 = ap (λ (i : ℕ). get_or octets i 0) {x = k} {y = k + 0} (omega arith) ∙ each 0 (lit< tt) in
    let high : x / 2 ^ 24 % 256 * 256 + x / 2 ^ 16 % 256 ≡ x / 2 ^ 16 = omega arith in
    let low : x / 256 % 256 * 256 + x % 256 ≡ x % 2 ^ 16 = omega arith in
    omega (arith, quad_octets octets k, first-octet, each 1 (lit< tt), each 2 (lit< tt), each 3 (lit< tt))

module _ (version : ℕ) (link : Link) (words : List ℕ) (sixteen : length link.key ≡ 16) where
  -- the form with so many words is one
  pub form_formed : Formed version (length words) (form version link words)
  unfolding pair_at
  form_formed = record {
    length_is = length-form version link words sixteen;
    field_is = omega (arith, high_at version link words, low_at version link words);
    version_is = version_at version link words;
  }

  pub form_read : first (form_order version (length words) (form version link words)) ≡ 0
  form_read = formed_read version (length words) (form version link words) form_formed

  key_of_form : take 16 (drop 3 (form version link words)) ≡ link.key
  unfolding form pair
  key_of_form = take_at link.key _ 16 sixteen

  pub link_of_form : link.iov < 2 ^ 32 → link_in (form version link words) ≡ link
  unfolding link_in
  link_of_form fits =
      let iov_is = quad_read (form version link words) 19 link.iov fits (offset_at version link words sixteen) in
      λ i. record {
        key = key_of_form i;
        iov = iov_is i;
        sapi = sapi_at version link words sixteen i;
        direction = direction_at version link words sixteen i;
      }

  pub word_of_form : (k : ℕ) → k < length words → get_or words k 0 < 2 ^ 32 → word_in (form version link words) k ≡ get_or words k 0
  unfolding word_in
  word_of_form k below fits =
      quad_read (form version link words) (25 + 4 * k) (get_or words k 0) fits
      (λ j within.
      ap (λ (i : ℕ). get_or (form version link words) i 0) {x = 25 + 4 * k + j} {y = 25 + (4 * k + j)} (omega arith)
      ∙ word_at version link words sixteen k j below within)

  -- and from the front of an output, that form is taken
  pub form_in_front : (before : List ℕ) → take (form_size (length words)) (front (form version link words) before) ≡ form version link words
  unfolding front
  form_in_front before = take_at (form version link words) _ (form_size (length words)) (length-form version link words sixteen)

-- ---- octets that are read as a form are the form of what they hold

-- n of their words, from word k on
abbrev pub words_from : List ℕ → ℕ → ℕ → List ℕ
words_from octets k zero = []
words_from octets k (suc n) = word_in octets k ∷ words_from octets (suc k) n

length-words : (octets : List ℕ) (k n : ℕ) → length (words_from octets k n) ≡ n
length-words octets k zero = refl
length-words octets k (suc n) = ap suc (length-words octets (suc k) n)

one_and_more : (octets : List ℕ) (k : ℕ) → k < length octets → drop k octets ≡ get_or octets k 0 ∷ drop (k + 1) octets
one_and_more octets k below = drop-cons octets k 0 below ∙ ap (λ (i : ℕ). get_or octets k 0 ∷ drop i octets) (sym (add-one k))

-- four octets and those after them
four_and_more : (octets : List ℕ) (k : ℕ) → k + 4 ≤ length octets
    → drop k octets ≡ get_or octets k 0 ∷ get_or octets (k + 1) 0 ∷ get_or octets (k + 2) 0 ∷ get_or octets (k + 3) 0 ∷ drop (k + 4) octets
four_and_more octets k long =
    let two : k + 1 + 1 ≡ k + 2 = omega arith in
    let three : k + 2 + 1 ≡ k + 3 = omega arith in
    let four : k + 3 + 1 ≡ k + 4 = omega arith in
    cc (
      one_and_more octets k (omega arith),
      one_and_more octets (k + 1) (omega arith),
      one_and_more octets (k + 2) (omega arith),
      one_and_more octets (k + 3) (omega arith),
    )

-- the length field, octet by octet
field : {version words : ℕ} {octets : List ℕ} → Formed version words octets → get_or octets 0 0 * 256 + get_or octets 1 0 + 2 ≡ form_size words
unfolding pair_at
field formed = formed.field_is

module _ (octets : List ℕ) (each : AreOctets octets) where
  -- the number that four octets write is written so
  quad_of : (k : ℕ) → k + 4 ≤ length octets → quad (quad_at octets k) ++ drop (k + 4) octets ≡ drop k octets
  unfolding quad
  quad_of k long =
      let x : ℕ = quad_at octets k in
      let is = quad_octets octets k in
      let highest : x / 2 ^ 24 % 256 ≡ get_or octets k 0 = omega (arith, each k, each (k + 1), each (k + 2), each (k + 3)) in
      let second : x / 2 ^ 16 % 256 ≡ get_or octets (k + 1) 0 = omega (arith, each (k + 1), each (k + 2), each (k + 3)) in
      let third : x / 256 % 256 ≡ get_or octets (k + 2) 0 = omega (arith, each (k + 2), each (k + 3)) in
      let last : x % 256 ≡ get_or octets (k + 3) 0 = omega (arith, each (k + 3)) in
      cc (four_and_more octets k long)

  quads_of : (k n : ℕ) → length octets ≡ 25 + 4 * (k + n) → quads (words_from octets k n) ≡ drop (25 + 4 * k) octets
  unfolding quads word_in
  quads_of k zero long = sym (drop_of_length-le octets {i = 25 + 4 * k} (omega arith))
  quads_of k (suc n) long =
      ap (λ (l : List ℕ). quad (quad_at octets (25 + 4 * k)) ++ l)
      (quads_of (suc k) n (omega arith) ∙ ap (λ (i : ℕ). drop i octets) {x = 25 + 4 * suc k} {y = 25 + 4 * k + 4} (omega arith))
      ∙ quad_of (25 + 4 * k) (omega arith)

  pub form_of_octets : (version n : ℕ) → first (form_order version n octets) ≡ 0 → octets ≡ form version (link_in octets) (words_from octets 0 n)
  unfolding form pair link_in
  form_of_octets version n nothing =
      let formed = read_formed version n octets nothing in
      let long : length octets ≡ 25 + 4 * n = formed.length_is in
      let words : List ℕ = words_from octets 0 n in
      let count : 23 + 4 * length words ≡ get_or octets 0 0 * 256 + get_or octets 1 0 = omega (arith, length-words octets 0 n, field formed) in
      let high : (23 + 4 * length words) / 256 ≡ get_or octets 0 0 = omega (arith, count, each 1) in
      let low : (23 + 4 * length words) % 256 ≡ get_or octets 1 0 = omega (arith, count, each 1) in
      let service : get_or octets 23 0 ∷ get_or octets 24 0 ∷ quads words ≡ drop 23 octets =
      cc (one_and_more octets 23 (omega arith), one_and_more octets 24 (omega arith), quads_of 0 n (omega arith)) in
      let offset : quad (quad_at octets 19) ++ (get_or octets 23 0 ∷ get_or octets 24 0 ∷ quads words) ≡ drop 19 octets =
      ap (λ (l : List ℕ). quad (quad_at octets 19) ++ l) service ∙ quad_of 19 (omega arith) in
      let key : take 16 (drop 3 octets) ++ (quad (quad_at octets 19) ++ (get_or octets 23 0 ∷ get_or octets 24 0 ∷ quads words)) ≡ drop 3 octets =
      ap (λ (l : List ℕ). take 16 (drop 3 octets) ++ l) (offset ∙ sym (drop-drop 16 3 octets)) ∙ take-append-drop 16 (drop 3 octets) in
      cc (one_and_more octets 0 (omega arith), one_and_more octets 1 (omega arith), one_and_more octets 2 (omega arith), formed.version_is)
