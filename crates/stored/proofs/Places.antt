-- Where each octet of a form stands, and how many there are.
-- Assumes nothing.
use Prim.Native.Nat.{ℕ, zero, suc, ◌+◌, ◌*◌, ◌/◌, ◌%◌, ◌<◌}
use native.Mathlib.Omega.{arith}
use native.Mathlib.Nat.{not-suc-le-zero, le_of_suc-le-suc}
use mathlib.Core.Path.{◌≡◌, refl, ap, ◌∙◌}
use mathlib.Core.List.{List, [], ◌∷◌, ◌++◌}
use lib.ListN.{length, get_or, length-append, get_or-append}
use Rattle.octets.proofs.Listed.{get_d_past}
use Rattle.frames.specs.Frame.{pair}
use Rattle.link.specs.declared.Link.{Link}
use Rattle.stored.specs.Form.{quad, quads, form}

pub length-quads : (words : List ℕ) → length (quads words) ≡ 4 * length words
unfolding quad quads
length-quads [] = refl
length-quads (word ∷ rest) = omega (arith, length-quads rest)

-- octet j of word k
quads_at : (words : List ℕ) (k j : ℕ) → k < length words → j < 4 → get_or (quads words) (4 * k + j) 0 ≡ get_or (quad (get_or words k 0)) j 0
unfolding quads quad
quads_at [] k j below within = absurd (not-suc-le-zero below)
quads_at (word ∷ rest) zero j below within =
    ap (λ (i : ℕ). get_or (quads (word ∷ rest)) i 0) {x = 4 * 0 + j} {y = j} (omega arith) ∙ get_or-append (quad word) (quads rest) 0 j within
quads_at (word ∷ rest) (suc k) j below within =
    ap (λ (i : ℕ). get_or (quads (word ∷ rest)) i 0) {x = 4 * suc k + j} {y = 4 + (4 * k + j)} (omega arith)
    ∙ get_d_past (quad word) (quads rest) 4 (4 * k + j) refl
    ∙ quads_at rest k j (le_of_suc-le-suc below) within

module _ (version : ℕ) (link : Link) (words : List ℕ) where
  pub high_at : get_or (form version link words) 0 0 ≡ (23 + 4 * length words) / 256
  unfolding form pair
  high_at = refl

  pub low_at : get_or (form version link words) 1 0 ≡ (23 + 4 * length words) % 256
  unfolding form pair
  low_at = refl

  pub version_at : get_or (form version link words) 2 0 ≡ version
  unfolding form pair
  version_at = refl

  -- what stands past the version, and past the key
  past_key : List ℕ
  past_key = quad link.iov ++ (link.sapi ∷ link.direction ∷ quads words)

  at_3 : (j : ℕ) → get_or (form version link words) (3 + j) 0 ≡ get_or (link.key ++ past_key) j 0
  unfolding form pair past_key
  at_3 j = get_d_past ((23 + 4 * length words) / 256 ∷ (23 + 4 * length words) % 256 ∷ version ∷ []) (link.key ++ past_key) 3 j refl

  -- the link's key has its 16 octets
  module _ (sixteen : length link.key ≡ 16) where
    pub key_at : (j : ℕ) → j < 16 → get_or (form version link words) (3 + j) 0 ≡ get_or link.key j 0
    key_at j within = at_3 j ∙ get_or-append link.key past_key 0 j (rw sixteen within)

    at_19 : (j : ℕ) → get_or (form version link words) (19 + j) 0 ≡ get_or past_key j 0
    at_19 j =
        ap (λ (i : ℕ). get_or (form version link words) i 0) {y = 3 + (16 + j)} (omega arith)
        ∙ at_3 (16 + j)
        ∙ get_d_past link.key past_key 16 j sixteen

    pub offset_at : (j : ℕ) → j < 4 → get_or (form version link words) (19 + j) 0 ≡ get_or (quad link.iov) j 0
    unfolding past_key quad
    offset_at j within = at_19 j ∙ get_or-append (quad link.iov) (link.sapi ∷ link.direction ∷ quads words) 0 j within

    pub sapi_at : get_or (form version link words) 23 0 ≡ link.sapi
    unfolding past_key quad
    sapi_at = at_19 4

    pub direction_at : get_or (form version link words) 24 0 ≡ link.direction
    unfolding past_key quad
    direction_at = at_19 5

    pub word_at : (k j : ℕ) → k < length words → j < 4 → get_or (form version link words) (25 + (4 * k + j)) 0 ≡ get_or (quad (get_or words k 0)) j 0
    unfolding past_key quad
    word_at k j below within =
        ap (λ (i : ℕ). get_or (form version link words) i 0) {y = 19 + (6 + (4 * k + j))} (omega arith)
        ∙ at_19 (6 + (4 * k + j))
        ∙ get_d_past (quad link.iov ++ (link.sapi ∷ link.direction ∷ [])) (quads words) 6 (4 * k + j) refl
        ∙ quads_at words k j below within

    pub length-form : length (form version link words) ≡ 25 + 4 * length words
    unfolding form pair quad
    length-form = simp (length-append, sixteen) (omega (arith, length-quads words))
