-- A form that is written part by part, each after the one before it.
-- Assumes nothing.
use Rattle.std.specs.Int.{w16, w32, to_be_bytes}
use Prim.Native.Nat.{ℕ, ◌+◌, ◌*◌, ◌%◌, ◌^◌, ◌≤◌, ◌<◌}
use native.Mathlib.Omega.{arith}
use native.Mathlib.Numerals.{add-one}
use mathlib.Core.Path.{◌≡◌, refl, sym, ap, ap₂, ◌∙◌}
use mathlib.Core.List.{List, [], ◌∷◌, ◌++◌, append_assoc}
use borrow.Rule.Slice.PartMut.{put_mid}
use lib.ListN.{length, get_or, set, take, drop, length-append}
use lib.Seq.{take-suc, take-length, length-take-le}
use Rattle.octets.proofs.Listed.{front_store}
use Rattle.frames.specs.Frame.{pair}
use Rattle.link.specs.declared.Link.{Link}
use Rattle.sender.proofs.Sealing.{put_next}
use Rattle.stored.specs.Form.{quad, quads, form}
use Rattle.stored.proofs.Places.{length-quads}

-- numbers, as the code writes them
pub pair_bytes : (x : ℕ) → x < 2 ^ 16 → to_be_bytes w16 x ≡ pair x
unfolding pair
pair_bytes x fits = ap (λ (high : ℕ). high ∷ x % 256 ∷ []) (omega arith)

pub quad_bytes : (x : ℕ) → to_be_bytes w32 x ≡ quad x
unfolding quad
quad_bytes x = refl

-- the octets of a form before its words
abbrev pub head : Link → ℕ → List ℕ
head link words = pair (23 + 4 * words) ++ (1 ∷ (link.key ++ (quad link.iov ++ (link.sapi ∷ link.direction ∷ []))))

pub head_put : (link : Link) (words : ℕ) (before : List ℕ) {two key four : List ℕ} → length link.key ≡ 16 → 25 ≤ length before
    → two ≡ pair (23 + 4 * words) → key ≡ link.key → four ≡ quad link.iov
    → set (set (put_mid 19 4 (put_mid 3 16 (set (two ++ drop 2 before) 2 1) key) four) 23 link.sapi) 24 link.direction ≡ head link words ++ drop 25 before
unfolding pair quad
head_put link words before {two} sixteen room two_is key_is four_is =
    let field : List ℕ = pair (23 + 4 * words) in
    let version : set (two ++ drop 2 before) 2 1 ≡ (field ++ (1 ∷ [])) ++ drop 3 before = rw two_is (front_store field before 2 1 refl (omega arith)) in
    let keyed = put_next (field ++ (1 ∷ [])) link.key before 3 16 version key_is refl in
    let offset = put_next ((field ++ (1 ∷ [])) ++ link.key) (quad link.iov) before 19 4 keyed four_is (rw sixteen) in
    ap (λ (l : List ℕ). set (set l 23 link.sapi) 24 link.direction) offset
    ∙ ap (λ (l : List ℕ). set l 24 link.direction) (front_store (((field ++ (1 ∷ [])) ++ link.key) ++ quad link.iov) before 23 link.sapi (simp (length-append, sixteen)) (omega arith))
    ∙ front_store ((((field ++ (1 ∷ [])) ++ link.key) ++ quad link.iov) ++ (link.sapi ∷ [])) before 24 link.direction (simp (length-append, sixteen)) (omega arith)
    ∙ simp append_assoc

quads_append : (some more : List ℕ) → quads (some ++ more) ≡ quads some ++ quads more
unfolding quads
quads_append [] more = refl
quads_append (word ∷ rest) more = ap (λ (l : List ℕ). quad word ++ l) (quads_append rest more) ∙ sym (append_assoc (quad word) (quads rest) (quads more))

-- one word more
quads_next : (words : List ℕ) (k : ℕ) → k < length words → quads (take (k + 1) words) ≡ quads (take k words) ++ quad (get_or words k 0)
unfolding quads quad
quads_next words k below =
    rw (add-one k, take-suc words k 0 below) (quads_append (take k words) (get_or words k 0 ∷ []))

module _ (link : Link) (words : List ℕ) where
  -- the octets of a form up to word k
  abbrev pub up_to : ℕ → List ℕ
  up_to k = head link (length words) ++ quads (take k words)

  -- the link's key has its 16 octets
  module _ (sixteen : length link.key ≡ 16) where
    length-up_to : (k : ℕ) → k ≤ length words → length (up_to k) ≡ 25 + 4 * k
    unfolding pair quad
    length-up_to k within = simp (length-append, sixteen) (omega (arith, length-quads (take k words), length-take-le k words within))

    pub word_put : (before : List ℕ) (k : ℕ) {now four : List ℕ} → k < length words → now ≡ up_to k ++ drop (25 + 4 * k) before → four ≡ quad (get_or words k 0)
        → put_mid (25 + 4 * k) 4 now four ≡ up_to (k + 1) ++ drop (25 + 4 * (k + 1)) before
    word_put before k below is four_is =
        put_next (up_to k) (quad (get_or words k 0)) before (25 + 4 * k) 4 is four_is (length-up_to k (omega arith))
        ∙ ap₂ (λ (l m : List ℕ). l ++ m) (append_assoc (head link (length words)) (quads (take k words)) (quad (get_or words k 0)) ∙ ap (λ (l : List ℕ). head link (length words) ++ l) (sym (quads_next words k below)))
        (ap (λ (i : ℕ). drop i before) {x = 25 + 4 * k + 4} {y = 25 + 4 * (k + 1)} (omega arith))

    pub all_put : up_to (length words) ≡ form 1 link words
    unfolding form pair quad
    all_put = simp (take-length, append_assoc)
