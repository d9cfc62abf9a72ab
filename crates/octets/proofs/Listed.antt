-- The laws of `listed`, a list by its elements, and of a buffer whose front a loop fills with them.
-- Assumes nothing.
use mathlib.Core.Path.{◌≡◌, refl, sym, ap, ap₂, ◌∙◌}
use mathlib.Core.List.{List, [], ◌∷◌, ◌++◌, append-nil, append_assoc}
use mathlib.Core.Logic.{⊎_elim}
use Prim.Native.Nat.{ℕ, zero, suc, ◌+◌, ◌≤◌, ◌<◌}
use native.Mathlib.Nat.{add-zero, add-suc, eq-or-lt_of_le, le_of_suc-le-suc, not-suc-le-zero}
use native.Mathlib.Numerals.{add-one}
use native.Mathlib.Omega.{arith}
use lib.ListN.{length, get_or, set, take, drop, replicate, length-append, length-take, length-drop, take-append-drop, get_or-append}
use lib.Seq.{append_snoc, drop-cons, set_at, get_or_at, get_or-append-add, take_at, drop_at, drop-append-le, drop-drop, ext_get_or}
use Rattle.octets.specs.Bits.{listed}

pub length-listed : (f : ℕ → ℕ) (n : ℕ) → length (listed f n) ≡ n
unfolding listed
length-listed f zero = refl
length-listed f (suc n) = length-append (listed f n) (f n ∷ []) ∙ add-one (length (listed f n)) ∙ ap suc (length-listed f n)

pub get_or-listed : (f : ℕ → ℕ) (n i d : ℕ) → i < n → get_or (listed f n) i d ≡ f i
unfolding listed
get_or-listed f zero i d below = absurd (not-suc-le-zero below)
get_or-listed f (suc n) i d below =
    ⊎_elim
    (λ last. ap (λ (k : ℕ). get_or (listed f (suc n)) k d) last ∙ get_or_at (listed f n) (f n) [] d n (length-listed f n) ∙ ap f (sym last))
    (λ before. get_or-append (listed f n) (f n ∷ []) d i (rw length-listed before) ∙ get_or-listed f n i d before)
    (eq-or-lt_of_le (le_of_suc-le-suc below))

pub listed_ext : (f g : ℕ → ℕ) (n : ℕ) → ((i : ℕ) → i < n → f i ≡ g i) → listed f n ≡ listed g n
unfolding listed
listed_ext f g zero same = refl
listed_ext f g (suc n) same =
    ap₂ (λ (l : List ℕ) (x : ℕ). l ++ (x ∷ [])) (listed_ext f g n (λ i below. same i (omega arith))) (same n (omega arith))

-- a list is its elements
pub listed_self : (l : List ℕ) → listed (λ i. get_or l i 0) (length l) ≡ l
listed_self l = ext_get_or 0 _ _ (length-listed _ (length l)) (λ i below. get_or-listed _ (length l) i 0 (rw length-listed at below))

-- m elements and then n more
pub listed_add : (f : ℕ → ℕ) (m n : ℕ) → listed f (m + n) ≡ listed f m ++ listed (λ i. f (m + i)) n
unfolding listed
listed_add f m zero = ap (listed f) (add-zero m) ∙ sym (append-nil (listed f m))
listed_add f m (suc n) =
    ap (listed f) (add-suc m n)
    ∙ ap (λ (l : List ℕ). l ++ (f (m + n) ∷ [])) (listed_add f m n)
    ∙ append_assoc (listed f m) (listed (λ i. f (m + i)) n) (f (m + n) ∷ [])

-- zeros, and past their end nothing, which reads as zero
pub get_or-zeros : (n i : ℕ) → ◌≡◌ {A = ℕ} (get_or (replicate n 0) i 0) 0
get_or-zeros zero i = refl
get_or-zeros (suc n) zero = refl
get_or-zeros (suc n) (suc i) = get_or-zeros n i

-- past a first list of n elements
pub get_d_past : (first rest : List ℕ) (n i : ℕ) → length first ≡ n → get_or (first ++ rest) (n + i) 0 ≡ get_or rest i 0
get_d_past first rest n i long = ap (λ (k : ℕ). get_or (first ++ rest) k 0) {y = length first + i} (omega (arith, long)) ∙ get_or-append-add first rest i 0

-- ---- a buffer whose front is filled

-- a buffer keeps its length where its first k elements are replaced
pub length_front : (some before : List ℕ) (k : ℕ) → length some ≡ k → k ≤ length before → length (some ++ drop k before) ≡ length before
length_front some before k long room = simp (length-append, length-drop, long) (omega arith)

-- a loop that has put k elements to the front of a buffer puts the next one to place k
pub front_store : (some before : List ℕ) (k next : ℕ) → length some ≡ k → k < length before
    → set (some ++ drop k before) k next ≡ (some ++ next ∷ []) ++ drop (k + 1) before
front_store some before k next long room =
    rw (add-one k)
    (ap (λ (l : List ℕ). set (some ++ l) k next) (drop-cons before k 0 room)
    ∙ set_at some (get_or before k 0) (drop (suc k) before) next k long
    ∙ sym (append_snoc some next (drop (suc k) before)))

-- the same where the elements are f 0, f 1, ..
pub length-listed_front : (f : ℕ → ℕ) (before : List ℕ) (k : ℕ) → k ≤ length before → length (listed f k ++ drop k before) ≡ length before
length-listed_front f before k room = length_front (listed f k) before k (length-listed f k) room

pub get_or-listed_front : (f : ℕ → ℕ) (rest : List ℕ) (k i d : ℕ) → i < k → get_or (listed f k ++ rest) i d ≡ f i
get_or-listed_front f rest k i d below = get_or-append (listed f k) rest d i (rw length-listed below) ∙ get_or-listed f k i d below

pub listed_store : (f : ℕ → ℕ) (before : List ℕ) (k : ℕ) → k < length before
    → set (listed f k ++ drop k before) k (f k) ≡ listed f (k + 1) ++ drop (k + 1) before
unfolding listed
listed_store f before k room = front_store (listed f k) before k (f k) (length-listed f k) room ∙ rw (add-one k)

-- a loop that has filled the front up to `at` fills the first m places of the part of k places after it
pub listed_part : (f g : ℕ → ℕ) (before now : List ℕ) (at m k : ℕ) → now ≡ listed f at ++ drop at before
    → ((i : ℕ) → i < m → g i ≡ f (at + i)) → m ≤ k → at + k ≤ length before
    → take at now ++ ((listed g m ++ drop m (take k (drop at now))) ++ drop k (drop at now)) ≡ listed f (at + m) ++ drop (at + m) before
listed_part f g before now at m k is same within room =
    let rest : List ℕ = drop at before in
    let fits : m ≤ length (take k rest) = simp (length-take, length-drop) (omega arith) in
    ap₂ (λ (front after : List ℕ). front ++ ((listed g m ++ drop m (take k after)) ++ drop k after))
    (ap (take at) is ∙ take_at (listed f at) rest at (length-listed f at))
    (ap (drop at) is ∙ drop_at (listed f at) rest at (length-listed f at))
    ∙ ap (λ (l : List ℕ). listed f at ++ l)
    (append_assoc (listed g m) (drop m (take k rest)) (drop k rest)
    ∙ ap₂ ◌++◌
    (listed_ext g (λ i. f (at + i)) m same)
    (sym (drop-append-le m (take k rest) (drop k rest) fits) ∙ ap (drop m) (take-append-drop k rest) ∙ drop-drop m at before))
    ∙ sym (append_assoc (listed f at) (listed (λ i. f (at + i)) m) (drop (at + m) before))
    ∙ ap (λ (l : List ℕ). l ++ drop (at + m) before) (sym (listed_add f at m))

-- the last of the elements is changed
pub listed_last : (f g : ℕ → ℕ) (rest : List ℕ) (m x : ℕ) → ((i : ℕ) → i < m → f i ≡ g i) → x ≡ g m
    → set (listed f (m + 1) ++ rest) m x ≡ listed g (m + 1) ++ rest
unfolding listed
listed_last f g rest m x same last =
    rw (add-one m)
    (ap (λ (l : List ℕ). set l m x) (append_snoc (listed f m) (f m) rest)
    ∙ set_at (listed f m) (f m) rest x m (length-listed f m)
    ∙ ap₂ (λ (l : List ℕ) (y : ℕ). l ++ y ∷ rest) (listed_ext f g m same) last
    ∙ sym (append_snoc (listed g m) (g m) rest))
