-- `kasumi::schedule::keys_at` meets its contract: the words of a round are one of the eight parts of all words.
-- Assumes nothing.
use Prim.Native.Nat.{ℕ, zero, suc, ◌+◌, ◌-◌, ◌*◌, ◌<◌}
use native.Mathlib.Nat.{le_of_suc-le-suc, not-suc-le-zero}
use native.Mathlib.Omega.{arith}
use mathlib.Core.Path.{◌≡◌, refl, ap, ◌∙◌}
use mathlib.Core.List.{List, []}
use lib.Dec.{lit<}
use lib.ListN.{get_or, take, drop}
use lib.Seq.{drop-drop}
use Rattle.std.specs.Simd.{first_chunks}
use Rattle.std.proofs.lemmas.Simd.{get_or-chunk}
use Rattle.kasumi.proofs.schedule.keys_at.Goals as goal

-- one of the parts of eight words
part : (count k : ℕ) (words : List ℕ) → k < count → get_or (first_chunks 8 count words) k [] ≡ take 8 (drop (8 * k) words)
part zero k words below = absurd (not-suc-le-zero below)
part (suc count) zero words below = ap (λ (n : ℕ). take 8 (drop n words)) {x = 0} {y = 8 * 0} (omega arith)
part (suc count) (suc k) words below =
    part count k (drop 8 words) (le_of_suc-le-suc below)
    ∙ ap (take 8) (drop-drop (8 * k) 8 words ∙ ap (λ (n : ℕ). drop n words) {x = 8 + 8 * k} {y = 8 * suc k} (omega arith))

pub returns : goal.returns
returns c =
    let words : List ℕ = c.args.words.now in
    let k : ℕ = c.args.i - 1 in
    let parts = c.as_chunks.result.0.now in
    let word : (j n : ℕ) → 8 * k + j ≡ n → j < 8 → get_or (get_or parts k []) j 0 ≡ get_or words n 0
    = λ j n is within.
    ap (λ (part : List ℕ). get_or part j 0)
    (ap (λ (all : List (List ℕ)). get_or all k []) c.as_chunks.ensures.front ∙ part _ k words (omega arith))
    ∙ get_or-chunk (8 * k) 8 words j 0 within
    ∙ ap (λ (n : ℕ). get_or words n 0) is in
    λ p. record {
      kl1 = word 0 (8 * k) (omega arith) (lit< tt) p;
      kl2 = word 1 (8 * k + 1) refl (lit< tt) p;
      ko1 = word 2 (8 * k + 2) refl (lit< tt) p;
      ko2 = word 3 (8 * k + 3) refl (lit< tt) p;
      ko3 = word 4 (8 * k + 4) refl (lit< tt) p;
      ki1 = word 5 (8 * k + 5) refl (lit< tt) p;
      ki2 = word 6 (8 * k + 6) refl (lit< tt) p;
      ki3 = word 7 (8 * k + 7) refl (lit< tt) p;
    }
