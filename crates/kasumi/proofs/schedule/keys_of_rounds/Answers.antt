-- `kasumi::schedule::keys_of_rounds` meets its contract. The invariant of its loop: the words of the first i rounds stand at the front.
-- Assumes nothing.
use Prim.Native.Nat.{ℕ, ◌+◌, ◌*◌, ◌≤◌, ◌<◌}
use mathlib.Core.Path.{◌≡◌, refl, sym, ap, ap₂, ◌∙◌}
use mathlib.Core.List.{List, ◌++◌}
use native.Mathlib.Omega.{arith}
use native.Mathlib.Numerals.{add-one}
use lib.ListN.{length, take, drop, replicate}
use lib.Seq.{sets, sets-eq, take_at, drop-append-add, drop-drop}
use Rattle.octets.proofs.Listed.{length_front}
use Rattle.kasumi.specs.Kasumi.{round_keys}
use Rattle.kasumi.specs.Lent.{words_of, round_words}
use Rattle.kasumi.specs.declared.schedule.Keys.{Keys}
use Rattle.kasumi.proofs.Lent.{length-round_words}
use Rattle.kasumi.proofs.schedule.keys_of_rounds.Goals as goal

-- the keys of one round more
one_more : (key before words : List ℕ) (i : ℕ) {keys : Keys} → length before ≡ 64 → i < 8 → words ≡ round_words key i ++ drop (8 * i) before → keys ≡ round_keys key (i + 1)
    → sets words (8 * i) (words_of keys) ≡ round_words key (i + 1) ++ drop (8 * (i + 1)) before
unfolding round_words
one_more key before words i {keys} long below is keys-are =
    let some : List ℕ = round_words key i in
    let rest : List ℕ = drop (8 * i) before in
    let room : 8 * i + 8 ≤ length words = rw (is, length_front some before (8 * i) (length-round_words key i) (omega arith)) (omega arith) in
    sets-eq (words_of keys) words (8 * i) room
    ∙ ap₂ (λ (front after : List ℕ). front ++ words_of keys ++ after)
    (ap (take (8 * i)) is ∙ take_at some rest (8 * i) (length-round_words key i))
    (ap (drop (8 * i + 8)) is
    ∙ ap (λ (k : ℕ). drop (k + 8) (some ++ rest)) (sym (length-round_words key i))
    ∙ drop-append-add some rest 8
    ∙ drop-drop 8 (8 * i) before
    ∙ ap (λ (k : ℕ). drop k before) {x = 8 * i + 8} {y = 8 * (i + 1)} (omega arith))
    ∙ ap (λ (k : Keys). some ++ words_of k ++ drop (8 * (i + 1)) before) keys-are
    ∙ rw (add-one i)

pub loop-i-init : goal.loop-i-init
unfolding round_words
loop-i-init c = refl

pub loop-i-preserved : goal.loop-i-preserved
loop-i-preserved c =
    c.put_keys.ensures
    ∙ one_more c.args.key.now (replicate 64 0) c.loop-i.words c.loop-i.i refl (omega arith) c.loop-i.invariant c.keys_of_round.ensures
