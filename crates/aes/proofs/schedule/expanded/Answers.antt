-- `aes::schedule::expanded` meets its contract. The invariant of its loop: the first i words stand at the front, and the last of them is at hand.
-- Assumes nothing.
use Prim.Native.Nat.{ℕ, ◌+◌, ◌-◌}
use native.Mathlib.Omega.{arith}
use mathlib.Core.Path.{◌≡◌, refl, sym, ap, ◌∙◌}
use mathlib.Core.List.{List}
use lib.ListN.{length, get_or, set, replicate}
use lib.Seq.{get_or-set_same}
use Rattle.octets.proofs.Listed.{length_front}
use Rattle.aes.specs.Aes.{expanded}
use Rattle.aes.proofs.Expansion.{length-expanded, word_put}
use Rattle.aes.proofs.schedule.expanded.Goals as goal

pub loop-i-init : goal.loop-i-init
unfolding expanded
loop-i-init c = (refl, refl)

pub loop-i-preserved : goal.loop-i-preserved
loop-i-preserved c =
    let key : List ℕ = c.args.key.now in
    let words : List ℕ = c.loop-i.words in
    let i : ℕ = c.loop-i.i in
    let next : ℕ = c.next_word-before.result in
    let long : length words ≡ 44 =
    ap length c.loop-i.invariant.0 ∙ length_front (expanded key i) (replicate 44 0) i (length-expanded key i) (omega arith) in
    let last : i + 1 - 1 ≡ i = omega arith in (
      word_put key (replicate 44 0) words i next (omega arith) c.loop-i.invariant.0 c.next_word-before.ensures,
      sym (ap (λ (k : ℕ). get_or (set words i next) k 0) last ∙ get_or-set_same words i next 0 (omega arith)),
    )
