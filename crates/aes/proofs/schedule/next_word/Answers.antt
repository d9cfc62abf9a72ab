-- `aes::schedule::next_word` meets its contract: the three kinds of words.
-- Assumes nothing.
use borrow.Author.Tests.{lt-ltb, le-ltb, eq-eqb, ne_eqb}
use Prim.Native.Nat.{ℕ, ◌-◌, ◌%◌}
use mathlib.Core.Path.{ap, ap₂, ◌∙◌}
use lib.Bits.{bit_xor}
use lib.ListN.{get_or}
use Rattle.aes.specs.Aes.{sub_word, rot_word, next_word}
use Rattle.aes.proofs.schedule.next_word.Goals as goal

pub returns-then-i-lt4 : goal.returns-then-i-lt4
unfolding next_word
returns-then-i-lt4 c = rw (lt-ltb _ 4 c.if-i-lt4.true) c.word_at.ensures

pub returns-then-i-eq0 : goal.returns-then-i-eq0
unfolding next_word
returns-then-i-eq0 c =
    let given = c.args in
    rw (le-ltb given.i 4 c.if-i-lt4.false, eq-eqb (given.i % 4) 0 c.if-i-eq0.true)
    (ap (bit_xor (get_or given.words.now (given.i - 4) 0))
    (ap₂ bit_xor (c.sub_rotated.ensures ∙ ap (λ (w : ℕ). sub_word (rot_word w)) c.requires.before_value) c.round_constant.ensures))

pub returns : goal.returns
unfolding next_word
returns c =
    let given = c.args in
    rw (le-ltb given.i 4 c.if-i-lt4.false, ne_eqb (given.i % 4) 0 c.if-i-eq0.false)
    (ap (bit_xor (get_or given.words.now (given.i - 4) 0)) c.requires.before_value)
