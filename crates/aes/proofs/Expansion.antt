-- The words of the expanded key, one after the other.
-- Assumes nothing.
use Prim.Native.Nat.{ℕ, zero, suc, ◌+◌, ◌-◌, ◌/◌, ◌%◌, ◌≤◌, ◌<◌}
use native.Mathlib.Omega.{arith}
use native.Mathlib.Numerals.{add-one}
use mathlib.Core.Path.{◌≡◌, refl, ap, ap₂, ◌∙◌}
use mathlib.Core.Bool.{cond}
use mathlib.Core.List.{List, [], ◌∷◌, ◌++◌}
use borrow.Author.Tests.{ltb-false}
use lib.Bits.{bit_xor}
use lib.Dec.{eqb, ltb}
use lib.ListN.{length, get_or, set, drop, length-append, get_or-append}
use Rattle.refusals.proofs.Tests.{by-test}
use Rattle.octets.proofs.Listed.{front_store}
use Rattle.aes.specs.Aes.{sub_word, rot_word, rcon, next_word, expanded}

pub length-expanded : (key : List ℕ) (n : ℕ) → length (expanded key n) ≡ n
unfolding expanded
length-expanded key zero = refl
length-expanded key (suc n) =
    length-append (expanded key n) (next_word key (expanded key n) n ∷ []) ∙ add-one (length (expanded key n)) ∙ ap suc (length-expanded key n)

-- the next word goes by the words before it alone, whatever stands behind them
next_word_lem : (key rest : List ℕ) (i : ℕ) → next_word key (expanded key i ++ rest) i ≡ next_word key (expanded key i) i
unfolding next_word
next_word_lem key rest i =
    by-test (ltb i 4) (next_word key (expanded key i ++ rest) i ≡ next_word key (expanded key i) i)
    (λ early. rw early)
    (λ late.
    let from : 4 ≤ i = ltb-false i 4 late in
    let found : (k : ℕ) → k < i → get_or (expanded key i ++ rest) k 0 ≡ get_or (expanded key i) k 0 =
    λ k below. get_or-append (expanded key i) rest 0 k (rw length-expanded below) in
    rw late
    (ap₂ (λ (old before : ℕ). bit_xor old (cond (eqb (i % 4) 0) (bit_xor (sub_word (rot_word before)) (rcon (i / 4))) before))
    (found (i - 4) (omega arith))
    (found (i - 1) (omega arith))))

-- a loop that has put i words puts the next
pub word_put : (key before words : List ℕ) (i next : ℕ) → i < length before → words ≡ expanded key i ++ drop i before → next ≡ next_word key words i
    → set words i next ≡ expanded key (i + 1) ++ drop (i + 1) before
unfolding expanded
word_put key before words i next room is next_is =
    ap₂ (λ (l : List ℕ) (w : ℕ). set l i w) is (next_is ∙ ap (λ (l : List ℕ). next_word key l i) is ∙ next_word_lem key (drop i before) i)
    ∙ front_store (expanded key i) before i (next_word key (expanded key i) i) (length-expanded key i) room
    ∙ rw (add-one i)
