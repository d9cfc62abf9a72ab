-- `stored::put_form` meets its contract: what stands before the words is put, and each turn of the loop puts the next word.
-- Assumes nothing.
use Rattle.std.proofs.Common.{rules}
use Prim.Native.Nat.{ℕ, ◌+◌, ◌*◌}
use native.Mathlib.Omega.{arith}
use mathlib.Core.Path.{◌≡◌, sym, ap, ap₂, ◌∙◌}
use mathlib.Core.List.{List, ◌++◌, append-nil}
use borrow.Rule.Slice.PartMut.{put_mid}
use lib.ListN.{length, get_or, drop}
use Rattle.refusals.specs.Call.{front}
use Rattle.stored.specs.Form.{quads}
use Rattle.stored.proofs.Places.{length-form}
use Rattle.stored.proofs.Writing.{pair_bytes, quad_bytes, head_put, word_put, up_to, all_put}
use Rattle.stored.proofs.put_form.Goals as goal

pub loop-k-init : goal.loop-k-init
unfolding quads
loop-k-init c =
    let given = c.args in
    let n : ℕ = length given.words.now in
    head_put given.link n given.output.now (search rules) (omega arith)
    (c.copy_from_slice.ensures.after ∙ c.to_be_bytes.ensures ∙ pair_bytes (23 + 4 * n) (omega arith))
    c.copy_from_slice-2.ensures.after
    (c.copy_from_slice-3.ensures.after ∙ c.to_be_bytes-2.ensures ∙ quad_bytes given.link.iov)
    ∙ simp append-nil

pub loop-k-preserved : goal.loop-k-preserved
loop-k-preserved c =
    let given = c.args in
    let words : List ℕ = given.words.now in
    let k : ℕ = c.loop-k.k in
    ap (λ (n : ℕ). put_mid (25 + 4 * k) n c.loop-k.output c.copy_from_slice-in-loop-k.new.self) {y = 4} (omega arith)
    ∙ word_put given.link words (search rules) given.output.now k (omega arith) c.loop-k.invariant
    (c.copy_from_slice-in-loop-k.ensures.after ∙ c.to_be_bytes-in-loop-k.ensures ∙ quad_bytes (get_or words k 0))

pub returns : goal.returns
unfolding front
returns c =
    let given = c.args in
    let words : List ℕ = given.words.now in
    let before : List ℕ = given.output.now in
    let sixteen : length given.link.key ≡ 16 = search rules in
    c.loop-k.invariant
    ∙ ap (λ (k : ℕ). up_to given.link words k ++ drop (25 + 4 * k) before) {y = length words} (omega arith)
    ∙ ap₂ (λ (l : List ℕ) (n : ℕ). l ++ drop n before) (all_put given.link words sixteen) (sym (length-form 1 given.link words sixteen))
