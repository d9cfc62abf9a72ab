-- `kgcore::generate` meets its contract. The loop's invariant: `block` is block n, and the octets of the blocks so far stand at the front of
-- the output, as far as `size` goes. After the loop only the spare bits of the last octet are left to clear.
-- Assumes nothing.
use mathlib.Core.Path.{◌≡◌, refl, sym, ap, ap₂, subst, ◌∙◌}
use mathlib.Core.List.{List, ◌++◌}
use Prim.Native.Nat.{ℕ, ◌+◌, ◌-◌, ◌*◌, ◌^◌, ◌≤◌, ◌<◌, min}
use native.Mathlib.Omega.{arith}
use native.Mathlib.Nat.{zero-min}
use borrow.Rule.Slice.PartMut.{mid_of, put_mid, mid_len}
use lib.Bits.{bit_xor, xor_lt}
use lib.ListN.{length, get_or, drop, set}
use Rattle.octets.specs.Bits.{bit_at, part, octet, listed, size, stored}
use Rattle.octets.specs.Octets.{AreOctets}
use Rattle.octets.proofs.Number.{bit_at_lt}
use Rattle.octets.proofs.Listed.{length-listed_front, get_or-listed_front, listed_part}
use Rattle.octets.proofs.Stored.{stored_cleared}
use Rattle.kasumi.specs.Kasumi.{kasumi}
use Rattle.kasumi.specs.Lent.{ciphered_by}
use Rattle.kgcore.proofs.Keys.{keys_there, ciphers}
use Rattle.kgcore.specs.Kgcore
use Rattle.kgcore.specs.Kgcore.{blocks}
use Rattle.kgcore.proofs.Stream.{modified_octets, stream_bit, block_next, stream_octet}
use Rattle.kgcore.proofs.generate.Goals.{At-loop-n}
use Rattle.kgcore.proofs.generate.Goals as goal

-- block n + 1 from block n
block_after : (key : List ℕ) (a n old new : ℕ) → old ≡ Kgcore.block key a n → new ≡ kasumi key (bit_xor (bit_xor a n) old) → new ≡ Kgcore.block key a (n + 1)
block_after key a n old new is next = next ∙ ap (λ (x : ℕ). kasumi key (bit_xor (bit_xor a n) x)) is ∙ sym (block_next key a n)

-- a turn fills the front up to octet `at` + 8, or up to `size`
turn : (f g : ℕ → ℕ) (before old new : List ℕ) (at size : ℕ) → at ≤ size → size ≤ length before → old ≡ listed f at ++ drop at before
    → ((j : ℕ) → j < 8 → g j ≡ f (at + j))
    → (let part = mid_of at (size - at) old in let n = min 8 (length part) in new ≡ listed g n ++ drop n part)
    → put_mid at (size - at) old new ≡ listed f (at + min 8 (size - at)) ++ drop (at + min 8 (size - at)) before
turn f g before old new at size start end is same put =
    let left : ℕ = size - at in
    let long : size ≤ length old = rw (is, length-listed_front f before at (omega arith)) end in
    ap (put_mid at left old) (put ∙ ap (λ (n : ℕ). listed g (min 8 n) ++ drop (min 8 n) (mid_of at left old)) (mid_len at size old long))
    ∙ listed_part f g before old at (min 8 left) left is (λ j below. same j (omega arith)) (omega arith) (omega arith)

-- where the round keys are prepared, where the octets are counted, and the start
abbrev before : At-loop-n → List ℕ
before c = c.args.output.now

abbrev key : At-loop-n → List ℕ
key c = c.args.key.now

abbrev a : At-loop-n → ℕ
a c = c.cipher_block-a.result

-- how many octets are asked for
abbrev octets : At-loop-n → ℕ
octets c = c.size-size.result

-- the key is octets
each : (c : At-loop-n) (i : ℕ) → get_or (key c) i 0 < 256
each c i = c.fits-key i

-- the output with the first k octets of the blocks at its front
abbrev filled : At-loop-n → ℕ → List ℕ
filled c k = listed (octet (stream_bit (key c) (a c))) k ++ drop k (before c)

-- some are asked for
some : (c : At-loop-n) → 0 < c.args.cl
some c = omega arith

-- the output has room for them
room : (c : At-loop-n) → octets c ≤ length (before c)
room c = omega arith

-- the register has 64 bits
register_lt : (c : At-loop-n) → Kgcore.register c.args.inputs < 2 ^ 64
unfolding Kgcore.register
register_lt c = omega (arith, c.well_formed.0)

-- under the modified key the register becomes the register A
register_is : (c : At-loop-n) → a c ≡ Kgcore.register_a (key c) c.args.inputs
unfolding Kgcore.register_a
register_is c =
    c.cipher_block-a.ensures
    ∙ ap (ciphered_by c.fi_table-table.result c.unwrap-first.result) c.register.ensures
    ∙ ciphers _ _ c.round_keys.ensures (omega arith) c.fi_table-table.ensures c.unwrap-first.ensures (subst AreOctets (sym c.modified.ensures) (modified_octets (key c) (each c))) (Kgcore.register c.args.inputs) (register_lt c)
    ∙ ap (λ (k : List ℕ). kasumi k (Kgcore.register c.args.inputs)) c.modified.ensures

-- and under the key the next block is the cipher's
block_is : (c : At-loop-n)
    → let x = bit_xor (bit_xor (a c) c.loop-n.n) c.loop-n.block in
    ciphered_by c.fi_table-table.result c.unwrap-words.result x ≡ kasumi (key c) x
unfolding blocks
block_is c =
    let fits : bit_xor (a c) c.loop-n.n < 2 ^ 64 = xor_lt 64 (a c) c.loop-n.n (omega arith) (omega arith) in
    ciphers _ _ c.round_keys-2.ensures (omega arith) c.fi_table-table.ensures c.unwrap-words.ensures (each c) _ (xor_lt 64 _ c.loop-n.block fits (omega arith))

pub unwrap-first-requires : goal.unwrap-first-requires
unwrap-first-requires c = keys_there _ _ c.round_keys.ensures (omega arith)

pub unwrap-words-requires : goal.unwrap-words-requires
unwrap-words-requires c = keys_there _ _ c.round_keys-2.ensures (omega arith)

pub loop-n-init : goal.loop-n-init
unfolding Kgcore.block listed
loop-n-init c = record { block_is = refl; output_is = rw zero-min }

pub loop-n-preserved : goal.loop-n-preserved
unfolding blocks size
loop-n-preserved c =
    let at : At-loop-n = (goal.at.loop-n-preserved c).At-loop-n in
    let size_is = c.size-size.ensures in
    let n : ℕ = c.loop-n.n in
    let block : ℕ = c.cipher_block-block.result in
    let next = block_after (key at) (a at) n _ block c.loop-n.invariant.block_is (c.cipher_block-block.ensures ∙ block_is at) in
    record {
      block_is = next;
      output_is =
          turn (octet (stream_bit (key at) (a at))) (octet (bit_at 64 block)) (before at) c.loop-n.output _ (8 * n) (octets at) (omega arith) (room at)
          (c.loop-n.invariant.output_is ∙ ap (filled at) (omega arith))
          (λ j below. ap (λ (x : ℕ). octet (bit_at 64 x) j) next ∙ stream_octet (key at) (a at) n j below)
          c.put.ensures
          ∙ ap (filled at) (omega arith);
    }

pub returns : goal.returns
unfolding size Kgcore.key_bit blocks
returns c =
    let at : At-loop-n = (goal.at.returns c).At-loop-n in
    let size_is = c.size-size.ensures in
    let asked = some at in
    let cl : ℕ = c.args.cl in
    let bit : ℕ → ℕ = stream_bit (key at) (a at) in
    let last : ℕ = octets at - 1 in
    let x : ℕ = c.first_bits.result in
    let whole : c.loop-n.output ≡ filled at (octets at) = c.loop-n.invariant.output_is ∙ ap (filled at) (omega arith) in
    ap (λ (l : List ℕ). set l last x) whole
    ∙ stored_cleared bit cl (octets at) x (drop (octets at) (before at)) (λ i. bit_at_lt 64 _ _) (omega arith) (omega arith)
    (c.first_bits.ensures
    ∙ ap₂ (λ (y n : ℕ). octet (part (bit_at 8 y) 0 n) 0)
    (ap (λ (l : List ℕ). get_or l last 0) whole ∙ get_or-listed_front (octet bit) _ (octets at) last 0 (omega arith))
    (omega arith))
    ∙ ap₂ (λ (r k : ℕ). stored (stream_bit (key at) r) 0 cl ++ drop k (before at))
    (register_is at)
    c.size-size.ensures
