-- `pair::chain::code` meets its contract. The loop's invariant: `a` and `b` are A and B after n blocks.
-- Assumes nothing.
use Prim.Native.Nat.{ℕ, zero, suc, ◌+◌, ◌^◌, ◌<◌}
use native.Mathlib.Decide.{dec_lt}
use native.Mathlib.Numerals.{add-one}
use native.Mathlib.Omega.{arith}
use mathlib.Core.Path.{◌≡◌, refl, sym, ap, ap₂, subst, ◌∙◌}
use mathlib.Core.List.{List}
use lib.Bits.{bit_xor, xor_lt}
use lib.Dec.{lit<}
use lib.ListN.{length, get_or, replicate, get_or-eq_default}
use Rattle.octets.specs.Octets.{AreOctets}
use Rattle.octets.specs.Xor.{xored}
use Rattle.octets.proofs.Listed.{get_or-listed}
use Rattle.octets.proofs.Xored.{length-xored}
use Rattle.kasumi.specs.Kasumi.{left, kasumi}
use Rattle.kasumi.specs.Lent.{ciphered_by}
use Rattle.kgcore.proofs.Keys.{keys_there, ciphers}
use Rattle.pair.specs.F9.{padded, block_of, chained, gathered, modifier, code_of, f9_code}
use Rattle.pair.proofs.Padded.{length-padded}
use Rattle.pair.proofs.chain.code.Goals.{At-loop-n}
use Rattle.pair.proofs.chain.code.Goals as goal

-- A and B after one block more
chained_next : (key string : List ℕ) (n : ℕ) → chained key string (n + 1) ≡ kasumi key (bit_xor (chained key string n) (block_of string n))
unfolding chained
chained_next key string n = rw (add-one n)

gathered_next : (key string : List ℕ) (n : ℕ) → gathered key string (n + 1) ≡ bit_xor (gathered key string n) (chained key string (n + 1))
unfolding gathered
gathered_next key string n = rw (add-one n)

modifier_octets : (n i : ℕ) → get_or (replicate n 0xAA) i 0 < 256
modifier_octets zero i = lit< tt
modifier_octets (suc n) zero = lit< tt
modifier_octets (suc n) (suc i) = modifier_octets n i

-- the key xor KM is octets, as the key is
modified_octets : (key : List ℕ) → AreOctets key → AreOctets (xored key modifier)
unfolding xored modifier
modified_octets key each i =
    elim (dec_lt i (length key)) [
      | yes inside ↦
          subst (λ (x : ℕ). x < 256) (sym (get_or-listed (λ k. bit_xor (get_or key k 0) (get_or modifier k 0)) (length key) i 0 inside))
          (xor_lt 8 (get_or key i 0) (get_or modifier i 0) (each i) (modifier_octets 16 i))
      | no outside ↦
          subst (λ (x : ℕ). x < 256) (sym (get_or-eq_default (xored key modifier) 0 {n = i} (omega (arith, length-xored key modifier)))) (lit< tt)
    ]

-- where the round keys are prepared, and the start
abbrev key : At-loop-n → List ℕ
key c = c.args.key.now

abbrev string : At-loop-n → List ℕ
string c = padded c.args.string.inputs c.args.string.message.octets.now c.args.string.message.bits

-- by the table and the round keys of the key, the cipher is KASUMI under the key
under_key : (c : At-loop-n) (x : ℕ) → x < 2 ^ 64
    → ciphered_by c.fi_table-table.result c.unwrap-words.result x ≡ kasumi (key c) x
under_key c = ciphers _ _ c.round_keys.ensures (omega arith) c.fi_table-table.ensures c.unwrap-words.ensures (λ i. c.fits-key i)

-- and by those of the modified key, KASUMI under that
under_modified : (c : At-loop-n) (x : ℕ) → x < 2 ^ 64
    → ciphered_by c.fi_table-table.result c.unwrap-last.result x ≡ kasumi (xored (key c) modifier) x
under_modified c x fits =
    ciphers _ _ c.round_keys-2.ensures (omega arith) c.fi_table-table.ensures c.unwrap-last.ensures
    (subst AreOctets (sym c.modified.ensures) (modified_octets (key c) (λ i. c.fits-key i))) x fits
    ∙ ap (λ (k : List ℕ). kasumi k x) c.modified.ensures

pub unwrap-words-requires : goal.unwrap-words-requires
unwrap-words-requires c = keys_there _ _ c.round_keys.ensures (omega arith)

pub unwrap-last-requires : goal.unwrap-last-requires
unwrap-last-requires c = keys_there _ _ c.round_keys-2.ensures (omega arith)

pub loop-n-init : goal.loop-n-init
unfolding chained gathered
loop-n-init c = record { a_is = refl; b_is = refl }

pub loop-n-preserved : goal.loop-n-preserved
loop-n-preserved c =
    let at : At-loop-n = (goal.at.loop-n-preserved c).At-loop-n in
    let n : ℕ = c.loop-n.n in
    let block : ℕ = c.block.result in
    let x : ℕ = bit_xor c.loop-n.a block in
    let fits : x < 2 ^ 64 = xor_lt 64 c.loop-n.a block (omega arith) (omega arith) in
    let next : c.cipher_block-a.result ≡ chained (key at) (string at) (n + 1) =
    c.cipher_block-a.ensures
    ∙ under_key at x fits
    ∙ ap₂ (λ (a block : ℕ). kasumi (key at) (bit_xor a block)) c.loop-n.invariant.a_is c.block.ensures
    ∙ sym (chained_next (key at) (string at) n) in
    record {
      a_is = next;
      b_is = ap₂ bit_xor c.loop-n.invariant.b_is next ∙ sym (gathered_next (key at) (string at) n);
    }

pub returns : goal.returns
unfolding f9_code code_of
returns c =
    let at : At-loop-n = (goal.at.returns c).At-loop-n in
    let inputs = c.args.string.inputs in
    let message : List ℕ = c.args.string.message.octets.now in
    let bits : ℕ = c.args.string.message.bits in
    ap (left 32)
    (c.cipher_block.ensures
    ∙ under_modified at c.loop-n.b (omega arith)
    ∙ ap (kasumi (xored (key at) modifier))
    (c.loop-n.invariant.b_is ∙ ap (gathered (key at) (string at)) (omega (arith, c.blocks-n-end.ensures, length-padded inputs message bits))))
