-- `pair::put_ciphered` meets its contract: KGCORE refuses nothing here, the octets of the message xor its output are put, and the spare bits of the last
-- octet are cleared.
-- Assumes nothing.
use Prim.Native.Nat.{ℕ, ◌+◌, ◌-◌, ◌<◌}
use native.Mathlib.Omega.{arith}
use mathlib.Core.Path.{◌≡◌, refl, sym, ap, ap₂, ◌∙◌}
use mathlib.Core.List.{List, ◌++◌}
use lib.Bits.{bit_xor, xor_lt}
use lib.ListN.{get_or, drop, set, replicate}
use lib.Seq.{length-take-le}
use Rattle.refusals.specs.Call.{front}
use Rattle.refusals.proofs.Number.{is_ok}
use Rattle.octets.proofs.Xored.{xor_done}
use Rattle.octets.specs.Bits.{bit_at, bit_of, part, octet, listed, size}
use Rattle.octets.proofs.Listed.{get_or-listed_front}
use Rattle.octets.proofs.Stored.{part_in, part_lt, bit_of_lt, stored_cleared, stored_ext, front_stored}
use Rattle.octets.proofs.XoredBits.{xor_put}
use Rattle.kgcore.specs.Kgcore.{key_bit}
use Rattle.kgcore.proofs.Laws.{kgcore_done, key_bit_lt}
use Rattle.pair.specs.F8.{f8_core, f8_bit, f8_output}
use Rattle.pair.proofs.put_ciphered.Goals.{After-xor}
use Rattle.pair.proofs.put_ciphered.Goals as goal

abbrev key : After-xor → List ℕ
key c = c.args.key.now

abbrev message : After-xor → List ℕ
message c = c.args.message.octets.now

abbrev before : After-xor → List ℕ
before c = c.args.output.now

abbrev bits : After-xor → ℕ
bits c = c.args.message.bits

-- bit i of the message xor the keystream, or past the last bit the message's own
abbrev bit : After-xor → ℕ → ℕ
bit c i = bit_xor (bit_of (message c) i) (part (key_bit (key c) (f8_core c.args.inputs)) 0 (bits c) i)

-- the octets of these bits stand at the front of the output
put : (c : After-xor) → c.xor.new.output ≡ listed (octet (bit c)) (size (bits c)) ++ drop (size (bits c)) (before c)
unfolding f8_core front size
put c =
    let inputs = f8_core c.args.inputs in
    let stream = kgcore_done inputs (key c) (bits c) (replicate 2500 0) (rw c.into.ensures at c.kgcore.ensures) (omega arith) (omega arith) (omega arith) (omega arith) (omega arith) (omega arith) in
    xor_put (message c) (key_bit (key c) inputs) (bits c) c.size-size.result _ _ (before c) c.xor.ensures c.size-size.ensures stream.1 c.args.message.each (key_bit_lt (key c) inputs) (omega arith) (omega arith)

-- there is a last octet
some : (c : After-xor) → 0 < size (bits c)
unfolding size
some c = omega arith

pub unwrap-requires : goal.unwrap-requires
unfolding f8_core size
unwrap-requires c =
    is_ok c.kgcore.result
    (kgcore_done (f8_core c.args.inputs) c.args.key.now c.args.message.bits (replicate 2500 0) (rw c.into.ensures at c.kgcore.ensures) (omega arith) (omega arith) (omega arith) (omega arith) (omega arith) (omega arith)).0

pub unwrap-requires-2 : goal.unwrap-requires-2
unwrap-requires-2 c = is_ok c.xor.result (xor_done _ _ _ c.xor.ensures (omega (arith, length-take-le {A = ℕ}))).0

pub returns : goal.returns
unfolding f8_output f8_bit
returns c =
    let at : After-xor = (goal.at.returns c).After-xor in
    let n : ℕ = bits at in
    let last : ℕ = size n - 1 in
    let all = c.size-size.ensures in
    let key-bit : ℕ → ℕ = key_bit (key at) (f8_core c.args.inputs) in
    ap₂ (λ (l : List ℕ) (k : ℕ). set l (k - 1) c.first_bits.result) (put at) all
    ∙ stored_cleared (bit at) n (size n) c.first_bits.result (drop (size n) (before at))
    (λ i. xor_lt 1 (bit_of (message at) i) (part key-bit 0 n i) (bit_of_lt (message at) i) (part_lt key-bit 0 n (key_bit_lt (key at) (f8_core c.args.inputs)) i))
    (omega arith) refl
    (c.first_bits.ensures
    ∙ ap₂ (λ (whole left : ℕ). octet (part (bit_at 8 whole) 0 left) 0)
    (ap₂ (λ (l : List ℕ) (k : ℕ). get_or l (k - 1) 0) (put at) all
    ∙ get_or-listed_front (octet (bit at)) (drop (size n) (before at)) (size n) last 0 (omega (arith, some at)))
    (omega (arith, all)))
    ∙ ap (λ (l : List ℕ). l ++ drop (size n) (before at))
    (stored_ext (bit at) (f8_bit c.args.inputs (key at) (message at)) 0 0 n
    (λ i below. ap (bit_xor (bit_of (message at) (0 + i))) (ap (part key-bit 0 n) {y = i} (omega arith) ∙ part_in key-bit 0 n i below)))
    ∙ sym (front_stored (f8_bit c.args.inputs (key at) (message at)) 0 n (before at))
