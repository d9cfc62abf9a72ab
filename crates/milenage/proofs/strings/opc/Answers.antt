-- `milenage::strings::opc` meets its contract: the round keys are those of the key, so the encryption is AES under it.
-- Assumes nothing.
use mathlib.Core.Path.{ap, ◌∙◌}
use mathlib.Core.List.{List}
use Prim.Native.Nat.{ℕ}
use Rattle.octets.specs.Xor.{xored}
use Rattle.aes.specs.Aes.{cipher, aes}
use Rattle.milenage.specs.Milenage.{opc_of}
use Rattle.milenage.proofs.strings.opc.Goals as goal

pub returns : goal.returns
unfolding aes opc_of
returns c =
    let op : List ℕ = c.args.op.now in
    c.xor.ensures
    ∙ ap (xored op) (c.encrypt_block-encrypted.ensures ∙ ap (λ (words : List ℕ). cipher words op) c.round_keys-words.ensures)
