-- `milenage::strings::Challenge::out1` meets its contract: the round keys are those of the key, so the encryptions are AES under it.
-- Assumes nothing.
use mathlib.Core.Path.{ap, ap₂, ◌∙◌}
use mathlib.Core.List.{List}
use Prim.Native.Nat.{ℕ}
use Rattle.octets.specs.Xor.{xored}
use Rattle.aes.specs.Aes.{cipher, aes}
use Rattle.milenage.specs.Milenage.{fixed1, constant_octets, turned, temp, out1}
use Rattle.milenage.proofs.strings.Challenge.out1.Goals as goal

pub returns : goal.returns
unfolding aes fixed1 temp out1
returns c sqn amf input =
    let given = c.args.self.now in
    let opc : List ℕ = given.opc.now in
    let keys = c.round_keys-words.ensures in
    c.last.ensures
    ∙ ap₂ (λ (words string : List ℕ). xored (cipher words (xored string (constant_octets fixed1.constant))) opc) keys
    (c.xor-string.ensures
    ∙ ap₂ xored (c.temp.ensures ∙ ap (λ (words : List ℕ). cipher words (xored given.rand.now opc)) keys)
    (c.turned-turned.ensures ∙ ap (turned fixed1.rotation) (c.xor.ensures ∙ ap (λ (string : List ℕ). xored string opc) input)))
