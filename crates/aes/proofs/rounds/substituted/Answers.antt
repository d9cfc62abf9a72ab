-- `aes::rounds::substituted` meets its contract: four octets through the S-box.
-- Assumes nothing.
use mathlib.Core.Path.{◌≡◌, ap, ◌∙◌}
use Rattle.aes.specs.SBox.{sbox}
use Rattle.aes.specs.Aes.{word, octet_of}
use Rattle.aes.specs.Columns.{column_of, gathered}
use Rattle.aes.proofs.FourOctets.{of_octets}
use Rattle.aes.proofs.rounds.substituted.Goals as goal

pub returns : goal.returns
unfolding column_of gathered
returns c =
    let given = c.args in
    let first : c.sbox.result ≡ sbox (octet_of given.a 0) = c.sbox.ensures ∙ ap sbox c.octet.ensures in
    let second : c.sbox-2.result ≡ sbox (octet_of given.b 1) = c.sbox-2.ensures ∙ ap sbox c.octet-2.ensures in
    let third : c.sbox-3.result ≡ sbox (octet_of given.c 2) = c.sbox-3.ensures ∙ ap sbox c.octet-3.ensures in
    let fourth : c.sbox-4.result ≡ sbox (octet_of given.d 3) = c.sbox-4.ensures ∙ ap sbox c.octet-4.ensures in
    c.from_be_bytes.ensures ∙ of_octets _ _ _ _ ∙ λ i. word (first i) (second i) (third i) (fourth i)
