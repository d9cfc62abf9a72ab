-- `aes::schedule::sub_rotated` meets its contract: four octets through the S-box, the first going last.
-- Assumes nothing.
use Prim.Native.Nat.{ℕ, ◌+◌, ◌%◌, ◌<◌}
use native.Mathlib.Nat.{mod-lt}
use mathlib.Core.Path.{◌≡◌, sym, ap, ◌∙◌}
use lib.Dec.{lit<}
use Rattle.aes.specs.SBox.{sbox}
use Rattle.aes.specs.Aes.{word, octet_of, sub_word, rot_word}
use Rattle.aes.proofs.FourOctets.{octet_word, of_octets}
use Rattle.aes.proofs.schedule.sub_rotated.Goals as goal

-- the octets of a rotated word
rotated : (w k : ℕ) → k < 4 → octet_of w ((k + 1) % 4) ≡ octet_of (rot_word w) k
unfolding rot_word
rotated w k below = sym (octet_word (λ (r : ℕ). octet_of w ((r + 1) % 4)) (λ r inside. mod-lt _ (lit< tt)) k below)

pub returns : goal.returns
unfolding sub_word
returns c =
    let w : ℕ = c.args.w in
    let first : c.sbox.result ≡ sbox (octet_of (rot_word w) 0) = c.sbox.ensures ∙ ap sbox (c.octet.ensures ∙ rotated w 0 (lit< tt)) in
    let second : c.sbox-2.result ≡ sbox (octet_of (rot_word w) 1) = c.sbox-2.ensures ∙ ap sbox (c.octet-2.ensures ∙ rotated w 1 (lit< tt)) in
    let third : c.sbox-3.result ≡ sbox (octet_of (rot_word w) 2) = c.sbox-3.ensures ∙ ap sbox (c.octet-3.ensures ∙ rotated w 2 (lit< tt)) in
    let fourth : c.sbox-4.result ≡ sbox (octet_of (rot_word w) 3) = c.sbox-4.ensures ∙ ap sbox (c.octet-4.ensures ∙ rotated w 3 (lit< tt)) in
    c.from_be_bytes.ensures ∙ of_octets _ _ _ _ ∙ λ i. word (first i) (second i) (third i) (fourth i)
