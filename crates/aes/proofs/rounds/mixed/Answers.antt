-- `aes::rounds::mixed` meets its contract: what is looked up is the entries of the four octets.
-- Assumes nothing.
use Prim.Native.Nat.{ℕ}
use mathlib.Core.Path.{◌≡◌, ap, ap₂, ◌∙◌}
use lib.Bits.{bit_xor}
use Rattle.std.specs.Int.{w32, rotate_right}
use Rattle.aes.specs.Aes.{octet_of}
use Rattle.aes.specs.Table.{entry_of}
use Rattle.aes.proofs.Mixing.{mixed_column}
use Rattle.aes.proofs.rounds.mixed.Goals as goal

pub returns : goal.returns
returns c =
    let given = c.args in
    let row0 : c.entry.result ≡ entry_of (octet_of given.a 0) = c.entry.ensures ∙ ap entry_of c.octet.ensures in
    let row1 : c.entry-2.result ≡ entry_of (octet_of given.b 1) = c.entry-2.ensures ∙ ap entry_of c.octet-2.ensures in
    let row2 : c.entry-3.result ≡ entry_of (octet_of given.c 2) = c.entry-3.ensures ∙ ap entry_of c.octet-3.ensures in
    let row3 : c.entry-4.result ≡ entry_of (octet_of given.d 3) = c.entry-4.ensures ∙ ap entry_of c.octet-4.ensures in
    ap₂ bit_xor
    (ap₂ bit_xor
    (ap₂ bit_xor row0 (c.rotate_right.ensures ∙ ap (λ (w : ℕ). rotate_right w32 w 8) row1))
    (c.rotate_right-2.ensures ∙ ap (λ (w : ℕ). rotate_right w32 w 16) row2))
    (c.rotate_right-3.ensures ∙ ap (λ (w : ℕ). rotate_right w32 w 24) row3)
    ∙ mixed_column given.a given.b given.c given.d
