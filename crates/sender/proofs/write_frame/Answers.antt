-- `sender::write_frame` meets its contract: the header at the front, which is in range, and the ciphered payload in the part after it.
-- Assumes nothing.
use native.Mathlib.Omega.{arith}
use lib.ListN.{length-take, length-drop}
use Rattle.refusals.proofs.Number.{is_ok}
use Rattle.frames.proofs.Laws.{header_done}
use Rattle.link.specs.Link.{header_at}
use Rattle.link.proofs.Frames.{header_at_range}
use Rattle.link.proofs.Links.{cipher_done}
use Rattle.sender.proofs.Sealing.{frame_written}
use Rattle.sender.proofs.write_frame.Goals as goal

pub unwrap-requires : goal.unwrap-requires
unfolding header_at
unwrap-requires c =
    let given = c.args in
    let sizes = c.requires.payload_nonzero in
    is_ok _ (header_done (header_at given.link given.number) _ given.output.now c.put_header.ensures (header_at_range given.link given.number c.requires.link_value) sizes.0 sizes.1.0 (omega arith)).0

pub unwrap-requires-2 : goal.unwrap-requires-2
unwrap-requires-2 c =
    let given = c.args in
    let sizes = c.requires.payload_nonzero in
    is_ok _ (cipher_done given.link given.number given.payload.now _ c.cipher.ensures c.requires.link_value sizes.0 sizes.1.0 (simp (length-take, length-drop) (omega arith))).0

pub returns : goal.returns
unfolding header_at
returns c =
    let given = c.args in
    frame_written given.link given.number given.payload.now given.output.now _ _
    (rw c.unwrap.ensures at c.put_header.ensures).lent_is
    c.requires.payload_nonzero.1.1
    (rw c.unwrap-2.ensures at c.cipher.ensures).lent_is
