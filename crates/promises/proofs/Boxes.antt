-- The S-boxes. Assumes nothing.
use mathlib.Core.Path.{refl}
use Rattle.sboxes.proofs.SBoxes.{s7_gates_lem, s7_permutes, s9_gates_lem, s9_permutes}
use Rattle.aes.specs.Field.{product, remainder, ◌•◌}
use Rattle.aes.specs.SBox.{squares, inverse}
use Rattle.aes.proofs.SBox.{inverse_is, sbox_permutes}
use Rattle.promises.specs.Boxes.{KasumiBoxes, AesBox}

pub kasumi_boxes : KasumiBoxes
kasumi_boxes = record { s7_gates_lem = s7_gates_lem; s9_gates_lem = s9_gates_lem; s7_permutes = s7_permutes; s9_permutes = s9_permutes }

pub aes_box : AesBox
unfolding product remainder ◌•◌ squares inverse
aes_box = record { inverse_is = inverse_is; zero_to_zero = refl; permutes = sbox_permutes }
