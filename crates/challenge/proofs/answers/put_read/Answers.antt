-- `challenge::answers::put_read` meets its contract: each value is what its field writes.
-- Assumes nothing.
use Prim.Native.Nat.{ℕ}
use mathlib.Core.List.{List}
use mathlib.Core.Path.{sym}
use Rattle.refusals.proofs.Within.{Within, front_within}
use Rattle.lines.specs.Text.{AtFront}
use Rattle.lines.proofs.Placed.{written_text}
use Rattle.challenge.proofs.Known.{given_by_lem}
use Rattle.challenge.proofs.answers.put_read.Goals as goal

-- what is put lies within the array
within : {text before : List ℕ} {size : ℕ} {after : List ℕ} → AtFront text before size after → Within size after
within {text} {before} put = front_within text before put.written_is put.output_is

pub slice_bounds-key-end : goal.slice_bounds-key-end
slice_bounds-key-end c = (within c.put_value-key_size.ensures).0

pub slice_bounds-given-end : goal.slice_bounds-given-end
slice_bounds-given-end c = (within c.put_value-key_size.ensures).1

pub slice_bounds-operator-end : goal.slice_bounds-operator-end
slice_bounds-operator-end c = (within c.put_value-operator_size.ensures).0

pub slice_bounds-given-end-2 : goal.slice_bounds-given-end-2
slice_bounds-given-end-2 c = (within c.put_value-operator_size.ensures).1

pub slice_bounds-rand-end : goal.slice_bounds-rand-end
slice_bounds-rand-end c = (within c.put_value-rand_size.ensures).0

pub slice_bounds-given-end-3 : goal.slice_bounds-given-end-3
slice_bounds-given-end-3 c = (within c.put_value-rand_size.ensures).1

pub slice_bounds-sqn-end : goal.slice_bounds-sqn-end
slice_bounds-sqn-end c = (within c.put_value-sqn_size.ensures).0

pub slice_bounds-given-end-4 : goal.slice_bounds-given-end-4
slice_bounds-given-end-4 c = (within c.put_value-sqn_size.ensures).1

pub slice_bounds-amf-end : goal.slice_bounds-amf-end
slice_bounds-amf-end c = (within c.put_value-amf_size.ensures).0

pub slice_bounds-given-end-5 : goal.slice_bounds-given-end-5
slice_bounds-given-end-5 c = (within c.put_value-amf_size.ensures).1

pub returns : goal.returns
returns c =
    let line = c.args.line.now in
    rw (sym (given_by_lem line
    c.gives_op.ensures
    c.count_fields.ensures
    (written_text c.put_value-key_size.ensures)
    (written_text c.put_value-operator_size.ensures)
    (written_text c.put_value-rand_size.ensures)
    (written_text c.put_value-sqn_size.ensures)
    (written_text c.put_value-amf_size.ensures)))
    c.put_given.ensures
