-- `demo::acts::noise` meets its contract: pairs of hex digits are octets, and they are the ones handed.
-- Assumes nothing.
use Prim.Native.Nat.{◌≤◌}
use lib.ListN.{length, take}
use lib.Seq.{length-take-le}
use mathlib.Core.Path.{refl, sym, ◌∙◌}
use Rattle.refusals.proofs.Number.{number_some}
use Rattle.lines.specs.Text.{hex_order, hex_octets}
use Rattle.lines.proofs.Callers.{put_within}
use Rattle.script.specs.declared.kinds.Why.TheVariants.{Hex}
use Rattle.script.specs.Quoted.{quoted}
use Rattle.demo.specs.Columns.{column, phone_columns}
use Rattle.demo.specs.Acts.{handed_with, handing}
use Rattle.demo.proofs.Steps.{stepped_as, nothing_done, noise_none, noise_some}
use Rattle.demo.proofs.acts.noise.Goals.{In-Ok}
use Rattle.demo.proofs.acts.noise.Goals as goal

-- the octets are within the room that was lent
within : (c : In-Ok) → c.in-Ok.count ≤ length c.octets_of_hex.new.output
within c = put_within (hex_order c.args.text.now _) (hex_octets c.args.text.now) _ c.in-Ok.ensures

pub returns-in_default : goal.returns-in_default
returns-in_default c =
    let stage = c.args.stage.now in
    stepped_as (noise_none stage c.args.text.now c.requires _ refl c.in_default.ensures (number_some c.in_default.field-0)) (nothing_done stage Hex c.nothing.ensures)

pub slice_bounds-octets-end : goal.slice_bounds-octets-end
slice_bounds-octets-end c = within (goal.at.slice_bounds-octets-end c).In-Ok

pub slice_bounds-hand-end : goal.slice_bounds-hand-end
slice_bounds-hand-end c = sym (length-take-le _ _ (within (goal.at.slice_bounds-hand-end c).In-Ok))

pub returns : goal.returns
unfolding handing phone_columns column
returns c =
    let stage = c.args.stage.now in
    stepped_as
    ((λ i. handed_with stage (column (quoted "-")) (c.column.ensures i) (take c.in-Ok.count c.octets_of_hex.new.output))
    ∙ noise_some stage c.args.text.now c.requires _ refl c.in-Ok.ensures refl)
    c.hand.ensures
