-- `walk::walks::add_field` meets its contract: the text is put at the front of the part from the place on, and an octet after it.
-- Assumes nothing.
use Prim.Native.Nat.{ℕ, ◌+◌, ◌-◌, ◌<◌}
use lib.ListN.{length, take, drop, length-append}
use mathlib.Core.List.{List, [], ◌∷◌, ◌++◌}
use native.Mathlib.Omega.{arith}
use Rattle.lines.specs.Text.{Added}
use Rattle.lines.proofs.Callers.{unwrapped}
use Rattle.lines.proofs.Placed.{added_ok, added_put, added_octet, length_added}
use Rattle.walk.specs.Answer.{text_of, field}
use Rattle.walk.proofs.walks.add_field.Goals.{Start, After-unwrap}
use Rattle.walk.proofs.walks.add_field.Goals as goal

-- there is room for the text, and for the octet that ends it
fits : (c : Start) → c.args.place + length (text_of c.args.shown) < length c.args.output.now
unfolding field
fits c = omega (arith, c.requires, length-append (text_of c.args.shown) (c.args.ends ∷ []))

-- the text without that octet
module _ (c : After-unwrap) where
  -- the output then
  abbrev then : List ℕ
  then =
      let before = c.args.output.now in
      let place : ℕ = c.args.place in
      take place before ++ (c.put_shown.new.output ++ drop (length before - place) (drop place before))

  room : c.args.place + length (text_of c.args.shown) < length c.args.output.now
  room = fits (goal.at.After-unwrap c).Start

  put : Added (text_of c.args.shown) c.args.output.now c.args.place (c.args.place + c.unwrap.result) then
  put = added_put c.args.output.now c.args.place _ (unwrapped c.put_shown.ensures c.unwrap.ensures) (omega (arith, room))

  -- where it ends
  end_within : c.args.place + c.unwrap.result < length c.args.output.now
  end_within = omega (arith, room, put.end_is)

pub unwrap-requires : goal.unwrap-requires
unwrap-requires c =
    added_ok c.args.output.now c.args.place (text_of c.args.shown) _ c.put_shown.ensures (omega (arith, fits (goal.at.unwrap-requires c).Start))

pub overflow_add-end : goal.overflow_add-end
overflow_add-end c = omega (arith, end_within (goal.at.overflow_add-end c).After-unwrap)

pub bounds-output-end : goal.bounds-output-end
bounds-output-end c =
    let at = (goal.at.bounds-output-end c).After-unwrap in
    omega (arith, end_within at, length_added (put at) (omega (arith, room at)))

pub overflow_add-result : goal.overflow_add-result
overflow_add-result c = omega (arith, end_within (goal.at.overflow_add-result c).After-unwrap)

pub returns : goal.returns
unfolding field
returns c = added_octet c.args.ends (put (goal.at.returns c).After-unwrap) (end_within (goal.at.returns c).After-unwrap)
