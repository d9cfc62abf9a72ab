-- `challenge::texts::put_results` meets its contract: one after the other.
-- Assumes nothing.
use Rattle.std.proofs.Common.{rules}
use Prim.Native.Nat.{◌≤◌}
use lib.ListN.{length}
use mathlib.Core.List.{[], ◌∷◌}
use mathlib.Core.Path.{◌≡◌}
use native.Mathlib.Omega.{arith}
use Rattle.challenge.specs.Texts.{name_opc, name_res, name_ck, name_ik, name_ak}
use Rattle.challenge.proofs.Named.{length_two, results_put}
use Rattle.challenge.proofs.texts.put_results.Goals.{After-add_two-ak_at, After-add_two-ck_at, Start}
use Rattle.challenge.proofs.texts.put_results.Goals as goal

-- the places of the values
sizes : (c : Start) → (length c.args.results.res ≡ 8) × (length c.args.results.ck ≡ 16) × (length c.args.results.ik ≡ 16) × (length c.args.results.ak ≡ 6)
sizes c = (search rules, search rules, search rules, search rules)

-- where OPc and RES stand, and where they end
module _ (c : After-add_two-ck_at) where
  res_ends : c.add_two-ck_at.result ≡ 57
  res_ends = omega (arith, c.requires.0, (sizes (goal.at.After-add_two-ck_at c).Start).0, c.add_two-ck_at.ensures.end_is, length_two (79 ∷ 80 ∷ 99 ∷ 32 ∷ []) c.args.opc.now (32 ∷ 82 ∷ 69 ∷ 83 ∷ 32 ∷ []) c.args.results.res)

  res_room : 145 ≤ length c.add_two-ck_at.new.output
  res_room = omega (arith, c.requires.1, c.add_two-ck_at.auto.output)

-- and CK and IK after them
module _ (c : After-add_two-ak_at) where
  ik_ends : c.add_two-ak_at.result ≡ 129
  ik_ends =
      let results = c.args.results in
      omega (arith, (sizes (goal.at.After-add_two-ak_at c).Start).1, (sizes (goal.at.After-add_two-ak_at c).Start).2, res_ends (goal.at.After-add_two-ak_at c).After-add_two-ck_at, c.add_two-ak_at.ensures.end_is, length_two (32 ∷ 67 ∷ 75 ∷ 32 ∷ []) results.ck (32 ∷ 73 ∷ 75 ∷ 32 ∷ []) results.ik)

pub add_two-ak_at-requires : goal.add_two-ak_at-requires
add_two-ak_at-requires c =
    omega (arith, res_ends (goal.at.add_two-ak_at-requires c).After-add_two-ck_at, res_room (goal.at.add_two-ak_at-requires c).After-add_two-ck_at, (sizes (goal.at.add_two-ak_at-requires c).Start).1, (sizes (goal.at.add_two-ak_at-requires c).Start).2)

pub add_named-requires : goal.add_named-requires
add_named-requires c =
    omega (arith, ik_ends (goal.at.add_named-requires c).After-add_two-ak_at, res_room (goal.at.add_named-requires c).After-add_two-ck_at, c.add_two-ak_at.auto.output, (sizes (goal.at.add_named-requires c).Start).3)

pub returns : goal.returns
unfolding name_opc name_res name_ck name_ik name_ak
returns c =
    let given = c.args in
    results_put given.opc.now given.results.res given.results.ck given.results.ik given.results.ak
    c.add_two-ck_at.ensures c.add_two-ak_at.ensures c.add_named.ensures
