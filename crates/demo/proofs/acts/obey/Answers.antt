-- `demo::acts::obey` meets its contract: what the line asks for is done.
-- Assumes nothing.
use Prim.Native.Nat.{ℕ}
use lib.ListN.{length, length-drop}
use mathlib.Core.List.{List}
use mathlib.Core.Path.{◌≡◌, refl, sym, ap, subst, ◌∙◌}
use native.Mathlib.Omega.{arith}
use Rattle.std.specs.Prelude.{Ok}
use Rattle.script.specs.declared.kinds.Asked.{Asked}
use Rattle.script.proofs.Lines.{Possible, asked_possible}
use Rattle.demo.specs.declared.play.Stage.{Stage}
use Rattle.demo.specs.Acts.{passing, keeping, noising, done_for, obeyed}
use Rattle.demo.proofs.Steps.{stepped_as, remarked, nothing_done, rest_from}
use Rattle.demo.proofs.acts.obey.Goals.{In-Ok}
use Rattle.demo.proofs.acts.obey.Goals as goal

abbrev stage : In-Ok → Stage
stage c = c.args.stage.now

abbrev line : In-Ok → List ℕ
line c = c.args.line.now

-- what the line asks for is possible, and is what is to be done
possible : (c : In-Ok) {what : Asked} → c.in-Ok.what ≡ what → Possible (line c) (Ok what)
possible c told =
    subst (Possible (line c)) (sym c.asked.ensures ∙ c.in-Ok.is ∙ ap (λ (w : Asked). Ok w) told) (asked_possible (line c))

step : (c : In-Ok) {what : Asked} → c.in-Ok.what ≡ what → done_for (stage c) (line c) (Ok what) ≡ obeyed (stage c) (line c)
unfolding obeyed
step c told = ap (done_for (stage c) (line c)) (sym (ap (λ (w : Asked). Ok w) told) ∙ sym c.in-Ok.is ∙ c.asked.ensures)

pub remark-requires : goal.remark-requires
remark-requires c = possible (goal.at.remark-requires c).In-Ok c.in-Remark.is

pub lose-requires : goal.lose-requires
lose-requires c = possible (goal.at.lose-requires c).In-Ok c.in-Lose.is

pub keep-requires : goal.keep-requires
keep-requires c = possible (goal.at.keep-requires c).In-Ok c.in-Keep.is

pub give-requires : goal.give-requires
give-requires c = possible (goal.at.give-requires c).In-Ok c.in-Give.is

pub noise-requires : goal.noise-requires
noise-requires c =
    omega (arith, possible (goal.at.noise-requires c).In-Ok c.in-Noise.is, ap length (rest_from _ _ _ _ c.get-in-Noise.ensures.lookup refl c.unwrap_or-in-Noise.ensures) ∙ length-drop 6 (line (goal.at.noise-requires c).In-Ok))

pub store_phone-requires : goal.store_phone-requires
store_phone-requires c = possible (goal.at.store_phone-requires c).In-Ok c.in-StorePhone.is

pub returns-in-Remark-clause-step : goal.returns-in-Remark-clause-step
returns-in-Remark-clause-step c = stepped_as (step (goal.at.returns-in-Remark-clause-step c).In-Ok c.in-Remark.is) (remarked _ _ c.remark.ensures)

pub returns-in-Pass-clause-step : goal.returns-in-Pass-clause-step
returns-in-Pass-clause-step c =
    stepped_as (ap (passing (stage (goal.at.returns-in-Pass-clause-step c).In-Ok)) (rest_from _ _ _ _ c.get.ensures.lookup refl c.unwrap_or.ensures) ∙ step (goal.at.returns-in-Pass-clause-step c).In-Ok c.in-Pass.is) c.pass.ensures

pub returns-in-Lose-clause-step : goal.returns-in-Lose-clause-step
returns-in-Lose-clause-step c = stepped_as (step (goal.at.returns-in-Lose-clause-step c).In-Ok c.in-Lose.is) c.lose.ensures

pub returns-in-Keep-clause-step : goal.returns-in-Keep-clause-step
returns-in-Keep-clause-step c =
    stepped_as (ap (keeping (stage (goal.at.returns-in-Keep-clause-step c).In-Ok) c.in-Keep.k) (rest_from _ _ _ _ c.get-in-Keep.ensures.lookup refl c.unwrap_or-in-Keep.ensures) ∙ step (goal.at.returns-in-Keep-clause-step c).In-Ok c.in-Keep.is) c.keep.ensures

pub returns-in-Give-clause-step : goal.returns-in-Give-clause-step
returns-in-Give-clause-step c = stepped_as (step (goal.at.returns-in-Give-clause-step c).In-Ok c.in-Give.is) c.give.ensures

pub returns-in-Noise-clause-step : goal.returns-in-Noise-clause-step
returns-in-Noise-clause-step c =
    stepped_as (ap (noising (stage (goal.at.returns-in-Noise-clause-step c).In-Ok)) (rest_from _ _ _ _ c.get-in-Noise.ensures.lookup refl c.unwrap_or-in-Noise.ensures) ∙ step (goal.at.returns-in-Noise-clause-step c).In-Ok c.in-Noise.is) c.noise.ensures

pub returns-in-StorePhone-clause-step : goal.returns-in-StorePhone-clause-step
returns-in-StorePhone-clause-step c = stepped_as (step (goal.at.returns-in-StorePhone-clause-step c).In-Ok c.in-StorePhone.is) c.store_phone.ensures

pub returns-in-TellPhone-clause-step : goal.returns-in-TellPhone-clause-step
returns-in-TellPhone-clause-step c = stepped_as (step (goal.at.returns-in-TellPhone-clause-step c).In-Ok c.in-TellPhone.is) c.tell_phone.ensures

pub returns-in-CutPhone-clause-step : goal.returns-in-CutPhone-clause-step
returns-in-CutPhone-clause-step c = stepped_as (step (goal.at.returns-in-CutPhone-clause-step c).In-Ok c.in-CutPhone.is) c.cut_phone.ensures

pub returns-in-RestartPhone-clause-step : goal.returns-in-RestartPhone-clause-step
returns-in-RestartPhone-clause-step c = stepped_as (step (goal.at.returns-in-RestartPhone-clause-step c).In-Ok c.in-RestartPhone.is) c.restart_phone.ensures

pub returns-in-StoreCell-clause-step : goal.returns-in-StoreCell-clause-step
returns-in-StoreCell-clause-step c = stepped_as (step (goal.at.returns-in-StoreCell-clause-step c).In-Ok c.in-StoreCell.is) c.store_cell.ensures

pub returns-in-CutCell-clause-step : goal.returns-in-CutCell-clause-step
returns-in-CutCell-clause-step c = stepped_as (step (goal.at.returns-in-CutCell-clause-step c).In-Ok c.in-CutCell.is) c.cut_cell.ensures

pub returns-in-RestartCell-clause-step : goal.returns-in-RestartCell-clause-step
returns-in-RestartCell-clause-step c = stepped_as (step (goal.at.returns-in-RestartCell-clause-step c).In-Ok c.in-RestartCell.is) c.restart_cell.ensures

pub returns-in-Err-clause-step : goal.returns-in-Err-clause-step
unfolding obeyed
returns-in-Err-clause-step c =
    stepped_as (ap (done_for c.args.stage.now c.args.line.now) (sym c.in-Err.is ∙ c.asked.ensures)) (nothing_done _ _ c.nothing.ensures)
