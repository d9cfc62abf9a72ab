-- `stream::requests::put_text` meets its contract: a line not of the form has `?`, a refused request the refusal's number, and any other the hex of its octets.
-- Assumes nothing.
use Prim.Native.Nat.{ℕ}
use lib.ListN.{replicate, length-take}
use lib.Seq.{length-take-le}
use mathlib.Core.List.{List, [], ◌∷◌}
use mathlib.Core.Path.{◌≡◌, refl, sym, ap, ◌∙◌}
use native.Mathlib.Omega.{arith}
use Rattle.std.specs.Prelude.{Some}
use Rattle.refusals.specs.Call.{Outcome, Answered}
use Rattle.refusals.proofs.Calls.{is_outcome}
use Rattle.lines.proofs.Placed.{at_front_stored}
use Rattle.stream.specs.declared.form.Request.{Request}
use Rattle.keystreams.specs.Gea4.{gea4_call}
use Rattle.stream.specs.Form.{request_of}
use Rattle.stream.specs.Answer.{outcome_of, request_text}
use Rattle.stream.proofs.Answers.{read_nothing, read_answer, read_limit}
use Rattle.stream.proofs.requests.put_text.Goals.{In-Some}
use Rattle.stream.proofs.requests.put_text.Goals as goal

-- the line asks something
is_read : (c : In-Some) → request_of c.args.line.now ≡ Some c.in-Some.request
is_read c = sym c.request_of.ensures ∙ c.in-Some.is

-- what GEA4 answered is what it comes to
outcome_is : (request : Request) {refusal : ℕ} {after : List ℕ}
    → Answered (gea4_call request.key request.input request.direction request.m (replicate 1520 0)) refusal [] after
    → (refusal ≡ (outcome_of request).refusal) × (after ≡ (outcome_of request).lent)
unfolding outcome_of
outcome_is request answered =
    let is = is_outcome (gea4_call request.key request.input request.direction request.m (replicate 1520 0)) answered in
    (ap (λ (o : Outcome (List ℕ)). o.refusal) is, ap (λ (o : Outcome (List ℕ)). o.lent) is)

pub returns-in_default : goal.returns-in_default
returns-in_default c = rw (read_nothing _ (sym c.request_of.ensures ∙ c.in_default.is)) (at_front_stored (63 ∷ []) _ 1 refl (omega arith))

pub slice_bounds-octets-end : goal.slice_bounds-octets-end
slice_bounds-octets-end c = omega (arith, c.gea4-made.auto, read_limit _ (is_read (goal.at.slice_bounds-octets-end c).In-Some))

pub slice_bounds-put_made-end : goal.slice_bounds-put_made-end
slice_bounds-put_made-end c = sym (length-take-le _ _ (omega (arith, c.gea4-made.auto, read_limit _ (is_read (goal.at.slice_bounds-put_made-end c).In-Some))))

pub put_made-requires : goal.put_made-requires
put_made-requires c =
    omega (arith, c.gea4-made.auto, read_limit _ (is_read (goal.at.put_made-requires c).In-Some), length-take c.in-Some.request.m c.gea4-made.new.output)

pub returns : goal.returns
unfolding request_text
returns c =
    let made = outcome_is c.in-Some.request c.gea4-made.ensures in
    rw (read_answer _ (is_read (goal.at.returns c).In-Some), sym made.0, sym made.1) c.put_made.ensures
