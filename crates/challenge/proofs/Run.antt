-- A run of the calls of the crate `lines` writes what `challenge` is to write: from silence on, `hear` for each octet of the input, then `finish`.
-- Assumes nothing.
use Prim.Native.Nat.{ℕ}
use mathlib.Core.Path.{◌≡◌}
use mathlib.Core.List.{List}
use Rattle.lines.specs.declared.Heard.{Heard}
use Rattle.lines.specs.Hearing.{silence, standing}
use Rattle.lines.specs.Lines.{Run}
use Rattle.lines.proofs.Run.{run_by_lines}
use Rattle.challenge.specs.Answer.{answer_text, largest_answer}
use Rattle.challenge.specs.Challenge.{challenge_rules, challenge_output}
use Rattle.challenge.proofs.Laws.{challenge_alike}

-- the whole run, from silence on, writes what `challenge` is to write
pub run_writes_challenge : {heard : Heard} {input output : List ℕ} → heard ≡ silence → Run challenge_rules (standing heard) input output → output ≡ challenge_output input
unfolding challenge_output
run_writes_challenge = run_by_lines answer_text largest_answer challenge_alike
