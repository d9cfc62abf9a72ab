-- A run of the calls of the crate `lines` writes what `stream` is to write: from silence on, `hear` for each octet of the input, then `finish`.
-- Assumes nothing.
use Prim.Native.Nat.{ℕ}
use mathlib.Core.Path.{◌≡◌}
use mathlib.Core.List.{List}
use Rattle.lines.specs.declared.Heard.{Heard}
use Rattle.lines.specs.Hearing.{silence, standing}
use Rattle.lines.specs.Lines.{Run}
use Rattle.lines.proofs.Run.{run_by_lines}
use Rattle.stream.specs.Answer.{answer_text, largest_answer}
use Rattle.stream.specs.Stream.{stream_rules, stream_output}
use Rattle.stream.proofs.Answers.{stream_alike}

-- the whole run, from silence on, writes what `stream` is to write
pub run_writes_stream : {heard : Heard} {input output : List ℕ} → heard ≡ silence → Run stream_rules (standing heard) input output → output ≡ stream_output input
unfolding stream_output
run_writes_stream = run_by_lines answer_text largest_answer stream_alike
