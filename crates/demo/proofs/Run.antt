-- What `demo` writes for a whole script: `put_heading`, and from `new_stage` on what `lines::answer_input` writes for each line. Assumes nothing.
use Prim.Native.Nat.{ℕ, ◌<◌}
use native.Mathlib.Omega.{arith}
use mathlib.Core.Path.{◌≡◌, sym, ap, ap₂, ◌∙◌}
use mathlib.Core.List.{List, ◌++◌}
use lib.ListN.{length, take}
use Rattle.lines.specs.Text.{AtFront}
use Rattle.lines.specs.Hearing.{silence, too_long}
use Rattle.lines.specs.Lines.{Run}
use Rattle.lines.proofs.Hearing.{LongAlike}
use Rattle.lines.proofs.Run.{run_writes_answers}
use Rattle.lines.proofs.Placed.{written_text}
use Rattle.demo.specs.declared.play.Stage.{Stage}
use Rattle.demo.specs.Step.{Step}
use Rattle.demo.specs.Acts.{obeyed}
use Rattle.demo.specs.Play.{answer, after, demo_rules, new_stage, heading, demo_output}
use Rattle.demo.proofs.Steps.{long_nothing, long_done}

-- a line that is too long is answered, and changes the stage, like any other that is
long_same : (stage : Stage) (line : List ℕ) → 160 < length line → obeyed stage line ≡ obeyed stage too_long
long_same stage line long = sym (long_nothing stage line (omega arith)) ∙ long_done stage

pub demo_alike : LongAlike demo_rules
unfolding answer after
demo_alike = record {
  answer_alike = λ stage line long. ap (λ (s : Step). s.said) (long_same stage line long);
  after_alike = λ stage line long. ap (λ (s : Step). s.stage) (long_same stage line long);
}

-- the whole run: the heading, and from `new_stage` on the answers to the lines
pub demo_writes : {before put : List ℕ} {written : ℕ} {stage : Stage} {input output : List ℕ}
    → AtFront heading before written put → stage ≡ new_stage → Run demo_rules (record { state = stage; heard = silence }) input output
    → take written put ++ output ≡ demo_output input
unfolding demo_output
demo_writes headed begun moved =
    ap₂ (λ (a b : List ℕ). a ++ b) (written_text headed)
    (run_writes_answers demo_rules demo_alike new_stage (ap (λ (s : Stage). record { state = s; heard = silence }) begun) moved)
