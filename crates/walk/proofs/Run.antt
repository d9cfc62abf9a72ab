-- A run of the calls writes what `walk` is to write: `put_header`, and from `start` on `hear` for each octet of the input, then `finish`. Assumes nothing.
use Prim.Native.Nat.{ℕ, ◌≤◌}
use mathlib.Core.Path.{◌≡◌, ap₂}
use mathlib.Core.List.{List, [], ◌∷◌, ◌++◌}
use lib.ListN.{length, take}
use Rattle.refusals.specs.Call.{Answered}
use Rattle.lines.specs.Text.{put_text_call}
use Rattle.lines.specs.Hearing.{Standing}
use Rattle.lines.specs.Lines.{Run}
use Rattle.lines.proofs.Run.{with_room, run_writes_answers}
use Rattle.numbering.specs.Numbering as numbering
use Rattle.numbering.specs.declared.Numbering.{Numbering}
use Rattle.walk.specs.Walk.{walk_rules, start, header, walk_output}
use Rattle.walk.proofs.Answers.{walk_alike}

-- the whole run: the header, and from `start` on the answers
pub run_writes_walk : {before : List ℕ} {refusal written : ℕ} {after : List ℕ} {at : Standing Numbering} {input output : List ℕ}
    → length header ≤ length before → Answered (put_text_call header before) refusal (written ∷ []) after
    → at ≡ start → Run walk_rules at input output
    → take written after ++ output ≡ walk_output input
unfolding walk_output start
run_writes_walk room answered begun run =
    ap₂ (λ (a b : List ℕ). a ++ b) (with_room (length header) header _ answered room) (run_writes_answers walk_rules walk_alike numbering.start begun run)
