-- `demo::columns::add_text` meets its contract. The loop's invariant: as many octets of the text are shown as were passed.
-- Assumes nothing.
use mathlib.Core.Path.{◌≡◌}
use Rattle.demo.proofs.Texts.{shown_so_far}
use Rattle.demo.proofs.columns.add_text.Given as goal

abbrev pub invariant-loop-place : goal.invariant-loop-place
invariant-loop-place l = l.output ≡ shown_so_far l.text l.initial.output 66 l.place
