-- `demo::acts::lose_times` meets its contract. The loop's invariant: the phone is the phone after as many frames as were lost.
-- Assumes nothing.
use mathlib.Core.Path.{◌≡◌}
use Rattle.demo.specs.Ends.{phone_after}
use Rattle.demo.proofs.acts.lose_times.Given as goal

abbrev pub invariant-loop : goal.invariant-loop
invariant-loop l = l.phone ≡ phone_after l.counter l.initial.phone
