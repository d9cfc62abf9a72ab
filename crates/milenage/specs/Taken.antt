-- What a function that takes what a call is given answers. Assumes nothing.
use Rattle.std.specs.Prelude.{◌≡◌, Bool, true, false, Result, MatchResult}
use Rattle.refusals.specs.declared.Refusal.{Refusal}

-- where the test holds, a value of which `What` holds, and else this refusal
abbrev pub Taken : {T : Type 0} → Result T Refusal → Bool → Refusal → (T → Type 0) → Type 0
Taken answer test refusal What = MatchResult answer (λ taken. (test ≡ true) × What taken) (λ refused. (refused ≡ refusal) × (test ≡ false))
