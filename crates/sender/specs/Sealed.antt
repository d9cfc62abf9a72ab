-- The numbers that a seal hands out, which are 0 where it is refused. Assumes nothing.
use Rattle.std.specs.Prelude.{ℕ, Result, Ok, Err}
use Rattle.refusals.specs.declared.Refusal.{Refusal}
use Rattle.sender.specs.declared.Sealed.{Sealed}

-- the frame's number
abbrev pub number_in : Result Sealed Refusal → ℕ
number_in (Ok sealed) = sealed.number
number_in (Err refusal) = 0

-- how many octets the frame has
abbrev pub size_in : Result Sealed Refusal → ℕ
size_in (Ok sealed) = sealed.size
size_in (Err refusal) = 0
