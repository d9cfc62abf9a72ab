-- The numbers that opening a frame hands out: the candidate is given with 11 and 4 too, and any other is 0 where the frame is refused. Assumes nothing.
use Rattle.std.specs.Prelude.{ℕ, Result, Ok, Err}
use Rattle.refusals.specs.declared.Refused.{Refused}
use Rattle.refusals.specs.Number.{candidate_of}
use Rattle.receiver.specs.declared.Opened.{Opened}

-- the frame's number, or the candidate
abbrev pub number_in : Result Opened Refused → ℕ
number_in (Ok opened) = opened.number
number_in (Err refused) = candidate_of refused

-- how many octets the payload has
abbrev pub size_in : Result Opened Refused → ℕ
size_in (Ok opened) = opened.size
size_in (Err refused) = 0
