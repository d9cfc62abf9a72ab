-- What an answer of the code is in the numbers of document 01, "Refusal numbers", which count an answer that is not refused as 0. Assumes nothing.
use Rattle.std.specs.Prelude.{ℕ, ◌≡◌, Bool, Result, Ok, Err, is_some, unwrap_or}
use Rattle.refusals.specs.declared.Refusal.{Refusal}
use Rattle.refusals.specs.declared.Refused.{Refused}
use Rattle.refusals.specs.declared.Refusal.TheVariants.{Key, Range, Size, Room, Length, Version, Spare, Other, Start, End, Repeat, State, Reserve}

-- the number of a refusal
abbrev pub number_of : Refusal → ℕ
number_of Key = 1
number_of Range = 2
number_of Size = 3
number_of Room = 4
number_of Length = 5
number_of Version = 6
number_of Spare = 7
number_of Other = 8
number_of Start = 9
number_of End = 10
number_of Repeat = 11
number_of State = 12
number_of Reserve = 13

-- the number of an answer
abbrev pub refusal_of : {T : Type 0} → Result T Refusal → ℕ
refusal_of (Ok made) = 0
refusal_of (Err refusal) = number_of refusal

-- the number of an answer that may give the candidate with its refusal
abbrev pub refused_of : {T : Type 0} → Result T Refused → ℕ
refused_of (Ok made) = 0
refused_of (Err refused) = number_of refused.refusal

-- the candidate given with a refusal, 0 where none is
abbrev pub candidate_of : Refused → ℕ
candidate_of refused = unwrap_or refused.candidate 0

-- the number that an answer hands out: the number that it is, or the candidate
abbrev pub number_in : Result ℕ Refused → ℕ
number_in (Ok number) = number
number_in (Err refused) = candidate_of refused

-- the candidate comes with exactly those refusals with which it is given
abbrev pub CandidateWith : {T : Type 0} → (ℕ → Bool) → Result T Refused → Type 0
CandidateWith given (Ok made) = Unit {0}
CandidateWith given (Err refused) = is_some refused.candidate ≡ given (number_of refused.refusal)
