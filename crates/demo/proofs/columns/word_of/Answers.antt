-- `demo::columns::word_of` meets its contract: each word is the refusal's row.
-- Assumes nothing.
use Rattle.lines.specs.Digits.{within}
use Rattle.demo.specs.Words.{refusal_words, refusal_text}
use Rattle.demo.proofs.columns.word_of.Goals as goal

pub returns-in-Key : goal.returns-in-Key
unfolding refusal_text refusal_words within
returns-in-Key c = rw c.in-Key.is

pub returns-in-Range : goal.returns-in-Range
unfolding refusal_text refusal_words within
returns-in-Range c = rw c.in-Range.is

pub returns-in-Size : goal.returns-in-Size
unfolding refusal_text refusal_words within
returns-in-Size c = rw c.in-Size.is

pub returns-in-Room : goal.returns-in-Room
unfolding refusal_text refusal_words within
returns-in-Room c = rw c.in-Room.is

pub returns-in-Length : goal.returns-in-Length
unfolding refusal_text refusal_words within
returns-in-Length c = rw c.in-Length.is

pub returns-in-Version : goal.returns-in-Version
unfolding refusal_text refusal_words within
returns-in-Version c = rw c.in-Version.is

pub returns-in-Spare : goal.returns-in-Spare
unfolding refusal_text refusal_words within
returns-in-Spare c = rw c.in-Spare.is

pub returns-in-Other : goal.returns-in-Other
unfolding refusal_text refusal_words within
returns-in-Other c = rw c.in-Other.is

pub returns-in-Start : goal.returns-in-Start
unfolding refusal_text refusal_words within
returns-in-Start c = rw c.in-Start.is

pub returns-in-End : goal.returns-in-End
unfolding refusal_text refusal_words within
returns-in-End c = rw c.in-End.is

pub returns-in-Repeat : goal.returns-in-Repeat
unfolding refusal_text refusal_words within
returns-in-Repeat c = rw c.in-Repeat.is

pub returns-in-State : goal.returns-in-State
unfolding refusal_text refusal_words within
returns-in-State c = rw c.in-State.is

pub returns-in-Reserve : goal.returns-in-Reserve
unfolding refusal_text refusal_words within
returns-in-Reserve c = rw c.in-Reserve.is
