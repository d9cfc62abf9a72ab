-- `demo::columns::word_for` meets its contract: each word is the reason's row.
-- Assumes nothing.
use Rattle.demo.specs.Columns.{why_text}
use Rattle.demo.specs.Words.{why_words}
use Rattle.demo.proofs.columns.word_for.Goals as goal

pub returns-in-Long : goal.returns-in-Long
unfolding why_text why_words
returns-in-Long c = rw c.in-Long.is

pub returns-in-Empty : goal.returns-in-Empty
unfolding why_text why_words
returns-in-Empty c = rw c.in-Empty.is

pub returns-in-Octet : goal.returns-in-Octet
unfolding why_text why_words
returns-in-Octet c = rw c.in-Octet.is

pub returns-in-Command : goal.returns-in-Command
unfolding why_text why_words
returns-in-Command c = rw c.in-Command.is

pub returns-in-Count : goal.returns-in-Count
unfolding why_text why_words
returns-in-Count c = rw c.in-Count.is

pub returns-in-Place : goal.returns-in-Place
unfolding why_text why_words
returns-in-Place c = rw c.in-Place.is

pub returns-in-Hex : goal.returns-in-Hex
unfolding why_text why_words
returns-in-Hex c = rw c.in-Hex.is
