-- What a lift record is, which of its runs a reading and a width name, and what the calls answer.
pub mod Record
-- The search that judges order from a run on only.
pub mod Halving
-- A place judged by the runs beside its ends.
pub mod Neighbours
-- The first that fails a test.
pub mod FirstLaws
-- Runs by their numbers.
pub mod RunsLaws
-- All and only the runs that the request names.
pub mod Part
-- Order from a run on only is that of the whole list.
pub mod SearchLaws
-- What a slide asks of the two runs beside a place's end.
pub mod SlideLaws
-- Runs, each by its words.
pub mod ChunkLaws
-- The pass over the runs, and a run more.
pub mod OrderLaws
-- Laws of the functions that look for a place.
pub mod PlacingLaws
-- Each way to an answer.
pub mod AnswerLaws
-- A run more.
pub mod Appending
-- A record that meets the premises.
pub mod Instance
