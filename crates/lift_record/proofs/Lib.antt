-- The theorems on what a search and a slide find, which rest on the place of a reading (`place_of`).
-- The search that judges order from a run on only is the search.
pub mod SearchLaws
-- What a slide asks and walks.
pub mod SlideLaws
-- All and only the runs that the request names.
pub mod Part
-- Each way to an answer that leans on what a search finds.
pub mod AnswerLaws
-- A record that meets the premises.
pub mod Instance
