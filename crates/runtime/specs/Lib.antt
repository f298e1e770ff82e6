-- The judgement of the named record.
pub mod Judging
-- Preparing a thread to be queued.
pub mod Prepare
-- Accounting, the end of a turn, the current thread as a candidate and as expired.
pub mod Account
-- The choice of deadline.
pub mod Deadline
-- Each answer's number in document 01, or its values.
pub mod Answers
-- What a judged record is, and what refreshing, accounting and ending its turn give of it.
pub mod Judged
-- What the calls do with the row of a judged record.
pub mod Rows
-- That this is what the definitions say of its record.
pub mod RowLaws
-- Laws by which the functions meet the definitions.
pub mod RuntimeLaws
-- That a refusal leaves every word.
pub mod UnmovedLaws
