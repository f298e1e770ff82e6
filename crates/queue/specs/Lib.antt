-- The queue that the definitions speak of.
pub mod RunQueue
-- The queue's calls, with every refusal and what each leaves behind.
pub mod Queue
-- A call in two halves: its plan and its work.
pub mod Plan
-- The judgement by the tags of a row.
pub mod RowJudgement
-- A call in two halves is the call, and laws by which the functions meet the definitions.
pub mod PlanLaws
-- A small table and lists of calls on it.
pub mod Samples
