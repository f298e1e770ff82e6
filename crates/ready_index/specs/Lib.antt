-- Going by what a call answered.
pub mod Cases
-- The laws by which proofs of code go by an answer.
pub mod CasesLaws
-- The ready index: first, contains, insert, remove.
pub mod Index
-- Laws of those.
pub mod AnswersLaws
-- The calls on a tree by itself, with what is asked first.
pub mod Calls
-- The lent path as steps.
pub mod Path
-- Laws of the lent path.
pub mod PathLaws
-- Laws by which the loops go on.
pub mod LoopLaws
-- Laws for going by what the ways down answered.
pub mod WaysLaws
-- A step of the way up stores what the definitions say.
pub mod InPlaceLaws
-- Laws by which the calls on a tree by itself meet their definitions.
pub mod CallsLaws
