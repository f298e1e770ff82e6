-- The words of demand 3.
pub mod Claim
-- Document 01's sound queues, by their calls.
pub mod Reached
-- What a selection may do to a thread, to a queue, and the head of a tree.
pub mod Changes
-- Laws of a record refreshed to now.
pub mod RefreshLaws
-- Laws of changes, heads and standing.
pub mod ChangeLaws
-- One move of a change of period.
pub mod OneMove
-- The exhausted tree of a role emptied.
pub mod Moves
-- The whole change of period.
pub mod Renewing
-- Orders: of numbers part by part, of what candidates ask for, of keys with numbers.
pub mod Within
-- Laws of what candidates ask for.
pub mod WithinLaws
-- What every queued thread asks for.
pub mod BelowLaws
-- Laws of keys with numbers.
pub mod PairLaws
-- One head of a sound queue.
pub mod OneHead
-- The pass over the heads of a sound queue.
pub mod HeadPass
-- The least key among the heads.
pub mod Choosing
-- Selection on a sound queue.
pub mod Selecting
-- Every queue that accepted calls lead to is sound.
pub mod ReachedSound
-- The class that a tree is of.
pub mod Classes
-- Laws of records of one class.
pub mod ClassLaws
-- What computes in instances, under one name.
pub mod Computing
