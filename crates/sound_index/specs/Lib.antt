-- What it means that a table holds a tree.
pub mod Holds
-- Laws of reading and storing by number.
pub mod TableLaws
-- The rank of a thread in its table.
pub mod Rank
-- Keys compare as ranks do, so that proofs may go by numbers.
pub mod RankLaws
-- What the proofs of the operations go by: a table represents a tree whose threads have ranks in an interval.
pub mod Represents
-- Storing elsewhere keeps it, and one store makes a node.
pub mod RepresentsLaws
-- Update, the rotations and balance do what those of trees do.
pub mod Rotations
-- `rebuild` does what the rebuilding of trees does.
pub mod Rebuilding
-- The ways down.
pub mod Descents
-- `insert` does what the insertion of trees does.
pub mod Inserting
-- Lists of threads without a key.
pub mod AwayLaws
-- `remove` does what the removal of trees does.
pub mod Removing
-- Laws of the threads that a list has.
pub mod HasLaws
-- A table that holds a tree represents it by ranks, and the other way round; and what else may change.
pub mod HoldsLaws
-- A table of 4,096 records holds no balanced tree higher than 16.
pub mod Height
-- What an accepted insertion and an accepted removal are.
pub mod Outcomes
-- A sound tree by itself.
pub mod Sound
-- The calls on a tree by itself, with what is refused before.
pub mod Calls
