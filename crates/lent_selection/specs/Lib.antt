-- Selection over a lent queue, in the steps in which the code takes it.
pub mod LentParts
-- Laws by which the functions meet the definitions.
pub mod LentLaws
-- What is refused before anything is looked at.
pub mod Early
