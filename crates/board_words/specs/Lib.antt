-- What the words stand for.
pub mod BoardWords
-- Laws by which the functions meet the definitions.
pub mod WordLaws
