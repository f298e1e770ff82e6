-- What numbers stand for, and the numbers of each answer.
pub mod Words
-- The laws by which the entries meet their contracts.
pub mod WordsLaws
