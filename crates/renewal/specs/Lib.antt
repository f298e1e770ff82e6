-- What selection touches of a queue.
pub mod Parts
-- What a step of selection leaves, and going by it.
pub mod Leaves
-- The change of period.
pub mod Renewal
-- Roots as rows of words.
pub mod RootRows
-- Parts of it that have a function of their own.
pub mod Steps
-- What each answer stands for.
pub mod Answers
-- Laws by which the functions of the change of period meet the definitions.
pub mod RenewalLaws
