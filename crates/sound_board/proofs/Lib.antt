-- Demand 3 over the words that a board lends, from what a step is (`Step`) and what the words of a run are.
-- The theorem.
pub mod Words
-- A board whose words meet the premises.
pub mod Instance
