-- No refusal has the number 0.
pub mod Numbers
-- The claim over the words that a board lends.
pub mod Claim
-- A run's words, whose board meets the premises.
pub mod Instance
