-- The turns that calls hand out, one after another.
pub mod Handed
-- What one call does to the counters.
pub mod Outcome
-- Which of two FIFO threads comes first.
pub mod Keys
-- Budgets and windows under refresh and charge.
pub mod Budgets
-- Preparing and accounting, their refusals in order, and that a refusal changes nothing.
pub mod Calls
