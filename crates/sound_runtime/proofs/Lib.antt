-- The order of the turns that calls hand out, and the theorems about turns, budgets and windows, which rest on it.
-- Turns are in order, and never repeat.
pub mod Order
-- The theorems about turns, budgets and windows.
pub mod Theorems
-- A small table that meets the premises.
pub mod Instance
