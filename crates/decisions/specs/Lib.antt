-- Turns, and the two counters that they come from.
pub mod Turns
-- The switch rule.
pub mod Switch
-- The current thread's own deadline.
pub mod OwnDeadline
-- Laws for going by a key or a mode.
pub mod DecisionLaws
