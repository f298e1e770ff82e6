-- What a window does with time: refresh, charge, deadlines.
pub mod Window
-- Dispatch keys: their order, and the key of a candidate.
pub mod Key
-- The window's calls, with what each refuses and leaves behind.
pub mod Calls
-- Each answer's number in document 01, or its values.
pub mod Answers
-- Laws for going by a mode and by an algorithm, and of what is charged.
pub mod ArbitrationLaws
