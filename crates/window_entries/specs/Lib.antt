-- What an entry leaves: a number, an answer, and the window.
pub mod Entries
-- When the words of a configuration are sound.
pub mod SoundWords
-- Refresh and charge by words, and what those calls leave.
pub mod StepLaws
-- The laws by which the entries meet their contracts.
pub mod EntryLaws
