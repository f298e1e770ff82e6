-- What the words of a budget, of its runtime and of answers stand for.
pub mod RecordWords
-- What an entry leaves: a number, and what the lent words stand for.
pub mod Entries
-- The laws by which the entries meet their contracts.
pub mod EntryLaws
