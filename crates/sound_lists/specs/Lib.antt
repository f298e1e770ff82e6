-- Sequences of numbers: membership, no repetition, ends, one taken out.
pub mod Members
-- Laws of those.
pub mod MembersLaws
-- What it means that a list in the table holds a sequence of threads.
pub mod Sound
-- The stores as changes of one record's list links.
pub mod Stores
-- What each store does to the records' list links, and that it does nothing else.
pub mod StoreLaws
-- Laws of threads that are linked both ways.
pub mod LinkedLaws
-- What is outside a list may change.
pub mod Frame
-- What the checks find on a sound list.
pub mod AcceptedLaws
-- A list of three, computed.
pub mod Instance
-- Where the checks pass, every store is inside the table; damaged tables too.
pub mod Inside
-- A refused call leaves the table as it was; damaged tables too.
pub mod Refusals
-- Several lists in one table.
pub mod OtherLists
-- The calls on a list by itself, with what is refused before.
pub mod Calls
