-- What a row of the table is.
pub mod Rows
-- What is seen of a queue, a window and records, as numbers.
pub mod Seen
-- The rows about budgets and windows.
pub mod LeafCases
-- The rows about the ready index.
pub mod TreeCases
-- The rows about the queue's calls.
pub mod QueueCases
-- The rows about selection.
pub mod SelectionCases
-- The rows about turns, accounting, the switch rule and deadlines.
pub mod RuntimeCases
-- The rows about the lift record.
pub mod RecordCases
-- The table of the ● cases, with one proof over it.
pub mod WorkedCases
