-- The test of the parts of a row that calls store.
pub mod Encoding
-- A row that encodes and whose record is left is as it was; the words that no call stores are; a table that encodes
-- still does.
pub mod Theorems
-- Rows to which that applies, and one that shows why it asks for an encoding.
pub mod Instance
-- The same of the rows of a queue.
pub mod QueueRows
-- Rows of a queue to which that applies.
pub mod QueueInstance
-- Why no test before a store could do without an encoding.
pub mod Between
