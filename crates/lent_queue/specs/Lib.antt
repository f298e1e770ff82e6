-- The queue that lent words stand for.
pub mod LentQueue
-- What a read gives and a store leaves, of that queue.
pub mod LentLaws
-- That a refusal leaves every word.
pub mod SparedLaws
-- What calls leave of the words of the queue's rows, and its laws.
pub mod Frame
pub mod FrameLaws
