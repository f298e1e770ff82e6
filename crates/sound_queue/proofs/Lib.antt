-- The theorems on what calls do to a sound queue, which rest on what a call is to leave (`Kept`, `joined`).
-- An enqueue, at either end, on a sound queue.
pub mod Enqueueing
-- A removal on a sound queue.
pub mod Removing
-- The theorems about sound queues.
pub mod Calls
-- A small sound queue, by computation.
pub mod Instance
