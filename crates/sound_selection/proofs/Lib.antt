-- Demand 3 and what it rests on of the filing that its premises speak of (`filed_ready`) and of the order of threads
-- that it names by (`Later`).
-- A queued thread's tree says of which class it is.
pub mod Filing
-- The guarantee for one selection from any sound queue.
pub mod Guarantee
-- Demand 3.
pub mod Demand3
-- A run in which the premises hold.
pub mod Instance
