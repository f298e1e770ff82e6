-- The twelve heads, and the least key among them.
pub mod Heads
-- Selection on the parts of a queue, and on a queue.
pub mod Peek
-- Parts of selection that have a function of their own.
pub mod Steps
-- The heads as the code holds them: their numbers, one after the other.
pub mod HeadNumbers
-- What each answer stands for.
pub mod Answers
-- Laws by which the functions on heads meet the definitions.
pub mod HeadLaws
-- Selection by the numbers of the heads is selection by the heads.
pub mod LookLaws
-- Laws by which the choice among the heads meets the definitions.
pub mod PeekLaws
-- A small table and selections on it.
pub mod Samples
