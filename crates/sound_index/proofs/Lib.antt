-- The theorems on a sound tree, which rest on the bound of its height (`held_height`) and on what is refused before.
-- No path in a balanced tree that a table holds has more than 16 entries.
pub mod Height
-- Document 01's demand 2 on one tree.
pub mod Demand2
-- A sound tree is balanced and in key order.
pub mod Soundness
-- The calls on a tree by itself.
pub mod Calls
