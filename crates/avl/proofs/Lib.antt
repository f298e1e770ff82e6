-- The theorems on balancing and on the operations, which rest on the rotations (`outward_left`).
-- Rotations, balancing and rebuilding keep the in-order list.
pub mod InOrder
-- Balancing a node whose sides differ by at most two gives a balanced tree.
pub mod Balance
-- Rebuilding along a path of a balanced tree gives a balanced tree.
pub mod Rebuild
-- Insertion keeps balance and adds one thread in its place.
pub mod Insertion
-- Removal keeps balance and takes out one thread.
pub mod Removal
