-- What a tree is: its height, its in-order list, its size, and when it is balanced.
pub mod Tree
-- Rotations, and the balancing of one node.
pub mod Rotation
-- A path into a tree as a list of frames, and the rebuilding of a tree along it.
pub mod Path
-- Insertion at the end of a path, and removal of the node at its end.
pub mod Operations
-- The Fibonacci numbers.
pub mod Fibonacci
-- Laws of the balance factor's test.
pub mod RotationLaws
-- A balanced tree of height h has at least F(h + 2) − 1 nodes, so its height is bounded by their number.
pub mod Size
