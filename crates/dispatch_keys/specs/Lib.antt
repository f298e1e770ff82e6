-- The parts of a key, and comparing them.
pub mod Keys
-- They are in a strict total order.
pub mod KeyOrder
