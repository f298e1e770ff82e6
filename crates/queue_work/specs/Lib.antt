-- The work of enqueue and remove, on the parts of a queue that a call touches.
pub mod Work
-- Laws by which the functions on parts meet the definitions.
pub mod WorkLaws
