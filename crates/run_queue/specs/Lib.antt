-- The queue that a value stands for, and what a call's answer stands for.
pub mod Value
-- Laws by which the functions meet the definitions.
pub mod ValueLaws
