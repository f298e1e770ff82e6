-- Comparing numbers, and lists of numbers part by part.
pub mod Order
-- Comparing part by part is a strict total order.
pub mod StrictOrder
-- Laws for going by an ordering, and by the first part that differs.
pub mod OrderLaws
