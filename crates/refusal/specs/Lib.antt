-- What an answer is, and the refusals' numbers.
pub mod Answer
-- Choosing by a test or by an answer's case, with the laws by which proofs do.
pub mod Cases
-- What `?` hands up.
pub mod HandingLaws
