-- Going by what a call answered.
pub mod Cases
-- Laws of that.
pub mod AnswersLaws
-- The laws by which proofs of code go by an answer.
pub mod CasesLaws
-- Heights, rotations and the balancing of one node.
pub mod Balance
-- What the way up does to a node that stays in its place.
pub mod InPlace
-- What the way up does in place is what the definitions say.
pub mod InPlaceLaws
