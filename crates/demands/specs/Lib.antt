-- Candidates, the demand of several, and their lowest fair pass.
pub mod Demands
-- Laws by which the functions on candidates and demands meet the definitions.
pub mod DemandLaws
-- What a record asks for, by the tags of its row.
pub mod DemandRows
