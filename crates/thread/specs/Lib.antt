-- A record with one of its parts changed.
pub mod Records
-- Choosing by a link or a membership, and which are the same.
pub mod Membership
-- Laws of links and memberships.
pub mod MembershipLaws
-- What a tree is ordered by.
pub mod TreeKey
-- Laws of tree keys: keys compare as their parts, the first first.
pub mod TreeKeyLaws
-- Document 01's BadRecord.
pub mod Judgement
-- The tree that a record is filed in.
pub mod Filing
-- Laws of filing.
pub mod FilingLaws
