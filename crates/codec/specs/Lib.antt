-- What a row of words stands for.
pub mod Codec
-- Laws of the parts: the words of each variant stand for it.
pub mod PartLaws
-- Laws of rows: a store of some words changes the part that they stand for, and no other.
pub mod RowLaws
-- Laws of keys: the algorithm's part by a row's tags.
pub mod KeyLaws
-- What calls leave of a row's words.
pub mod Frame
-- Laws of it: nothing, one thing after another, and the store of each part.
pub mod FrameLaws
