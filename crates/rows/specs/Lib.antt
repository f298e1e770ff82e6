-- The table: what is read and stored at a number.
pub mod Table
-- What a call on one tree or one list asks first.
pub mod Asked
-- Laws of those.
pub mod AnswersLaws
-- Choosing by what was read, and by whether a store was made.
pub mod TableCases
-- Laws by which the functions over rows meet those definitions.
pub mod RowTableLaws
-- Laws of reading after a store.
pub mod TableLaws
-- Laws by which a call asks on rows what it asks first.
pub mod AskedLaws
-- Laws by which a read or a store of one part meets them.
pub mod PartLaws
-- What a refusal leaves, word for word.
pub mod Unmoved
-- What any call leaves of the rows' words.
pub mod Frame
