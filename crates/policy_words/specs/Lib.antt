-- What the words of parameters, runtimes and times stand for.
pub mod PolicyWords
-- Whether words are the encoding of what they stand for.
pub mod Encodes
-- Laws of those words: what was stored is what they stand for.
pub mod PartLaws
-- The words that are stored encode.
pub mod EncodeLaws
-- A fact of every list of so many words is one of every list of that length.
pub mod ByWords
