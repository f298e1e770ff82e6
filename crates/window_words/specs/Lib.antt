-- What the words of a window and of its calls stand for.
pub mod WindowWords
-- Laws of those words: what was stored is what they stand for.
pub mod WordLaws
