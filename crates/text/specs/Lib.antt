-- A text as bytes.
pub mod Ascii
-- The pieces of a text, and the numbers and times that words denote.
pub mod Reading
-- Their laws, and that texts are the same just where the lists of their bytes are equal.
pub mod ReadingLaws
-- The names of a list.
pub mod Lists
-- Their laws.
pub mod ListsLaws
-- A line read by a form.
pub mod Forms
-- Their laws.
pub mod FormsLaws
-- Forms, lines and times as they are written, judged.
pub mod FormsCases
-- A page, a number's digits, columns and templates.
pub mod Writing
-- Their laws, and what a page then has where there is room.
pub mod WritingLaws
-- Times in milliseconds.
pub mod Times
-- Their laws.
pub mod TimesLaws
-- Texts as XML has them.
pub mod Escaping
-- Their laws.
pub mod EscapingLaws
-- Times and texts as they are written, judged.
pub mod TimesCases
-- Shapes as templates.
pub mod Svg
-- Sums that stay in range.
pub mod Counting
-- How much of a page is handed to the system.
pub mod Printing
-- Its laws.
pub mod PrintingLaws
