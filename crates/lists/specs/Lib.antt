-- What is asked before anything is stored.
pub mod Checks
-- push, push_front and remove.
pub mod Lists
-- The same on a list by itself, with what is asked first.
pub mod Calls
-- Laws by which the functions meet the definitions.
pub mod ListsLaws
