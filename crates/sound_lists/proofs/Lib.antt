-- The theorems on what the calls do to a sound list, which rest on what a sound list is (`HoldsList`).
-- push and push_front on a sound list.
pub mod Insertion
-- remove on a sound list.
pub mod Removal
-- The calls on a list by itself.
pub mod Calls
