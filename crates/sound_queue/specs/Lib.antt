-- The twelve trees of a queue in one table.
pub mod Forest
-- The lists of a queue in one table.
pub mod Lists
-- How many numbers have a property.
pub mod Count
-- A sound queue, and what a call on it is to leave.
pub mod Sound
-- Laws of placing a thread.
pub mod PlaceLaws
-- Laws of counting.
pub mod CountLaws
-- A thread put into a tree and taken out of it, and what else may change.
pub mod ForestLaws
-- A thread put into a list and taken out of it, and what else may change.
pub mod ListsLaws
-- Two tables alike but for links.
pub mod LinksLaws
-- The definitions of crate queue, case by case.
pub mod PartsLaws
-- What is known of a sound queue's threads.
pub mod SoundLaws
-- A new queue, and changes to records that are not queued.
pub mod Outside
-- Whether a thread may join its list.
pub mod Joining
-- What the checks before a call's work come to.
pub mod Verdict
-- Changes of trees and runtimes: what a selection does to a sound queue.
pub mod Runtimes
-- A budget thread moved to the other tree of its role.
pub mod Moving
