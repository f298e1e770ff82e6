-- What a call on lent words leaves.
pub mod Board
-- What a call on a lift record leaves.
pub mod Recording
pub mod RecordingLaws
-- Selection leaves a window's configuration.
pub mod Progress
-- What the other calls leave of counters and window.
pub mod Kept
-- A refused call leaves every word.
pub mod KeepingLaws
-- Laws by which the entries meet their contracts.
pub mod BoardLaws
