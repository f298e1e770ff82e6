-- Names as texts, and the line that tells what failed.
pub mod Files
-- Their laws.
pub mod FilesLaws
