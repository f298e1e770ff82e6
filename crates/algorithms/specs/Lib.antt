-- What `PolicyRuntime`'s methods do.
pub mod Runtime
-- Laws for going by a runtime's kind.
pub mod RuntimeLaws
