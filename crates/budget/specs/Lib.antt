-- What `BudgetRuntime`'s methods do.
pub mod Runtime
-- What was computed of each part is the runtime's.
pub mod BudgetLaws
