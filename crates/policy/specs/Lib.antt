-- `BudgetParameters::new`.
pub mod Budget
-- Weights and the constructors of `SchedulingParameters`.
pub mod Parameters
-- Choosing by a policy, a role, a backend or a budget.
pub mod PolicyCases
