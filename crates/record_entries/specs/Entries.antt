-- What a call on lent words leaves: document 01's number, 0 where it was accepted, and what the words stand for
-- afterwards. A refusal leaves that as it was.
use Rattle.std.specs.Prelude.{ℕ, Option, Some, None}
use Rattle.refusal.specs.Answer.{Answer, value, refused}
use Rattle.policy.specs.declared.SchedulingParameters.{SchedulingParameters}

pub data Told (A : Type 0) : Type 0 where
  told : ℕ → A → Told A

-- The answer's value, or what was there.
unfoldable pub told_of : {A : Type 0} → A → Answer A → Told A
told_of before (value a) = told 0 a
told_of before (refused n) = told n before

-- 1 with the parameters that were made, or 0.
unfoldable pub parameters_told : SchedulingParameters → Option SchedulingParameters → Told SchedulingParameters
parameters_told before (Some p) = told 1 p
parameters_told before None = told 0 before
