-- Laws of filing: going by the tree that a record is filed in, and that there are twelve.
use Rattle.std.specs.Prelude.{ℕ, ◌≤◌, ◌≡◌, Option, Some, None}
use Rattle.std.proofs.Common.{arith, sym, ◌∙◌}
use Rattle.policy.specs.declared.SchedulingRole.{SchedulingRole}
use Rattle.policy.specs.declared.SchedulingRole.TheVariants as role
use Rattle.policy.specs.PolicyCases.{on_role}
use Rattle.thread.specs.Filing.{role_index, on_index}

module _ {A : Type 0} {y : A} {r x : Option ℕ} (a : A) (f : ℕ → A) where
  pub no_index : r ≡ x → r ≡ None → y ≡ a → y ≡ on_index x a f
  unfolding on_index
  no_index e m h = rw (sym e ∙ m) h

  pub some_index : {n : ℕ} → r ≡ x → r ≡ Some n → y ≡ f n → y ≡ on_index x a f
  unfolding on_index
  some_index e m h = rw (sym e ∙ m) h

pub role_index_le : (r : SchedulingRole) → role_index r ≤ 2
unfolding role_index on_role
role_index_le role.Ordinary = omega arith
role_index_le role.Priority = omega arith
role_index_le role.Protected = omega arith

pub ruleset filings = (no_index, some_index)
