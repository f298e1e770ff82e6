-- Laws by which the functions on candidates and demands meet the definitions.
use Rattle.std.specs.Prelude.{◌≡◌, refl, Bool, Option, Some, None}
use Rattle.algorithms.specs.declared.Wide.{Wide}
use Rattle.arbitration.specs.declared.Candidate.{Candidate}
use Rattle.arbitration.specs.declared.Demand.{Demand}
use Rattle.demands.specs.Demands.{on_pass, on_candidate}

module _ {A : Type 0} {y : A} {x : Option Wide} (a : A) (f : Wide → A) where
  pub no_pass : x ≡ None → y ≡ a → y ≡ on_pass x a f
  unfolding on_pass
  no_pass e h = rw e h

  pub some_pass : {p : Wide} → x ≡ Some p → y ≡ f p → y ≡ on_pass x a f
  unfolding on_pass
  some_pass e h = rw e h

module _ {A : Type 0} {y : A} {x : Option Candidate} (a : A) (f : Candidate → A) where
  pub no_candidate : x ≡ None → y ≡ a → y ≡ on_candidate x a f
  unfolding on_candidate
  no_candidate e h = rw e h

  pub some_candidate : {c : Candidate} → x ≡ Some c → y ≡ f c → y ≡ on_candidate x a f
  unfolding on_candidate
  some_candidate e h = rw e h

-- Two demands with the same parts.
pub same_demand : {a b p q r s u v w z : Bool} → a ≡ b → p ≡ q → r ≡ s → u ≡ v → w ≡ z
    → ◌≡◌ {A = Demand}
    (record { protected = a; fair = p; window_sensitive = r; eligible_budget = u; any_budget = w })
    (record { protected = b; fair = q; window_sensitive = s; eligible_budget = v; any_budget = z })
same_demand a p r u w = rw (a, p, r, u, w)

pub ruleset demanding = (no_pass, some_pass, no_candidate, some_candidate, same_demand)
