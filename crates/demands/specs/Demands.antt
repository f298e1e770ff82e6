-- Candidates, the demand of several, and their lowest fair pass. After `ReadySnapshot::candidate` and `add_demand` of
-- scheduler/queue.rs.
use Rattle.std.specs.Prelude.{Bool, true, false, [], ◌∷◌, Option, Some, None}
use Rattle.refusal.specs.Cases.{choose, given}
use Rattle.std.specs.declared.cmp.Ordering.{Ordering}
use Rattle.order.specs.Order.{compare_parts, on_ordering}
use Rattle.policy.specs.PolicyCases.{on_policy}
use Rattle.algorithms.specs.declared.Wide.{Wide}
use Rattle.algorithms.specs.Runtime.{candidate_key}
use Rattle.arbitration.specs.declared.Candidate.{Candidate}
use Rattle.arbitration.specs.declared.Demand.{Demand}
use Rattle.arbitration.specs.Window.{is_priority, is_protected}
use Rattle.thread.specs.declared.ThreadRecord.{ThreadRecord}
use Rattle.thread.specs.Filing.{budget_available_of}
use Rattle.demands.specs.declared.Gathered.{Gathered}

-- A record as arbitration sees it: the pass of a Stride thread, else 0; whether it is a budget with time left.
unfoldable pub candidate_of : ThreadRecord → Candidate
candidate_of r =
    given (candidate_key r.runtime r.parameters r.ready_turn)
    (λ key. given (budget_available_of r.runtime)
    (λ available. record {
      parameters = r.parameters;
      fair_pass = key.pass;
      turn = r.ready_turn;
      budget_available = available;
    }))

abbrev pub no_demand : Demand
no_demand =
    record {
      protected = false;
      fair = false;
      window_sensitive = false;
      eligible_budget = false;
      any_budget = false;
    }

-- What one candidate asks for. Idle asks for nothing; a Budget thread with no time left is owed no protection.
-- (SPECIFICATION 4.1).
unfoldable pub demand_of : Candidate → Demand
demand_of c =
    on_policy c.parameters.policy
    (λ priority. record {
      protected = is_protected c.parameters.role;
      fair = true;
      window_sensitive = is_priority c.parameters.role;
      eligible_budget = false;
      any_budget = false;
    })
    (record {
      protected = is_protected c.parameters.role;
      fair = true;
      window_sensitive = true;
      eligible_budget = false;
      any_budget = false;
    })
    (record {
      protected = choose (is_protected c.parameters.role) c.budget_available false;
      fair = false;
      window_sensitive = is_priority c.parameters.role;
      eligible_budget = c.budget_available;
      any_budget = true;
    })
    no_demand

unfoldable pub either : Bool → Bool → Bool
either a b = choose a true b

-- What either of two demands asks for (SPECIFICATION 4.1).
unfoldable pub joined : Demand → Demand → Demand
joined a b =
    record {
      protected = either a.protected b.protected;
      fair = either a.fair b.fair;
      window_sensitive = either a.window_sensitive b.window_sensitive;
      eligible_budget = either a.eligible_budget b.eligible_budget;
      any_budget = either a.any_budget b.any_budget;
    }

unfoldable pub add_demand : Demand → Candidate → Demand
add_demand d c = given (demand_of c) (joined d)

-- Passes compare as wide numbers, the high half first (SPECIFICATION 1.4).
unfoldable pub compare_passes : Wide → Wide → Ordering
compare_passes a b = compare_parts (a.high ∷ a.low ∷ []) (b.high ∷ b.low ∷ [])

unfoldable pub lesser_pass : Wide → Wide → Wide
lesser_pass old new = on_ordering (compare_passes new old) new old old

-- None first.
unfoldable pub on_pass : {A : Type 0} → Option Wide → A → (Wide → A) → A
on_pass None a f = a
on_pass (Some p) a f = f p

-- The lowest pass with one more candidate: only a Fair one counts (SPECIFICATION 9.3).
unfoldable pub lowest_pass : Option Wide → Candidate → Option Wide
lowest_pass lowest c =
    on_policy c.parameters.policy
    (λ priority. lowest)
    (on_pass lowest (Some c.fair_pass) (λ old. given (lesser_pass old c.fair_pass) Some))
    lowest
    lowest

-- Demand and lowest pass with one more candidate.
unfoldable pub gathered : Gathered → Candidate → Gathered
gathered g c =
    given (add_demand g.demand c)
    (λ demand. given (lowest_pass g.fair_min_pass c)
    (λ lowest. record { demand = demand; fair_min_pass = lowest }))

abbrev pub nothing_gathered : Gathered
nothing_gathered = record { demand = no_demand; fair_min_pass = None }

-- None first.
unfoldable pub on_candidate : {A : Type 0} → Option Candidate → A → (Candidate → A) → A
on_candidate None a f = a
on_candidate (Some c) a f = f c

-- What the running thread asks for, if there is one.
unfoldable pub of_current : Option Candidate → Gathered
of_current current = on_candidate current nothing_gathered (λ c. gathered nothing_gathered c)
