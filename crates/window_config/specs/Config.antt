-- Which configurations `ArbitrationConfig::new` takes, and which threads they admit. After arbitration.rs.
use Rattle.std.specs.Prelude.{ℕ, ◌-◌, Bool, true, false, eqb}
use Rattle.refusal.specs.Answer.{Answer, value, refused, bad_config}
use Rattle.refusal.specs.Cases.{choose, if_less, if_equal}
use Rattle.policy.specs.Budget.{max_period}
use Rattle.policy.specs.PolicyCases.{on_policy, on_backend, on_budget}
use Rattle.policy.specs.declared.FairBackend.{FairBackend}
use Rattle.policy.specs.declared.SchedulingParameters.{SchedulingParameters}
use Rattle.window_config.specs.declared.ArbitrationOrder.{ArbitrationOrder}
use Rattle.window_config.specs.declared.ArbitrationConfig.{ArbitrationConfig}

-- The ranks rise: priority, budget, fair, borrow.
unfoldable pub ranks_rise : ArbitrationOrder → Bool
ranks_rise o =
    if_less o.priority_rank o.budget_rank
    (if_less o.budget_rank o.fair_rank
    (if_less o.fair_rank o.borrow_rank true false)
    false)
    false

-- A period of 1 to 1,000,000,000, a floor above 0 and below the period, an allowance below what the floor leaves, ranks
-- that rise (SPECIFICATION 3.1).
unfoldable pub sound_config : ArbitrationConfig → Bool
sound_config c =
    if_equal c.period_ns 0 false
    (if_less max_period c.period_ns false
    (if_equal c.protected_floor_ns 0 false
    (if_less c.protected_floor_ns c.period_ns
    (if_less c.priority_allowance_ns (c.period_ns - c.protected_floor_ns) (ranks_rise c.order) false)
    false)))

-- The configuration, which does not prefer fair threads; or BadConfig.
unfoldable pub new_config : ℕ → ℕ → ℕ → ArbitrationOrder → Answer ArbitrationConfig
new_config period allowance floor o =
    let c : ArbitrationConfig =
    record {
      period_ns = period;
      priority_allowance_ns = allowance;
      protected_floor_ns = floor;
      order = o;
      prefer_fair = false;
    } in
    choose (sound_config c) (value c) (refused bad_config)

abbrev pub preferring : ArbitrationConfig → Bool → ArbitrationConfig
preferring c b =
    record {
      period_ns = c.period_ns;
      priority_allowance_ns = c.priority_allowance_ns;
      protected_floor_ns = c.protected_floor_ns;
      order = c.order;
      prefer_fair = b;
    }

-- A budget has the window's period.
unfoldable pub accepts_budget : ArbitrationConfig → SchedulingParameters → Bool
accepts_budget c p = on_budget p.budget true (λ b. eqb b.period_ns c.period_ns)

unfoldable pub same_backend : FairBackend → FairBackend → Bool
same_backend a b = on_backend a (on_backend b true false) (on_backend b false true)

-- Admitted: not Idle, a budget of the window's period, a fair thread of the one backend (SPECIFICATION 3.5).
unfoldable pub admitted : ArbitrationConfig → SchedulingParameters → FairBackend → Bool
admitted c p f =
    choose (accepts_budget c p)
    (on_policy p.policy (λ priority. true) (same_backend p.fair_backend f) true false)
    false
