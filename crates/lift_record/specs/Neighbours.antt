-- The place of a reading by the runs beside its ends: what a slide asks of the place that it is handed.
use Rattle.std.specs.Prelude.{ℕ, ◌+◌, ◌-◌, ◌<◌, ◌≤◌, ◌≡◌, Bool, true, false, List}
use Rattle.refusal.specs.Cases.{choose, given, if_less}
use Rattle.lift_record.specs.declared.Place.{Place}
use Rattle.lift_record.specs.declared.Edge.TheVariants as edge
use Rattle.lift_record.specs.Record.{runs}
use Rattle.lift_record.specs.Halving.{precedes}

-- The first number from `from` on that fails a test.
pub record First (test : ℕ → Bool) (from at : ℕ) : Type 0 where
  pub since : from ≤ at
  pub passes : (i : ℕ) → from ≤ i → i < at → test i ≡ true
  pub fails : test at ≡ false

-- By the number and the one before it.
unfoldable pub is_first : (ℕ → Bool) → ℕ → ℕ → Bool
is_first test from at = choose (test at) false (if_less from at (test (at - 1)) true)

-- No sum is made before it is known to fit.
unfoldable pub is_place : List ℕ → Place → ℕ → ℕ → Bool
is_place w p now width =
    if_less (runs w) p.first false
    (if_less (runs w - p.first) p.count false
    (given (now - width) (λ since.
    choose (is_first (precedes w edge.End since) 0 p.first)
    (is_first (precedes w edge.Start now) p.first (p.first + p.count))
    false)))
