-- Preparing a thread to be queued: its budget refreshed, and its turn. After `prepare_enqueue` of
-- scheduler/state/runtime.rs.
use Rattle.std.specs.Prelude.{ℕ, Bool, List}
use Rattle.refusal.specs.Answer.{Answer, value, refused, already}
use Rattle.refusal.specs.Cases.{choose, given, and_then}
use Rattle.algorithms.specs.Runtime.{epoch_refreshed}
use Rattle.thread.specs.declared.ThreadRecord.{ThreadRecord}
use Rattle.thread.specs.Membership.{is_unqueued}
use Rattle.rows.specs.Table.{Out, out, after, set_runtime, set_turn}
use Rattle.decisions.specs.declared.Turns.{Turns}
use Rattle.decisions.specs.Turns.{turn_for}
use Rattle.runtime.specs.declared.Preparation.{Preparation}
use Rattle.runtime.specs.Judging.{judged}

-- Of a judged record: Already where it is in a list, then the refreshed runtime, then the turn, which may be
-- TurnsSpent.
unfoldable pub prepare_record : ThreadRecord → Bool → ℕ → Turns → Answer Preparation
prepare_record r front now c =
    choose (is_unqueued r.queue_links.membership)
    (and_then (epoch_refreshed r.runtime now r.parameters)
    (λ x. and_then (turn_for front r.parameters.policy r.ready_turn c)
    (λ taken. value (record { runtime = x; turn = taken.turn; turns = taken.turns }))))
    (refused already)

unfoldable pub preparation : List ThreadRecord → ℕ → Bool → ℕ → Turns → Answer Preparation
preparation t id front now c = and_then (judged t id) (λ r. prepare_record r front now c)

-- An answer, and the counters as they are left; the table stands beside it (`Out`).
pub data Counted : Type 0 where
  counted : Answer (Unit {0}) → Turns → Counted

-- The table with a thread's runtime and turn.
unfoldable pub stored_preparation : List ThreadRecord → ℕ → Preparation → List ThreadRecord
stored_preparation t id p = given (after (set_runtime t id p.runtime)) (λ t₁. after (set_turn t₁ id p.turn))

-- A refusal leaves counters and record unchanged, the refresh too.
unfoldable pub prepared : List ThreadRecord → ℕ → Turns → Answer Preparation → Out Counted
prepared t id c (value p) = out (counted (value tt) p.turns) (stored_preparation t id p)
prepared t id c (refused n) = out (counted (refused n) c) t

-- SPECIFICATION 10.2.
unfoldable pub prepare_enqueue : List ThreadRecord → ℕ → Bool → ℕ → Turns → Out Counted
prepare_enqueue t id front now c = prepared t id c (preparation t id front now c)
