-- Turns, and the two counters that they come from. After `prepare_enqueue` of scheduler/state/runtime.rs; BACK_TURN and
-- FRONT_TURN are one value.
use Rattle.std.specs.Prelude.{ℕ, ◌+◌, ◌-◌, Bool}
use Rattle.refusal.specs.Answer.{Answer, value, refused, turns_spent}
use Rattle.refusal.specs.Cases.{choose, if_less, if_equal}
use Rattle.time.specs.Time.{max_time}
use Rattle.policy.specs.declared.SchedulingPolicy.{SchedulingPolicy}
use Rattle.policy.specs.PolicyCases.{on_policy}
use Rattle.decisions.specs.declared.Turns.{Turns}
use Rattle.decisions.specs.declared.Taken.{Taken}

-- Both 2^63 at the start (SPECIFICATION 10.1).
abbrev pub new_turns : Turns
new_turns = record { back = 9223372036854775808; front = 9223372036854775808 }

-- One before the last front turn; TurnsSpent where that would be 0 or less (SPECIFICATION 10.1).
unfoldable pub front_turn : Turns → Answer Taken
front_turn c =
    if_less 1 c.front
    (value (record { turn = c.front - 1; turns = record { back = c.back; front = c.front - 1 } }))
    (refused turns_spent)

-- The next turn at the back; TurnsSpent where it is 2^64 - 1 (SPECIFICATION 10.1).
unfoldable pub back_turn : Turns → Answer Taken
back_turn c =
    if_less c.back max_time
    (value (record { turn = c.back; turns = record { back = c.back + 1; front = c.front } }))
    (refused turns_spent)

-- "Others keep their turn unless it is 0."
unfoldable pub kept_turn : ℕ → Turns → Answer Taken
kept_turn turn c = if_equal turn 0 (back_turn c) (value (record { turn = turn; turns = c }))

-- "Front placement takes a front turn only for FIFO." (SPECIFICATION 10.2)
unfoldable pub turn_for : Bool → SchedulingPolicy → ℕ → Turns → Answer Taken
turn_for front p turn c =
    choose front
    (on_policy p (λ priority. front_turn c) (kept_turn turn c) (kept_turn turn c) (kept_turn turn c))
    (back_turn c)
