-- Accounting of one record and the window between two readings, the end of a turn, and the current thread as a
-- candidate. After `account_current`,
-- `choose_ready` and `current_candidate` of scheduler/state/runtime.rs.
use Rattle.std.specs.Prelude.{ℕ, Bool, true, false, List, Option, Some, None}
use Rattle.refusal.specs.Answer.{Answer, value, refused}
use Rattle.refusal.specs.Cases.{choose, if_equal, given, and_then}
use Rattle.algorithms.specs.declared.Wide.{Wide}
use Rattle.algorithms.specs.declared.PolicyRuntime.{PolicyRuntime}
use Rattle.algorithms.specs.Runtime.{on_runtime, zero_pass, accounted, epoch_refreshed, turn_finished}
use Rattle.thread.specs.declared.ThreadRecord.{ThreadRecord}
use Rattle.arbitration.specs.declared.Candidate.{Candidate}
use Rattle.arbitration.specs.declared.CpuWindow.{CpuWindow}
use Rattle.arbitration.specs.declared.DispatchMode.{DispatchMode}
use Rattle.arbitration.specs.Calls.{With, with, account_call}
use Rattle.rows.specs.Table.{Out, out, after, set_runtime}
use Rattle.decisions.specs.Switch.{spent}
use Rattle.runtime.specs.declared.Accounting.{Accounting}
use Rattle.runtime.specs.declared.Refreshed.{Refreshed}
use Rattle.runtime.specs.Judging.{judged, judged_with, on_with, stored}

-- Of a judged record: the runtime accounted, which may be BackInTime, then the window charged. A fair record's pass and
-- slice stay, and the window is still charged.
unfoldable pub account_record : ThreadRecord → CpuWindow → DispatchMode → ℕ → ℕ → Answer Accounting
account_record r w m start end =
    and_then (accounted r.runtime r.parameters start end)
    (λ x. on_with (account_call w start end r.parameters m) refused
    (λ u charged. value (record { runtime = x; window = charged })))

unfoldable pub accounting : List ThreadRecord → ℕ → CpuWindow → DispatchMode → ℕ → ℕ → Answer Accounting
accounting t id w m start end = and_then (judged_with t id w) (λ r. account_record r w m start end)

-- A refusal leaves record and window unchanged.
unfoldable pub settled : List ThreadRecord → ℕ → CpuWindow → Answer Accounting → Out (With (Unit {0}))
settled t id w (value a) = out (with (value tt) a.window) (after (set_runtime t id a.runtime))
settled t id w (refused n) = out (with (refused n) w) t

-- SPECIFICATION 10.3.
unfoldable pub account_current : List ThreadRecord → ℕ → CpuWindow → DispatchMode → ℕ → ℕ → Out (With (Unit {0}))
account_current t id w m start end = settled t id w (accounting t id w m start end)

-- The end of a turn: a budget's burst is whole again.
unfoldable pub finishing : List ThreadRecord → ℕ → Answer PolicyRuntime
finishing t id = and_then (judged t id) (λ r. turn_finished r.runtime r.parameters)

-- SPECIFICATION 10.4.
unfoldable pub finish_turn : List ThreadRecord → ℕ → Out (Answer (Unit {0}))
finish_turn t id = stored t id (finishing t id)

-- A fair thread's pass, whatever its backend; else 0.
unfoldable pub pass_of : PolicyRuntime → Wide
pass_of x = on_runtime x zero_pass (λ fair. fair.pass) (λ b. zero_pass) zero_pass

-- Whether there is time left; so of every thread without a budget.
unfoldable pub has_time : PolicyRuntime → Bool
has_time x = on_runtime x true (λ fair. true) (λ b. if_equal b.remaining_ns 0 false true) true

-- The candidate that a record is with this runtime.
unfoldable pub candidate_of : ThreadRecord → PolicyRuntime → Candidate
candidate_of r x =
    given (pass_of x)
    (λ pass. given (has_time x)
    (λ available. record {
      parameters = r.parameters;
      fair_pass = pass;
      turn = r.ready_turn;
      budget_available = available;
    }))

unfoldable pub refreshing : ThreadRecord → ℕ → Answer Refreshed
refreshing r now =
    and_then (epoch_refreshed r.runtime now r.parameters)
    (λ x. given (candidate_of r x) (λ c. value (record { runtime = x; candidate = c })))

unfoldable pub refreshing_at : List ThreadRecord → ℕ → ℕ → Answer Refreshed
refreshing_at t id now = and_then (judged t id) (λ r. refreshing r now)

-- None where the thread is not Running, and then nothing is stored.
unfoldable pub candidate : List ThreadRecord → ℕ → Bool → Answer Refreshed → Out (Answer (Option Candidate))
candidate t id running (value f) =
    choose running (out (value (Some f.candidate)) (after (set_runtime t id f.runtime))) (out (value None) t)
candidate t id running (refused n) = out (refused n) t

-- The current thread as selection and keys take it: refreshed to now where it is Running, else none.
-- (SPECIFICATION 10.4).
unfoldable pub current_candidate : List ThreadRecord → ℕ → Bool → ℕ → Out (Answer (Option Candidate))
current_candidate t id running now = candidate t id running (refreshing_at t id now)

-- A candidate stored over another, which stays at a refusal and where there is none.
unfoldable pub candidate_stored : Candidate → Out (Answer (Option Candidate)) → Out (Answer (Unit {0}) × Candidate)
candidate_stored before (out (value (Some c)) t) = out (value tt, c) t
candidate_stored before (out (value None) t) = out (value tt, before) t
candidate_stored before (out (refused n) t) = out (refused n, before) t

-- `expired` of the record with this number (SPECIFICATION 10.4).
unfoldable pub expired : List ThreadRecord → ℕ → Answer Bool
expired t id = and_then (judged t id) (λ r. given (spent r.runtime) value)
