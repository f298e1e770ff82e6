-- The choice of deadline. After `refresh_deadline` of scheduler/state/runtime.rs; what is published of it is left out.
use Rattle.std.specs.Prelude.{ℕ, List, Option, Some, None}
use Rattle.refusal.specs.Answer.{Answer, value, refused}
use Rattle.refusal.specs.Cases.{choose, given, and_then}
use Rattle.time.specs.Time.{earliest_of}
use Rattle.thread.specs.declared.ThreadRecord.{ThreadRecord}
use Rattle.arbitration.specs.declared.CpuWindow.{CpuWindow}
use Rattle.arbitration.specs.declared.DispatchMode.{DispatchMode}
use Rattle.arbitration.specs.Calls.{With, with, next_deadline_call}
use Rattle.rows.specs.Table.{Out, out, after, set_runtime}
use Rattle.decisions.specs.declared.Contention.{Contention}
use Rattle.decisions.specs.OwnDeadline.{on_key_mode, own_deadline}
use Rattle.runtime.specs.declared.Due.{Due}
use Rattle.runtime.specs.Judging.{judged_with, on_with}

-- With a key of this mode: the earlier of the thread's own deadline and the window's; runtime and window are refreshed
-- as the two do it.
unfoldable pub due_with : ℕ → ThreadRecord → DispatchMode → CpuWindow → Contention → Answer Due
due_with now r m w x =
    and_then (own_deadline now r.runtime r.parameters m x)
    (λ own. on_with (next_deadline_call w now m x.competition x.demand) refused
    (λ end fresh. given (earliest_of own.1 end)
    (λ due. value (record { runtime = own.0; window = fresh; deadline = due }))))

-- Without a key: now where anybody competes.
unfoldable pub due_without : ℕ → ThreadRecord → CpuWindow → Contention → Due
due_without now r w x =
    choose x.competition
    (record { runtime = r.runtime; window = w; deadline = Some now })
    (record { runtime = r.runtime; window = w; deadline = None })

-- Of a judged record.
unfoldable pub due_at : ℕ → ThreadRecord → Option DispatchMode → CpuWindow → Contention → Answer Due
due_at now r m w x = on_key_mode m (given (due_without now r w x) value) (λ mode. due_with now r mode w x)

unfoldable pub due_of : List ThreadRecord → ℕ → ℕ → Option DispatchMode → CpuWindow → Contention → Answer Due
due_of t id now m w x = and_then (judged_with t id w) (λ r. due_at now r m w x)

-- A refusal leaves record and window unchanged.
unfoldable pub armed : List ThreadRecord → ℕ → CpuWindow → Answer Due → Out (With (Option ℕ))
armed t id w (value d) = out (with (value d.deadline) d.window) (after (set_runtime t id d.runtime))
armed t id w (refused n) = out (with (refused n) w) t

-- SPECIFICATION 10.6.
unfoldable pub refresh_deadline : List ThreadRecord → ℕ → ℕ → Option DispatchMode → CpuWindow → Contention
    → Out (With (Option ℕ))
refresh_deadline t id now m w x = armed t id w (due_of t id now m w x)
