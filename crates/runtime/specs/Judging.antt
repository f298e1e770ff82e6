-- The judgement of the named record, which every call over the table starts with.
use Rattle.std.specs.Prelude.{ℕ, List, length}
use Rattle.refusal.specs.Answer.{Answer, value, refused, no_thread, bad_config, bad_table, bad_record}
use Rattle.refusal.specs.Cases.{choose, if_less}
use Rattle.algorithms.specs.declared.PolicyRuntime.{PolicyRuntime}
use Rattle.thread.specs.declared.ThreadRecord.{ThreadRecord}
use Rattle.thread.specs.Judgement.{is_bad_record}
use Rattle.arbitration.specs.declared.CpuWindow.{CpuWindow}
use Rattle.window_config.specs.Config.{sound_config}
use Rattle.arbitration.specs.Calls.{With, with}
use Rattle.rows.specs.Table.{Out, out, after, record_at, set_runtime}
use Rattle.rows.specs.TableCases.{on_record}
use Rattle.queue.specs.Queue.{max_records}

-- NoThread, then BadRecord.
unfoldable pub judged_at : List ThreadRecord → ℕ → Answer ThreadRecord
judged_at t id = on_record (record_at t id) (refused no_thread)
    (λ r. choose (is_bad_record r) (refused bad_record) (value r))

-- BadTable before them.
unfoldable pub judged : List ThreadRecord → ℕ → Answer ThreadRecord
judged t id = if_less max_records (length t) (refused bad_table) (judged_at t id)

-- Of a call that is handed a window: BadTable, BadConfig, NoThread, BadRecord, in that order.
unfoldable pub judged_with : List ThreadRecord → ℕ → CpuWindow → Answer ThreadRecord
judged_with t id w =
    if_less max_records (length t) (refused bad_table)
    (choose (sound_config w.config) (judged_at t id) (refused bad_config))

-- By the answer of a window's call: the number of its refusal, or its value and the window as it is left.
unfoldable pub on_with : {A B : Type 0} → With A → (ℕ → B) → (A → CpuWindow → B) → B
on_with (with (value a) w) g f = f a w
on_with (with (refused n) w) g f = g n

-- A runtime is stored; a refusal leaves the table as it was.
unfoldable pub stored : List ThreadRecord → ℕ → Answer PolicyRuntime → Out (Answer (Unit {0}))
stored t id (value x) = out (value tt) (after (set_runtime t id x))
stored t id (refused n) = out (refused n) t
