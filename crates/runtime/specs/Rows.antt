-- What the calls do with the row of a judged record: they read the words that they need and store a budget's runtime
-- alone. RowLaws has that this is what the definitions say of the row's record.
use Rattle.std.specs.Prelude.{ℕ, Bool, true, false, List, Option, Some, None}
use Rattle.refusal.specs.Answer.{Answer, value, refused, already}
use Rattle.refusal.specs.Cases.{choose, given, if_equal, and_then}
use Rattle.time.specs.Time.{checked_add, earliest_of}
use Rattle.policy.specs.Budget.{sound_budget}
use Rattle.budget.specs.declared.BudgetRuntime.{BudgetRuntime}
use Rattle.budget.specs.Runtime as budget
use Rattle.algorithms.specs.declared.FairRuntime.{FairRuntime}
use Rattle.algorithms.specs.declared.PolicyRuntime.TheVariants as runtime
use Rattle.algorithms.specs.declared.Wide.{Wide}
use Rattle.algorithms.specs.Runtime.{zero_pass}
use Rattle.arbitration.specs.declared.Candidate.{Candidate}
use Rattle.arbitration.specs.declared.CpuWindow.{CpuWindow}
use Rattle.arbitration.specs.declared.DispatchMode.{DispatchMode}
use Rattle.arbitration.specs.Calls.{With, with, account_call, next_deadline_call}
use Rattle.thread.specs.declared.ThreadRecord.{ThreadRecord}
use Rattle.policy_words.specs.PolicyWords.{budget_tag, budget_burst, runtime_first, runtime_second, runtime_third}
use Rattle.policy_words.specs.PolicyWords.{policy_tag, fifo_priority, runtime_tag, runtime_fourth}
use Rattle.codec.specs.Codec.{word, policy_from, epoch_from, parameters_of, decoded, ready_turn_word, membership_tag}
use Rattle.rows.specs.Table.{Out, out, after, set_runtime, set_turn}
use Rattle.lists.specs.Lists.{on_answer, on_out}
use Rattle.queue.specs.RowJudgement.{budget_runtime, budget_parameters}
use Rattle.decisions.specs.declared.Contention.{Contention}
use Rattle.decisions.specs.declared.Turns.{Turns}
use Rattle.decisions.specs.OwnDeadline.{borrows, budget_expiry}
use Rattle.decisions.specs.Turns.{turn_for}
use Rattle.runtime.specs.Judging.{judged_at}
use Rattle.runtime.specs.Account.{account_record, settled, pass_of, refreshing, candidate}
use Rattle.runtime.specs.Deadline.{due_at, armed}
use Rattle.runtime.specs.Prepare.{Counted, counted}

-- `is_bad_record` of a row whose policy and runtime are a budget's.
unfoldable pub bad_budget : List ℕ → Bool
bad_budget w = if_equal (word w budget_tag) 0 true (choose (sound_budget (budget_parameters w)) false true)

-- A budget's runtime with its burst whole again.
abbrev pub whole_burst : List ℕ → BudgetRuntime
whole_burst w =
    record {
      epoch = epoch_from (word w runtime_first) (word w runtime_second);
      remaining_ns = word w runtime_third;
      burst_remaining_ns = word w budget_burst;
    }

-- A fair runtime by its words.
abbrev pub fair_runtime : List ℕ → FairRuntime
fair_runtime w =
    record {
      pass = record { high = word w runtime_first; low = word w runtime_second };
      remaining_ns = word w runtime_third;
    }

-- `pass_of` and `spent` by the runtime's tag.
unfoldable pub pass_row : List ℕ → Wide
pass_row w = if_equal (word w runtime_tag) 1
    (record { high = word w runtime_first; low = word w runtime_second }) zero_pass

unfoldable pub spent_row : List ℕ → Bool
spent_row w = if_equal (word w runtime_tag) 1 (if_equal (word w runtime_third) 0 true false)
    (if_equal (word w runtime_tag) 2 (if_equal (word w runtime_fourth) 0 true false) false)

-- A budget's runtime is stored as a call leaves it; a refusal stores nothing.
unfoldable pub budget_stored : List ThreadRecord → ℕ → Answer BudgetRuntime → List ThreadRecord
budget_stored t id a = on_answer a (λ n. t) (λ b. after (set_runtime t id (runtime.Budget b)))

-- The end of a turn: nothing changes where the runtime is not a budget's.
unfoldable pub finished_row : List ThreadRecord → ℕ → List ℕ → List ThreadRecord
finished_row t id w =
    if_equal (word w runtime_tag) 2 (given (budget.turn_finished (budget_runtime w) (budget_parameters w))
    (budget_stored t id)) t

-- An interval charged to a budget.
unfoldable pub charged_row : List ThreadRecord → ℕ → List ℕ → ℕ → ℕ → List ThreadRecord
charged_row t id w start end =
    if_equal (word w runtime_tag) 2 (given
    (budget.accounted_interval (budget_runtime w) start end (budget_parameters w))
    (budget_stored t id)) t

-- A budget refreshed to now, and whether there is time left.
unfoldable pub refreshed_row : List ThreadRecord → ℕ → List ℕ → ℕ → Out Bool
refreshed_row t id w now =
    if_equal (word w runtime_tag) 2
    (on_answer (budget.refreshed_judged (budget_runtime w) now (budget_parameters w))
    (λ n. out true t)
    (λ b. given (after (set_runtime t id (runtime.Budget b)))
    (λ t₁. if_equal b.remaining_ns 0 (out false t₁) (out true t₁))))
    (out true t)

-- The row's record as a candidate.
unfoldable pub candidate_row : List ℕ → Bool → Candidate
candidate_row w available =
    given (pass_of (decoded w).runtime)
    (λ pass. record {
      parameters = parameters_of w;
      fair_pass = pass;
      turn = word w ready_turn_word;
      budget_available = available;
    })

-- A prepared thread: its budget refreshed, and its turn.
unfoldable pub prepared_row : List ThreadRecord → ℕ → List ℕ → ℕ → ℕ → List ThreadRecord
prepared_row t id w now turn = on_out (refreshed_row t id w now) (λ a t₁. after (set_turn t₁ id turn))

-- Already where it is in a list, then the turn, which may be TurnsSpent.
unfoldable pub row_prepared : List ThreadRecord → ℕ → List ℕ → Bool → ℕ → Turns → Out Counted
row_prepared t id w front now c =
    if_equal (word w membership_tag) 0
    (on_answer (turn_for front (policy_from (word w policy_tag) (word w fifo_priority)) (word w ready_turn_word) c)
    (λ n. out (counted (refused n) c) t)
    (λ taken. out (counted (value tt) taken.turns) (prepared_row t id w now taken.turn)))
    (out (counted (refused already) c) t)

-- The budget charged, and the window.
unfoldable pub accounted_row : List ThreadRecord → ℕ → List ℕ → CpuWindow → DispatchMode → ℕ → ℕ → Out (With (Unit {0}))
accounted_row t id w window m start end =
    out (account_call window start end (parameters_of w) m) (charged_row t id w start end)

-- The own deadline of a record without a budget: the end of a fair slice, where anybody is ready.
unfoldable pub slice_end : List ℕ → ℕ → Bool → Bool → Option ℕ
slice_end w now competition ready =
    if_equal (word w runtime_tag) 1 (choose competition
    (choose ready (checked_add now (word w runtime_third)) None) None) None

-- A budget's own deadline, for which it is refreshed.
unfoldable pub refreshed_end : List ThreadRecord → ℕ → List ℕ → ℕ → DispatchMode → Out (Option ℕ)
refreshed_end t id w now m =
    given (borrows m)
    (λ borrow. on_answer (budget.deadline_judged (budget_runtime w) now (budget_parameters w) borrow)
    (λ n. out None t)
    (λ x. out x.1 (after (set_runtime t id (runtime.Budget x.0)))))

-- By its time alone where no budget competes.
unfoldable pub budget_end : List ThreadRecord → ℕ → List ℕ → ℕ → DispatchMode → Bool → Bool → Out (Option ℕ)
budget_end t id w now m competition peer =
    choose competition
    (choose peer
    (refreshed_end t id w now m)
    (given (budget_expiry now (word w runtime_third) (budget_parameters w)) (λ due. out due t)))
    (out None t)

unfoldable pub own_end : List ThreadRecord → ℕ → List ℕ → ℕ → DispatchMode → Contention → Out (Option ℕ)
own_end t id w now m x =
    if_equal (word w runtime_tag) 2
    (budget_end t id w now m x.competition x.budget_peer)
    (given (slice_end w now x.competition x.ready) (λ due. out due t))

-- The earlier of the thread's own deadline and the window's.
unfoldable pub earlier_of : With (Option ℕ) → Option ℕ → With (Option ℕ)
earlier_of (with (value end) w) own = with (value (earliest_of own end)) w
earlier_of (with (refused n) w) own = with (refused n) w

unfoldable pub due_row : List ThreadRecord → ℕ → List ℕ → ℕ → DispatchMode → CpuWindow → Contention
    → Out (With (Option ℕ))
due_row t id w now m window x =
    on_out (own_end t id w now m x)
    (λ own t₁. out (earlier_of (next_deadline_call window now m x.competition x.demand) own) t₁)

-- Without a key: now where anybody competes.
unfoldable pub keyless_due : ℕ → CpuWindow → Bool → With (Option ℕ)
keyless_due now w competition = choose competition (with (value (Some now)) w) (with (value None) w)

-- The calls once the table is not too long and the window is sound.
unfoldable pub account_at : List ThreadRecord → ℕ → CpuWindow → DispatchMode → ℕ → ℕ → Out (With (Unit {0}))
account_at t id w m start end = settled t id w (and_then (judged_at t id) (λ r. account_record r w m start end))

unfoldable pub candidate_at : List ThreadRecord → ℕ → Bool → ℕ → Out (Answer (Option Candidate))
candidate_at t id running now = candidate t id running (and_then (judged_at t id) (λ r. refreshing r now))

unfoldable pub deadline_at : List ThreadRecord → ℕ → ℕ → Option DispatchMode → CpuWindow → Contention
    → Out (With (Option ℕ))
deadline_at t id now m w x = armed t id w (and_then (judged_at t id) (λ r. due_at now r m w x))
