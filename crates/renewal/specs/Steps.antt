-- Parts of the change of period that have a function of their own; each is a part of a definition's text, or the
-- definition goes by it (RenewalLaws).
use Rattle.std.specs.Prelude.{ℕ, ◌+◌, ◌-◌, List, Option}
use Rattle.refusal.specs.Answer.{Answer, value, refused, damaged, queue_halted, bad_record}
use Rattle.refusal.specs.Cases.{choose, given}
use Rattle.policy.specs.PolicyCases.{on_budget}
use Rattle.algorithms.specs.declared.PolicyRuntime.{PolicyRuntime}
use Rattle.algorithms.specs.Runtime.{epoch_refreshed}
use Rattle.thread.specs.declared.ThreadRecord.{ThreadRecord}
use Rattle.thread.specs.Judgement.{is_bad_record}
use Rattle.thread.specs.Membership.{on_link}
use Rattle.rows.specs.Table.{Out, out, after, record_at, set_runtime}
use Rattle.rows.specs.TableCases.{on_record}
use Rattle.lists.specs.Lists.{on_answer, on_out}
use Rattle.ready_index.specs.Cases.{on_rooted}
use Rattle.ready_index.specs.Index as index
use Rattle.renewal.specs.declared.BudgetTrees.{BudgetTrees}
use Rattle.queue.specs.declared.Root.{Root}
use Rattle.renewal.specs.Leaves.{Leaves, leaves, on_leaves}
use Rattle.renewal.specs.Renewal.{head_of, budget_trees, move_one, move_all, root_at, with_trees}
use Rattle.thread.specs.Filing.{budget_exhausted, budget_ready}

-- The runtime of a budget that was refreshed, stored.
unfoldable pub refreshed_stored : List ThreadRecord → ℕ → Answer PolicyRuntime → Out (Answer (Unit {0}))
refreshed_stored t id a = on_answer a (λ n. out (refused bad_record) t)
    (λ x. out (value tt) (after (set_runtime t id x)))

-- The budget of a record refreshed to now.
unfoldable pub budget_refreshed : List ThreadRecord → ℕ → ℕ → Out (Answer (Unit {0}))
budget_refreshed t id now =
    on_record (record_at t id) (out (refused damaged) t)
    (λ r. given (epoch_refreshed r.runtime now r.parameters) (λ a. refreshed_stored t id a))

-- A record that was read: judged, then refreshed where it has a budget. What it then is stands in the table.
unfoldable pub row_refreshed : List ThreadRecord → ℕ → ThreadRecord → ℕ → Out (Answer (Unit {0}))
row_refreshed t id r now =
    choose (is_bad_record r) (out (refused bad_record) t)
    (on_budget r.parameters.budget (out (value tt) t) (λ b. budget_refreshed t id now))

unfoldable pub runtime_refreshed : List ThreadRecord → ℕ → ℕ → Out (Answer (Unit {0}))
runtime_refreshed t id now = on_record (record_at t id) (out (refused damaged) t) (λ r. row_refreshed t id r now)

-- The second half of a move.
abbrev pub refiled : List ThreadRecord → BudgetTrees → ℕ → ℕ → Out (Leaves (Unit {0}) BudgetTrees)
refiled t trees id now =
    on_out (runtime_refreshed t id now)
    (λ a t₂. on_answer a
    (λ n. out (leaves (refused n) trees) t₂)
    (λ u. on_rooted (index.insert t₂ trees.ready id)
    (λ t₃. out (leaves (refused queue_halted) trees) t₃)
    (λ top t₃. out (leaves (value tt) (budget_trees trees.exhausted top trees.moves)) t₃)))

-- What the next move found: an empty tree, a thread that it moved, or a refusal.
pub data Next : Type 0 where
  emptied : Next
  moved : BudgetTrees → Next
  stopped : ℕ → BudgetTrees → Next

unfoldable pub on_next : {A : Type 0} → Out Next → (List ThreadRecord → A) → (BudgetTrees → List ThreadRecord → A)
    → (ℕ → BudgetTrees → List ThreadRecord → A) → A
on_next (out emptied t) a f g = a t
on_next (out (moved trees) t) a f g = f trees t
on_next (out (stopped n trees) t) a f g = g n trees t

-- With so many moves left, of which there is one.
unfoldable pub next_move : ℕ → List ThreadRecord → Option ℕ → Option ℕ → ℕ → Out Next
next_move moves t exhausted ready now =
    on_answer (head_of t exhausted)
    (λ n. out (stopped n (budget_trees exhausted ready moves)) t)
    (λ head. on_link head
    (out emptied t)
    (λ id. on_out (move_one t (budget_trees exhausted ready (moves - 1)) id now)
    (λ s t₁. on_leaves s
    (λ n trees. out (stopped n trees) t₁)
    (λ u trees. out (moved trees) t₁))))

-- With no move left.
unfoldable pub last_move : List ThreadRecord → Option ℕ → Option ℕ → Out (Leaves (Unit {0}) BudgetTrees)
last_move t exhausted ready =
    on_answer (head_of t exhausted)
    (λ n. out (leaves (refused n) (budget_trees exhausted ready 0)) t)
    (λ head. on_link head
    (out (leaves (value tt) (budget_trees exhausted ready 0)) t)
    (λ id. out (leaves (refused damaged) (budget_trees exhausted ready 0)) t))

-- The moves of one role: how many it leaves, and the roots.
unfoldable pub role_renewed : ℕ → ℕ → List ThreadRecord → List Root → ℕ → Out (Leaves ℕ (List Root))
role_renewed role moves t roots now =
    on_out (move_all moves t (root_at roots (budget_exhausted + role)) (root_at roots (budget_ready + role)) now)
    (λ s t₁. on_leaves s
    (λ n trees. out (leaves (refused n) (with_trees roots role trees)) t₁)
    (λ u trees. out (leaves (value trees.moves) (with_trees roots role trees)) t₁))
