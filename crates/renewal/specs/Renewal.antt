-- The change of period: every thread of the exhausted trees is refreshed and filed as ready. After the first loop of
-- `CpuRunQueue::peek_next`.
use Rattle.std.specs.Prelude.{ℕ, zero, suc, ◌+◌, ◌-◌, Bool, true, false, List, eqb, length, get_or, set, Option, Some}
use Rattle.std.specs.Prelude.{None}
use Rattle.refusal.specs.Answer.{Answer, value, refused, damaged, queue_halted, bad_record, or_damaged}
use Rattle.refusal.specs.Cases.{choose, given}
use Rattle.policy.specs.PolicyCases.{on_budget}
use Rattle.algorithms.specs.Runtime.{epoch_refreshed}
use Rattle.thread.specs.declared.ThreadRecord.{ThreadRecord}
use Rattle.thread.specs.Membership.{on_link}
use Rattle.thread.specs.Records.{with_runtime}
use Rattle.thread.specs.Judgement.{is_bad_record}
use Rattle.rows.specs.Table.{Out, out, after, record_at, set_runtime}
use Rattle.rows.specs.TableCases.{on_record}
use Rattle.lists.specs.Lists.{on_answer, on_out}
use Rattle.ready_index.specs.Cases.{on_rooted}
use Rattle.ready_index.specs.Index as index
use Rattle.queue.specs.declared.Root.{Root}
use Rattle.queue.specs.Queue.{empty_root}
use Rattle.renewal.specs.declared.BudgetTrees.{BudgetTrees}
use Rattle.renewal.specs.Parts.{SelectionParts}
use Rattle.renewal.specs.Leaves.{Leaves, leaves, on_leaves}
use Rattle.thread.specs.Filing.{budget_exhausted, budget_ready}

-- The head of a tree, or none of an empty tree; an error on the way to it is Damaged.
unfoldable pub head_of : List ThreadRecord → Option ℕ → Answer (Option ℕ)
head_of t root = or_damaged (index.first t root)

-- A record that was read: judged, then refreshed to now, and stored where it has a budget (`refresh_runtime`). The
-- answer is the record as it then stands.
unfoldable pub refresh_record : List ThreadRecord → ℕ → ThreadRecord → ℕ → Out (Answer ThreadRecord)
refresh_record t id r now =
    choose (is_bad_record r) (out (refused bad_record) t)
    (on_budget r.parameters.budget (out (value r) t)
    (λ b. on_answer (epoch_refreshed r.runtime now r.parameters)
    (λ n. out (refused bad_record) t)
    (λ x. out (value (with_runtime x r)) (after (set_runtime t id x)))))

unfoldable pub refresh_runtime : List ThreadRecord → ℕ → ℕ → Out (Answer ThreadRecord)
refresh_runtime t id now = on_record (record_at t id) (out (refused damaged) t) (λ r. refresh_record t id r now)

abbrev pub budget_trees : Option ℕ → Option ℕ → ℕ → BudgetTrees
budget_trees exhausted ready moves = record { exhausted = exhausted; ready = ready; moves = moves }

-- One thread out of the exhausted tree, refreshed, and into the ready one. Any error in a tree's removal or insertion
-- is Halted (SPECIFICATION 9.2).
unfoldable pub move_one : List ThreadRecord → BudgetTrees → ℕ → ℕ → Out (Leaves (Unit {0}) BudgetTrees)
move_one t trees id now =
    on_rooted (index.remove t trees.exhausted id)
    (λ t₁. out (leaves (refused queue_halted) trees) t₁)
    (λ rest t₁. on_out (refresh_runtime t₁ id now)
    (λ a t₂. on_answer a
    (λ n. out (leaves (refused n) (budget_trees rest trees.ready trees.moves)) t₂)
    (λ r. on_rooted (index.insert t₂ trees.ready id)
    (λ t₃. out (leaves (refused queue_halted) (budget_trees rest trees.ready trees.moves)) t₃)
    (λ top t₃. out (leaves (value tt) (budget_trees rest top trees.moves)) t₃))))

-- Until the exhausted tree is empty, in so many moves at most: the move beyond is Damaged before its first store.
unfoldable pub move_all : ℕ → List ThreadRecord → Option ℕ → Option ℕ → ℕ → Out (Leaves (Unit {0}) BudgetTrees)
move_all zero t exhausted ready now =
    on_answer (head_of t exhausted)
    (λ n. out (leaves (refused n) (budget_trees exhausted ready 0)) t)
    (λ head. on_link head
    (out (leaves (value tt) (budget_trees exhausted ready 0)) t)
    (λ id. out (leaves (refused damaged) (budget_trees exhausted ready 0)) t))
move_all (suc moves) t exhausted ready now =
    on_answer (head_of t exhausted)
    (λ n. out (leaves (refused n) (budget_trees exhausted ready (suc moves))) t)
    (λ head. on_link head
    (out (leaves (value tt) (budget_trees exhausted ready (suc moves))) t)
    (λ id. on_out (move_one t (budget_trees exhausted ready moves) id now)
    (λ s t₁. on_leaves s
    (λ n trees. out (leaves (refused n) trees) t₁)
    (λ u trees. move_all moves t₁ trees.exhausted trees.ready now))))

abbrev pub root_at : List Root → ℕ → Option ℕ
root_at roots k = (get_or roots k empty_root).root

-- The roots of a role's budget trees stored back.
unfoldable pub with_trees : List Root → ℕ → BudgetTrees → List Root
with_trees roots role trees =
    set (set roots (budget_exhausted + role) (record { root = trees.exhausted })) (budget_ready + role)
    (record { root = trees.ready })

-- The last so many roles in turn, with so many moves left for all of them together.
unfoldable pub renew_roles : ℕ → ℕ → List ThreadRecord → List Root → ℕ → Out (Leaves (Unit {0}) (List Root))
renew_roles zero moves t roots now = out (leaves (value tt) roots) t
renew_roles (suc left) moves t roots now =
    given (2 - left)
    (λ role. on_out (move_all moves t (root_at roots (budget_exhausted + role))
    (root_at roots (budget_ready + role)) now)
    (λ s t₁. on_leaves s
    (λ n trees. out (leaves (refused n) (with_trees roots role trees)) t₁)
    (λ u trees. renew_roles left trees.moves t₁ (with_trees roots role trees) now)))

-- `budget_epoch == Some(epoch)`.
unfoldable pub is_epoch : Option ℕ → ℕ → Bool
is_epoch None e = false
is_epoch (Some last) e = eqb last e

-- Halted leaves the mark.
unfoldable pub is_halt : ℕ → Bool
is_halt n = eqb n queue_halted

-- At any change of epoch, also backward or from none, all three roles in as many moves as there are records; then the
-- epoch is stored. A refusal leaves the roots as they were stored up to there, and the epoch as it was.
-- (SPECIFICATION 9.2).
unfoldable pub renew : List ThreadRecord → SelectionParts → ℕ → ℕ → Out (Leaves (Unit {0}) SelectionParts)
renew t p now e =
    choose (is_epoch p.budget_epoch e) (out (leaves (value tt) p) t)
    (on_out (renew_roles 3 (length t) t p.indices now)
    (λ s t₁. on_leaves s
    (λ n roots. out (leaves (refused n)
    (record { indices = roots; budget_epoch = p.budget_epoch; halted = choose (is_halt n) true p.halted })) t₁)
    (λ u roots. out (leaves (value tt)
    (record { indices = roots; budget_epoch = Some e; halted = p.halted })) t₁)))
