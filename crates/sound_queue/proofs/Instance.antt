-- A small sound queue, by computation: the premises of the theorems can be met, and a budget thread does stand in a
-- partner tree.
use Rattle.std.specs.Prelude.{ℕ, ◌≡◌, refl, true, false, Bool, List, [], ◌∷◌, ◌++◌, length, take, Ok}
use Rattle.std.proofs.Common.{sym, ◌∙◌, arith}
use Rattle.refusal.specs.Answer.{value, refused, damaged}
use Rattle.refusal.specs.Cases.{never, choose, if_less, if_equal, given}
use Rattle.order.specs.Order.{compare_numbers, then_by, compare_parts, on_ordering}
use Rattle.policy.specs.declared.SchedulingPolicy.TheVariants as policy
use Rattle.policy.specs.PolicyCases.{on_policy, on_role, on_backend, on_budget}
use Rattle.policy.specs.Budget.{sound_budget}
use Rattle.algorithms.specs.Runtime.{on_runtime, same_kind, candidate_key}
use Rattle.avl.specs.Rotation.{lean_of, on_lean}
use Rattle.thread.specs.declared.ThreadRecord.{ThreadRecord}
use Rattle.thread.specs.Membership.{on_link, on_membership, on_cpu, is_none, points_to, is_unqueued, is_ready_real_time}
use Rattle.thread.specs.Membership.{is_ready_fair, is_waiting, is_terminated, same_membership, ready_cpu}
use Rattle.thread.specs.Judgement.{has_budget, is_bad_budget, is_bad_record}
use Rattle.thread.specs.Filing.{budget_available_of, role_index, index_for, on_index}
use Rattle.thread.specs.Records.{with_runtime}
use Rattle.thread.specs.TreeKey.{algorithm_key, tree_key, ready_index_key, parts, compare_tree_keys}
use Rattle.rows.specs.Table.{record_of, changed, reading, storing, links_at, key_at, queue_links_at, record_at}
use Rattle.rows.specs.Table.{set_links}
use Rattle.rows.specs.Table.{set_queue_links, out}
use Rattle.rows.specs.TableCases.{on_links, on_key, on_queue_links, on_record, on_made}
use Rattle.lists.specs.Checks.{assigned_to, head_agrees, tail_agrees, ends_agree, preflight_insert, previous_valid}
use Rattle.lists.specs.Checks.{next_valid, validate_neighbors}
use Rattle.lists.specs.Lists.{on_answer, on_out, set_next, set_previous, commit_insert, commit_remove, append, prepend}
use Rattle.lists.specs.Lists.{push}
use Rattle.lists.specs.Lists.{push_front, update_previous_link, update_next_link, unlink}
use Rattle.lists.specs.Lists as list
use Rattle.rotations.specs.Cases.{on_height, on_turned}
use Rattle.ready_index.specs.Cases.{on_rooted, on_way, on_sought}
use Rattle.rotations.specs.Balance.{height, larger, update, rotate_left, rotate_right, balance_left, balance_right}
use Rattle.rotations.specs.Balance.{balance}
use Rattle.ready_index.specs.Index.{way_at, look_for, contains, on_walk, walk, hung, rebuild_step, rebuild, insert}
use Rattle.ready_index.specs.Index.{sought_at, on_search, search, on_successor, successor, replace}
use Rattle.ready_index.specs.Index as index
use Rattle.queue_work.specs.Work.{counted_in, counted_out, total_in, total_out, push_at, insert_work, remove_work}
use Rattle.queue.specs.Queue.{step, new_queue, root_of, list_of, parts_of, with_parts, worked, is_fifo, is_budget}
use Rattle.queue.specs.Queue.{membership_for, judged, enqueue_call, partner, on_contained, tree_with, remove_ready}
use Rattle.queue.specs.Queue.{remove_from, remove_call}
use Rattle.queue.specs.Samples.{nine, enqueue_at, Left, made, and_after, then, left_by, fifo, budget_thread, cpu}
use Rattle.sound_queue.specs.Lists.{list_at, threads_from, threads_of}
use Rattle.sound_queue.specs.Sound.{Sound, nobody, including, excluding, tree_for, removing, Accepted}
use Rattle.sound_queue.specs.Sound.{PriorityFits, MayEnqueue}
use Rattle.sound_queue.specs.PlaceLaws.{same_or_not}
use Rattle.sound_queue.specs.SoundLaws.{included_other}
use Rattle.sound_queue.proofs.Calls.{new_sound, changes_sound, enqueue_sound, remove_sound, remove_accepted}
use Rattle.sound_queue.specs.Runtimes.{refresh_sound}

-- One FIFO thread, then a budget thread with time left at the front.
abbrev one : Left
one = left_by (enqueue_at false 0 ∷ []) new_queue nine

abbrev two : Left
two = left_by (enqueue_at false 0 ∷ enqueue_at true 2 ∷ []) new_queue nine

-- A fair thread, then the budget thread at either end of the list that both stand in.
abbrev fronted : Left
fronted = left_by (enqueue_at false 1 ∷ enqueue_at true 2 ∷ []) new_queue nine

abbrev backed : Left
backed = left_by (enqueue_at false 1 ∷ enqueue_at false 2 ∷ []) new_queue nine

-- The table with a record more, and with the first three records alone.
abbrev longer : List ThreadRecord
longer = two.table ++ budget_thread 1 ∷ []

abbrev shorter : List ThreadRecord
shorter = take 3 two.table

-- Two FIFO threads of different priorities and processors, and a third that has the one's priority and the other's
-- processor.
abbrev mixed : List ThreadRecord
mixed = fifo 5 0 ∷ fifo 6 1 ∷ fifo 5 1 ∷ []

-- The two are enqueued, each by its processor; then the second is removed.
abbrev here : Left
here = then (enqueue_call false mixed new_queue 0 (cpu 0)) (left_by [])

abbrev both : Left
both = then (enqueue_call false here.table here.queue 1 (cpu 1)) (left_by [])

abbrev gone : Left
gone = then (remove_call both.table both.queue 1 (cpu 1)) (left_by [])

-- The two are queued.
abbrev pair : ℕ → Bool
pair = including 2 (including 0 nobody)

-- The budget thread once its time has run out.
abbrev ran_out : List ThreadRecord
ran_out = changed two.table 2 (with_runtime (budget_thread 0).runtime)

-- What computation gives of the sample tables and of these calls.
pub record Computed : Type 0 where
  -- No rule refuses the FIFO thread of the sample table, nor the fair one, nor either budget thread.
  pub may_enqueue : (MayEnqueue (cpu 0) nobody nine 0) × (MayEnqueue (cpu 0) nobody nine 1)
      × (MayEnqueue (cpu 0) nobody nine 2) × (MayEnqueue (cpu 0) nobody nine 3)
  -- Two accepted calls lead to the pair.
  pub first : enqueue_call false nine new_queue 0 (cpu 0) ≡ out (step (value tt) one.queue) one.table
  pub second : enqueue_call true one.table one.queue 2 (cpu 0)
      ≡ out (step (value tt) two.queue) two.table
  -- A longer and a shorter table have the records of the two.
  pub added : (length longer ≡ 10) × (record_at longer 0 ≡ record_at two.table 0)
      × (record_at longer 2 ≡ record_at two.table 2)
  pub dropped : (length shorter ≡ 3) × (record_at shorter 0 ≡ record_at two.table 0)
      × (record_at shorter 2 ≡ record_at two.table 2)
  -- At the front the budget thread is read first, at the back last; it stands in the tree of its filing, in which the
  -- fair thread does not; and the list of priority 5 has none of the two.
  pub at_front_lem : threads_of fronted.table (list_at fronted.queue 0) ≡ 2 ∷ 1 ∷ []
  pub at_back_lem : threads_of backed.table (list_at backed.queue 0) ≡ 1 ∷ 2 ∷ []
  pub in_tree : (contains backed.table (root_of backed.queue (tree_for (record_of nine 2))) 2 ≡ (Ok true))
      × (contains backed.table (root_of backed.queue (tree_for (record_of nine 2))) 1 ≡ (Ok false))
      × (contains backed.table (root_of backed.queue (tree_for (record_of nine 1))) 1 ≡ (Ok true))
  pub elsewhere : threads_of backed.table (list_at backed.queue 6) ≡ []
  -- The second is a queued budget thread of processor 0, and its record is not bad when its time has run out.
  pub queued : pair 2 ≡ true
  pub fits : PriorityFits (record_of one.table 2).parameters.policy
  pub budgeted : (record_of two.table 2).parameters.policy ≡ policy.Budget
  pub judged : is_bad_record (with_runtime (budget_thread 0).runtime (record_of two.table 2)) ≡ false
  pub assigned : (record_of ran_out 2).cpu.0 ≡ (cpu 0).0
  -- Threads of two processors stand in one queue, each in its list; one of them is removed by its own processor, and
  -- not by the other's; a third does not join a list of the other processor.
  pub ours : enqueue_call false mixed new_queue 0 (cpu 0) ≡ out (step (value tt) here.queue) here.table
  pub theirs : enqueue_call false here.table here.queue 1 (cpu 1)
      ≡ out (step (value tt) both.queue) both.table
  pub priority : PriorityFits (record_of here.table 1).parameters.policy
  pub lists : (threads_of both.table (list_at both.queue 6) ≡ 0 ∷ [])
      × (threads_of both.table (list_at both.queue 7) ≡ 1 ∷ [])
  pub not_joined : enqueue_call false both.table both.queue 2 (cpu 1)
      ≡ out (step (refused damaged) both.queue) both.table
  pub not_removed : remove_call both.table both.queue 1 (cpu 0)
      ≡ out (step (refused damaged) both.queue) both.table
  pub removed : remove_call both.table both.queue 1 (cpu 1) ≡ out (step (value tt) gone.queue) gone.table
  pub left : threads_of gone.table (list_at gone.queue 7) ≡ []

pub computed : Computed
unfolding choose if_less if_equal given compare_numbers then_by compare_parts on_ordering on_policy on_role on_backend
    on_budget sound_budget on_runtime same_kind candidate_key lean_of on_lean on_link on_membership on_cpu is_none
    points_to is_unqueued is_ready_real_time is_ready_fair is_waiting is_terminated same_membership ready_cpu has_budget
    is_bad_budget is_bad_record budget_available_of role_index index_for on_index algorithm_key tree_key ready_index_key
    parts compare_tree_keys record_of changed reading storing links_at key_at queue_links_at record_at set_links
    set_queue_links on_links on_key on_queue_links on_record on_made assigned_to head_agrees tail_agrees ends_agree
    preflight_insert previous_valid next_valid validate_neighbors on_answer on_out set_next set_previous commit_insert
    commit_remove append prepend push push_front update_previous_link update_next_link unlink list.remove on_height
    on_turned on_rooted on_way on_sought height larger update rotate_left rotate_right balance_left balance_right
    balance way_at look_for contains on_walk walk hung rebuild_step rebuild insert sought_at on_search search
    on_successor successor replace index.remove counted_in counted_out total_in total_out push_at insert_work
    remove_work list_of parts_of with_parts worked is_fifo is_budget membership_for judged enqueue_call partner
    on_contained tree_with remove_ready remove_from remove_call made and_after then left_by including tree_for list_at
    threads_from
computed = record {
  may_enqueue = (
    record {
      below = omega arith;
      judged = refl;
      not_idle = λ e. never cc;
      unqueued = refl;
      assigned = refl;
      fits = omega arith;
      ours = λ j e f. never cc;
    },
    record {
      below = omega arith;
      judged = refl;
      not_idle = λ e. never cc;
      unqueued = refl;
      assigned = refl;
      fits = tt;
      ours = λ j e f. never cc;
    },
    record {
      below = omega arith;
      judged = refl;
      not_idle = λ e. never cc;
      unqueued = refl;
      assigned = refl;
      fits = tt;
      ours = λ j e f. never cc;
    },
    record {
      below = omega arith;
      judged = refl;
      not_idle = λ e. never cc;
      unqueued = refl;
      assigned = refl;
      fits = tt;
      ours = λ j e f. never cc;
    },
  );
  first = refl;
  second = refl;
  added = (refl, refl, refl);
  dropped = (refl, refl, refl);
  at_front_lem = refl;
  at_back_lem = refl;
  in_tree = (refl, refl, refl);
  elsewhere = refl;
  queued = refl;
  fits = tt;
  budgeted = refl;
  judged = refl;
  assigned = refl;
  ours = refl;
  theirs = refl;
  priority = omega arith;
  lists = (refl, refl);
  not_joined = refl;
  not_removed = refl;
  removed = refl;
  left = refl;
}

-- The queue is sound,
one_sound : Sound (including 0 nobody) one.queue one.table
unfolding record_of
one_sound =
    (enqueue_sound (new_sound nine (omega arith)) (cpu 0) 0 false one.queue one.table (omega arith)
    computed.first).sound

pub two_sound : Sound pair two.queue two.table
two_sound = (enqueue_sound one_sound (cpu 0) 2 true two.queue two.table computed.fits computed.second).sound

-- with a record added behind, or all behind the two dropped,
pair_of : {A : Type 0} (j : ℕ) → pair j ≡ true → (j ≡ 0 → A) → (j ≡ 2 → A) → A
pair_of j e f g = same_or_not j 2 g (λ x. same_or_not j 0 f
    (λ y. absurd (let z : false ≡ true =
    sym (included_other 2 (including 0 nobody) j x ∙ included_other 0 nobody j y) ∙ e in never cc)))

pub longer_sound : Sound pair two.queue longer
longer_sound =
    let a = computed.added in changes_sound two_sound longer (omega (arith, a.0))
    (λ j e. pair_of j e (λ z. rw z a.1) (λ z. rw z a.2))

pub shorter_sound : Sound pair two.queue shorter
shorter_sound =
    let a = computed.dropped in changes_sound two_sound shorter (omega (arith, a.0))
    (λ j e. pair_of j e (λ z. rw z a.1) (λ z. rw z a.2))

-- also when the budget thread's time has run out, so that it stands in the partner of the tree of its filing;
pub exhausted_sound : Sound pair two.queue ran_out
exhausted_sound =
    refresh_sound two_sound 2 (budget_thread 0).runtime computed.queued computed.budgeted computed.judged

-- from there it is removed, and the FIFO thread alone is queued.
pub exhausted_removed : Accepted exhausted_sound (removing 2) (remove_call ran_out two.queue 2 (cpu 0))
exhausted_removed = remove_accepted exhausted_sound (cpu 0) 2 computed.queued computed.assigned

pub alone_queued : (excluding 2 pair 0 ≡ true) × (excluding 2 pair 2 ≡ false) × (excluding 2 pair 1 ≡ false)
unfolding including excluding choose
alone_queued = (refl, refl, refl)

-- The queue with threads of two processors is sound, and so it is once the one is removed.
here_sound : Sound (including 0 nobody) here.queue here.table
unfolding record_of
here_sound =
    (enqueue_sound (new_sound mixed (omega arith)) (cpu 0) 0 false here.queue here.table (omega arith)
    computed.ours).sound

pub both_sound : Sound (including 1 (including 0 nobody)) both.queue both.table
both_sound =
    (enqueue_sound here_sound (cpu 1) 1 false both.queue both.table computed.priority computed.theirs).sound

pub gone_sound : Sound (excluding 1 (including 1 (including 0 nobody))) gone.queue gone.table
gone_sound = (remove_sound both_sound (cpu 1) 1 gone.queue gone.table computed.removed).sound
