-- The definitions that a list of calls and a selection go through, under one name, so that a file that computes with
-- them says `unfolding computing` and lists none.
use Rattle.refusal.specs.Cases.{choose, if_less, if_equal, given}
use Rattle.refusal.specs.Answer.{or_damaged}
use Rattle.order.specs.Order.{compare_numbers, then_by, compare_parts, on_ordering}
use Rattle.time.specs.Time.{rises, period_start, checked_add, period_end, on_deadline}
use Rattle.policy.specs.PolicyCases.{on_policy, on_role, on_backend, on_budget}
use Rattle.policy.specs.Budget.{sound_budget}
use Rattle.budget.specs.Runtime as budget
use Rattle.algorithms.specs.Runtime.{on_runtime, same_kind, candidate_key, epoch_refreshed, of_budget}
use Rattle.avl.specs.Rotation.{lean_of, on_lean}
use Rattle.window_config.specs.Config.{sound_config, ranks_rise, accepts_budget, same_backend, admitted}
use Rattle.arbitration.specs.Window.{is_priority, is_protected, protection_deadline, due_at}
use Rattle.arbitration.specs.Window as windows
use Rattle.arbitration.specs.Key.{exhausted_of, shut_out, strict_fifo, hurried, favoured, algorithm_of, on_algorithm}
use Rattle.arbitration.specs.Key.{ordinary_rank, tier_of, key_of, compare_keys}
use Rattle.thread.specs.Membership.{on_link, on_membership, on_cpu, is_none, points_to, is_unqueued, is_ready_real_time}
use Rattle.thread.specs.Membership.{is_ready_fair, is_waiting, is_terminated, same_membership, ready_cpu, is_ready_on}
use Rattle.thread.specs.Judgement.{has_budget, is_bad_budget, is_bad_record}
use Rattle.thread.specs.Filing.{budget_available_of, role_index, index_for, on_index}
use Rattle.thread.specs.TreeKey.{algorithm_key, tree_key, ready_index_key, parts, compare_tree_keys}
use Rattle.rows.specs.Table.{record_of, changed, reading, storing, links_at, key_at, queue_links_at, record_at}
use Rattle.rows.specs.Table.{set_links}
use Rattle.rows.specs.Table.{set_queue_links, set_runtime}
use Rattle.rows.specs.TableCases.{on_links, on_key, on_queue_links, on_record, on_made}
use Rattle.lists.specs.Checks.{assigned_to, head_agrees, tail_agrees, ends_agree, preflight_insert, previous_valid}
use Rattle.lists.specs.Checks.{next_valid}
use Rattle.lists.specs.Checks.{validate_neighbors}
use Rattle.lists.specs.Lists.{on_answer, on_out, set_next, set_previous, commit_insert, commit_remove, append, prepend}
use Rattle.lists.specs.Lists.{push}
use Rattle.lists.specs.Lists.{push_front, update_previous_link, update_next_link, unlink}
use Rattle.lists.specs.Lists as list
use Rattle.rotations.specs.Cases.{on_height, on_turned}
use Rattle.ready_index.specs.Cases.{on_rooted, on_way, on_sought}
use Rattle.rotations.specs.Balance.{height, larger, update, rotate_left, rotate_right, balance_left, balance_right}
use Rattle.rotations.specs.Balance.{balance}
use Rattle.ready_index.specs.Index.{descend, first, way_at, look_for, contains, on_walk, walk, hung, rebuild_step}
use Rattle.ready_index.specs.Index.{rebuild}
use Rattle.ready_index.specs.Index.{insert, sought_at, on_search, search, on_successor, successor, replace}
use Rattle.ready_index.specs.Index as index
use Rattle.queue_work.specs.Work.{counted_in, counted_out, total_in, total_out, push_at, insert_work, remove_work}
use Rattle.queue.specs.Queue.{list_of, parts_of, with_parts, worked, is_fifo, is_budget, membership_for, judged}
use Rattle.queue.specs.Queue.{enqueue_call}
use Rattle.queue.specs.Queue.{partner, on_contained, tree_with, remove_ready, remove_from, remove_call}
use Rattle.renewal.specs.Leaves.{on_leaves}
use Rattle.demands.specs.Demands.{candidate_of, demand_of, either, joined, add_demand, compare_passes, lesser_pass}
use Rattle.demands.specs.Demands.{on_pass}
use Rattle.demands.specs.Demands.{lowest_pass, gathered, on_candidate, of_current}
use Rattle.renewal.specs.Renewal.{head_of, refresh_record, refresh_runtime, move_one, move_all, with_trees}
use Rattle.renewal.specs.Renewal.{renew_roles, is_epoch, is_halt, renew}
use Rattle.selection.specs.Heads.{head_at, gather_heads, on_ready, on_key_option, comes_before, lesser_ready}
use Rattle.selection.specs.Heads.{ready_with}
use Rattle.selection.specs.Heads.{least_of}
use Rattle.selection.specs.Peek.{chosen, peek_running, peek_parts, selection_parts, with_selection_parts, restored}
use Rattle.selection.specs.Peek.{peek_next}
use Rattle.sound_queue.specs.Sound.{including, excluding}
use Rattle.sound_selection.specs.Claim.{refreshed_to, filed_ready, after, after_all}

unfoldable pub computing : Unit {0}
unfolding choose if_less if_equal given compare_numbers then_by compare_parts on_ordering on_policy on_role on_backend
    on_budget sound_budget on_runtime same_kind candidate_key lean_of on_lean on_link on_membership on_cpu is_none
    points_to is_unqueued is_ready_real_time is_ready_fair is_waiting is_terminated same_membership ready_cpu has_budget
    is_bad_budget is_bad_record budget_available_of role_index index_for on_index algorithm_key tree_key ready_index_key
    parts compare_tree_keys record_of changed reading storing links_at key_at queue_links_at record_at set_links
    set_queue_links on_links on_key on_queue_links on_record on_made assigned_to head_agrees tail_agrees ends_agree
    preflight_insert previous_valid next_valid validate_neighbors on_answer on_out set_next set_previous commit_insert
    commit_remove append prepend push push_front update_previous_link update_next_link unlink list.remove on_height
    on_turned on_rooted on_way on_sought height larger update rotate_left rotate_right balance_left balance_right
    balance way_at look_for contains on_walk walk hung rebuild_step rebuild insert sought_at on_search search
    on_successor successor replace index.remove counted_in counted_out total_in total_out push_at insert_work
    remove_work list_of parts_of with_parts worked is_fifo is_budget membership_for judged enqueue_call partner
    on_contained tree_with remove_ready remove_from remove_call rises period_start checked_add period_end on_deadline
    epoch_refreshed of_budget budget.judged budget.refreshed budget.refreshed_judged set_runtime descend first
    is_ready_on sound_config ranks_rise accepts_budget same_backend admitted windows.refreshed is_priority is_protected
    protection_deadline due_at exhausted_of shut_out strict_fifo hurried favoured algorithm_of on_algorithm
    ordinary_rank tier_of key_of compare_keys on_leaves candidate_of demand_of either joined add_demand compare_passes
    lesser_pass on_pass lowest_pass gathered on_candidate of_current or_damaged head_of refresh_record refresh_runtime
    move_one move_all with_trees renew_roles is_epoch is_halt renew head_at gather_heads on_ready on_key_option
    comes_before lesser_ready ready_with least_of chosen peek_running peek_parts selection_parts with_selection_parts
    restored peek_next refreshed_to filed_ready after after_all including excluding
computing = tt
