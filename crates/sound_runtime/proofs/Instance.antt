-- A small table on which the premises of the theorems are met, by computation.
use Rattle.std.specs.Prelude.{◌≡◌, refl, true, false, List, [], ◌∷◌, Some, None}
use Rattle.std.proofs.Common.{arith}
use Rattle.refusal.specs.Answer.{refused, turns_spent}
use Rattle.refusal.specs.Cases.{choose, if_less, if_equal, given, and_then}
use Rattle.time.specs.Time.{rises, period_start, charge_of}
use Rattle.std.specs.declared.cmp.Ordering.TheVariants.{Less}
use Rattle.policy.specs.PolicyCases.{on_policy, on_budget, on_role}
use Rattle.policy.specs.Budget.{sound_budget}
use Rattle.budget.specs.Runtime as budget
use Rattle.algorithms.specs.declared.PolicyRuntime.TheVariants as runtime
use Rattle.algorithms.specs.Runtime.{on_runtime, of_budget, same_kind, zero_pass, accounted, epoch_refreshed}
use Rattle.arbitration.specs.declared.Candidate.{Candidate}
use Rattle.arbitration.specs.declared.CpuWindow.{CpuWindow}
use Rattle.arbitration.specs.declared.Demand.{Demand}
use Rattle.arbitration.specs.declared.DispatchMode.TheVariants as mode
use Rattle.window_config.specs.Config.{ranks_rise, sound_config}
use Rattle.arbitration.specs.Window.{on_mode, is_priority, is_protected, uses_allowance}
use Rattle.arbitration.specs.Window as window
use Rattle.arbitration.specs.Calls.{With, with, account_call}
use Rattle.arbitration.specs.Calls as windows
use Rattle.thread.specs.declared.ThreadRecord.{ThreadRecord}
use Rattle.thread.specs.Membership.{on_membership, is_unqueued}
use Rattle.thread.specs.Judgement.{has_budget, is_bad_budget, is_bad_record}
use Rattle.thread.specs.TreeKey.{ready_index_key, compare_tree_keys}
use Rattle.rows.specs.Table.{Out, out, after, record_of, changed, reading, storing, record_at, set_runtime, set_turn}
use Rattle.rows.specs.TableCases.{on_record}
use Rattle.queue.specs.Samples.{nine}
use Rattle.decisions.specs.Turns.{new_turns, front_turn, back_turn, kept_turn, turn_for}
use Rattle.runtime.specs.Judging.{judged_at, judged, judged_with, on_with}
use Rattle.runtime.specs.Prepare.{Counted, counted, prepare_record, preparation, stored_preparation, prepared}
use Rattle.runtime.specs.Prepare.{prepare_enqueue}
use Rattle.runtime.specs.Account.{account_record, accounting, settled, account_current}
use Rattle.sound_runtime.specs.Handed.{Call, prepare, made, named, at_front, at_back, counters_after}
use Rattle.sound_runtime.specs.Handed.{handed, joined, handed_out, counters_of, among}
use Rattle.sound_runtime.specs.Keys.{Alike, Ahead}
use Rattle.sound_runtime.proofs.Theorems.{AtFront, front_key_least, front_dispatch_least}

-- Threads 0 and 8 are FIFO of one priority and band. Thread 0 is prepared at the back, at the front, and at the back
-- again; a Fair thread keeps its turn.
abbrev calls : List Call
calls = prepare nine 0 false 3 ∷ prepare nine 0 true 4 ∷ prepare nine 1 true 5 ∷ prepare nine 0 false 6 ∷ []

pub three_handed : handed_out calls new_turns ≡ at_back 9223372036854775808 ∷ at_front 9223372036854775807
    ∷ at_back 9223372036854775809 ∷ []
unfolding choose if_less if_equal given and_then rises on_policy on_budget sound_budget on_runtime of_budget same_kind
    epoch_refreshed on_membership is_unqueued has_budget is_bad_budget is_bad_record record_of changed reading storing
    record_at set_runtime set_turn on_record front_turn back_turn kept_turn turn_for judged_at judged prepare_record
    preparation stored_preparation prepared prepare_enqueue made named handed joined handed_out
three_handed = refl

-- With one front turn left the next is refused as TurnsSpent, and so is the last turn at the back.
pub spent : (prepare_enqueue nine 0 true 4 (record { back = 5; front = 1 })
    ≡ out (counted (refused turns_spent) (record { back = 5; front = 1 })) nine)
    × (prepare_enqueue nine 0 false 4 (record { back = 18446744073709551615; front = 2 })
    ≡ out (counted (refused turns_spent) (record { back = 18446744073709551615; front = 2 })) nine)
unfolding choose if_less if_equal given and_then rises on_policy on_budget sound_budget on_runtime of_budget same_kind
    epoch_refreshed on_membership is_unqueued has_budget is_bad_budget is_bad_record record_of changed reading storing
    record_at set_runtime set_turn on_record front_turn back_turn kept_turn turn_for judged_at judged prepare_record
    preparation stored_preparation prepared prepare_enqueue
spent = (refl, refl)

-- Thread 8 is then prepared at the front.
abbrev front : Out Counted
front = prepare_enqueue nine 8 true 7 (counters_of calls new_turns)

pub eight_at_front : AtFront calls new_turns nine 8 (after front)
unfolding choose if_less if_equal given and_then rises on_policy on_budget sound_budget on_runtime of_budget same_kind
    epoch_refreshed on_membership is_unqueued has_budget is_bad_budget is_bad_record record_of changed reading storing
    record_at set_runtime set_turn on_record front_turn back_turn kept_turn turn_for judged_at judged prepare_record
    preparation stored_preparation prepared prepare_enqueue made named handed joined handed_out counters_of
eight_at_front =
    record {
      counters = omega arith;
      reading = 7;
      after_counters = counters_after front;
      priority = record { 0 = 5 };
      fifo = refl;
      accepted = refl;
    }

-- Thread 0 as the last call left it.
abbrev zero : ThreadRecord
zero =
    record_of (after (prepare_enqueue nine 0 false 6
    (record { back = 9223372036854775809; front = 9223372036854775807 }))) 0

alike : Alike (record_of (after front) 8).parameters zero.parameters
unfolding choose if_less if_equal given and_then rises on_policy on_budget sound_budget on_runtime of_budget same_kind
    epoch_refreshed on_membership is_unqueued has_budget is_bad_budget is_bad_record record_of changed reading storing
    record_at set_runtime set_turn on_record front_turn back_turn kept_turn turn_for judged_at judged prepare_record
    preparation stored_preparation prepared prepare_enqueue made named handed joined handed_out counters_of
alike = record { priority = record { 0 = 5 }; first = refl; second = refl; band = refl }

zero_handed : among zero.ready_turn (handed_out calls new_turns) ≡ true
unfolding choose if_less if_equal given and_then rises on_policy on_budget sound_budget on_runtime of_budget same_kind
    epoch_refreshed on_membership is_unqueued has_budget is_bad_budget is_bad_record record_of changed reading storing
    record_at set_runtime set_turn on_record front_turn back_turn kept_turn turn_for judged_at judged prepare_record
    preparation stored_preparation prepared prepare_enqueue made named handed joined handed_out counters_of among
zero_handed = refl

-- So it comes before thread 0,
pub eight_before_zero : compare_tree_keys (ready_index_key (record_of (after front) 8) 8) (ready_index_key zero 0)
    ≡ Less
eight_before_zero = front_key_least eight_at_front zero 0 alike zero_handed

-- An exhausted budget of 2 in 10 is whole again when it is prepared at 15.
pub whole_again : (record_of (after (prepare_enqueue nine 3 false 15 new_turns)) 3).runtime
    ≡ runtime.Budget (record { epoch = Some 1; remaining_ns = 2; burst_remaining_ns = 2 })
unfolding choose if_less if_equal given and_then rises on_policy on_budget sound_budget budget.judged budget.refreshed
    budget.refreshed_judged on_runtime of_budget same_kind epoch_refreshed on_membership is_unqueued has_budget
    is_bad_budget is_bad_record record_of changed reading storing record_at set_runtime set_turn on_record front_turn
    back_turn kept_turn turn_for judged_at judged prepare_record preparation stored_preparation prepared prepare_enqueue
whole_again = refl

-- A window of period 10, allowance 2 and floor 3.
abbrev small : CpuWindow
small =
    record {
      config = record {
        period_ns = 10;
        priority_allowance_ns = 2;
        protected_floor_ns = 3;
        order = record { priority_rank = 0; budget_rank = 1; fair_rank = 2; borrow_rank = 3 };
        prefer_fair = false;
      };
      epoch = None;
      priority_remaining_ns = 2;
      protected_remaining_ns = 3;
    }

-- A record as a candidate without a budget.
abbrev candidate : ThreadRecord → Candidate
candidate r =
    record { parameters = r.parameters; fair_pass = zero_pass; turn = r.ready_turn; budget_available = true }

plain : ((record_of (after front) 8).parameters.role ≡ zero.parameters.role)
    × ((record_of (after front) 8).parameters.budget ≡ None) × (zero.parameters.budget ≡ None)
unfolding choose if_less if_equal given and_then rises on_policy on_budget sound_budget on_runtime of_budget same_kind
    epoch_refreshed on_membership is_unqueued has_budget is_bad_budget is_bad_record record_of changed reading storing
    record_at set_runtime set_turn on_record front_turn back_turn kept_turn turn_for judged_at judged prepare_record
    preparation stored_preparation prepared prepare_enqueue made named handed joined handed_out counters_of
plain = (refl, refl, refl)

-- and under this window, as under any, with the lesser dispatch key.
pub eight_runs_before_zero : (d : Demand) → Ahead small 7 d (candidate (record_of (after front) 8)) (candidate zero)
eight_runs_before_zero d =
    front_dispatch_least eight_at_front small 7 d (candidate (record_of (after front) 8)) (candidate zero) refl alike
    plain.0 plain.1 plain.2 zero_handed

abbrev window_after : Out (With (Unit {0})) → CpuWindow
window_after (out (with a w) t) = w

-- A protected budget thread accounted from 9 to 11 loses 1 of its budget, 2 of its burst, and 1 of the floor.
pub one_charged : ((record_of (after (account_current nine 2 small mode.Ordinary 9 11)) 2).runtime
    ≡ runtime.Budget (record { epoch = Some 1; remaining_ns = 1; burst_remaining_ns = 0 }))
    × ((window_after (account_current nine 2 small mode.Ordinary 9 11)).protected_remaining_ns ≡ 2)
unfolding choose if_less if_equal given and_then rises period_start charge_of on_policy on_budget on_role sound_budget
    budget.judged budget.refreshed budget.charged budget.accounted_interval on_runtime of_budget same_kind accounted
    has_budget is_bad_budget is_bad_record record_of changed reading storing record_at set_runtime on_record ranks_rise
    sound_config on_mode is_priority is_protected uses_allowance window.refreshed window.charged windows.judged
    account_call judged_at judged_with on_with account_record accounting settled account_current
one_charged = (refl, refl)
