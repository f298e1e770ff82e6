-- Demand 3 over words is not empty: a board that meets the premises, by the words that the library left in a run. Two
-- protected loops and a FIFO thread are enqueued by processor 0, then a selection is made at 7,000,000.
use Rattle.std.specs.Prelude.{refl, true, false, replicate}
use Rattle.std.proofs.Common.{arith}
use Rattle.policy.specs.declared.FairBackend.TheVariants as backend
use Rattle.window_words.specs.WindowWords.{flag_from, order_of, config_of, window_of, dispatch_key_of}
use Rattle.codec.specs.Codec.{policy_from, role_from, backend_from, budget_from, epoch_from, runtime_from}
use Rattle.codec.specs.Codec.{parameters_of}
use Rattle.codec.specs.Codec.{runtime_of, link_from, membership_from, links_of, queue_links_of, decoded}
use Rattle.rows.specs.Table.{table}
use Rattle.lent_queue.specs.LentQueue.{list_from, root_from, halted_from, queue_of}
use Rattle.board_words.specs.BoardWords.{ready_of, demand_from, pass_from, selection_from, current_of}
use Rattle.board.specs.Board.{queue_left, answered, beside, selection_left, Enqueues, Selects}
use Rattle.sound_selection.specs.Computing.{computing}
use Rattle.sound_selection.proofs.Instance.{three_met}
use Rattle.sound_board.specs.Claim.{New, Steps, none, then, enqueues, PremisesOn, Answers}
use Rattle.sound_board.proofs.Words.{demand_3_words}
use Rattle.sound_board.specs.Instance.{rows, rows₁, rows₂, rows₃, queue, queue₁, queue₂, queue₃, window, answer, board}
use Rattle.sound_board.specs.Instance.{board₁, board₂, board₃}

-- Under one name what words stand for, and what calls compute.
reading : Unit {0}
unfolding computing flag_from order_of config_of window_of dispatch_key_of policy_from role_from backend_from
    budget_from epoch_from runtime_from parameters_of runtime_of link_from membership_from links_of queue_links_of
    decoded table list_from root_from halted_from queue_of ready_of demand_from pass_from selection_from current_of
    queue_left answered beside selection_left
reading = tt

board_new : New board
unfolding reading
board_new = record { makes = refl; small = omega arith; nobody_queued = refl }

-- The calls, each on the words that the one before left.
first_call_lem : Enqueues false queue rows 0 0 0 queue₁ rows₁
unfolding reading
first_call_lem = refl

second_call : Enqueues true queue₁ rows₁ 1 0 0 queue₂ rows₂
unfolding reading
second_call = refl

third_call : Enqueues false queue₂ rows₂ 2 0 0 (queue₃ 0) (rows₃ 0)
unfolding reading
third_call = refl

selection : Selects (queue₃ 0) (rows₃ 0) 0 7000000 (window 0) 0 (replicate 32 0) (replicate 19 0) 0 (queue₃ 1) (rows₃ 1)
    (window 1) answer
unfolding reading
selection = refl

pub board_steps : Steps 0 board board₃
board_steps =
    then board₂ board₃
    (then board₁ board₂
    (then board board₁ none (enqueues false 0 0 queue₁ rows₁ first_call_lem))
    (enqueues true 1 0 queue₂ rows₂ second_call))
    (enqueues false 2 0 (queue₃ 0) (rows₃ 0) third_call)

board_premises : PremisesOn board₃ 7000000 (window 0)
unfolding reading
board_premises =
    three_met {b = backend.Stride}
    (record { window = refl; admits = (refl, refl, refl); left = (refl, refl); filed = (refl, refl); fifo = refl })

-- So thread 1 has, of the three, the least key.
pub board_answers : Answers board₃ 7000000 0 (window 0) (replicate 32 0) 0 answer
board_answers =
    demand_3_words 0 board board₃ board_new board_steps 7000000 0 (window 0) (replicate 32 0) (replicate 19 0)
    board_premises 0 (queue₃ 1) (rows₃ 1) (window 1) answer selection
