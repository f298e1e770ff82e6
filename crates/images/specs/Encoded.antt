-- The words of a record, of a window and of a queue: a variant by its number, an absent link, epoch or budget as zeros,
-- a word that nothing uses as 0.
use Rattle.std.specs.Prelude.{ℕ, zero, suc, Bool, true, false, List, [], ◌∷◌, ◌++◌, map, Option, Some, None}
use Rattle.policy.specs.declared.SchedulingPolicy.{SchedulingPolicy}
use Rattle.policy.specs.declared.SchedulingPolicy.TheVariants as policy
use Rattle.policy.specs.declared.SchedulingRole.{SchedulingRole}
use Rattle.policy.specs.declared.SchedulingRole.TheVariants as role
use Rattle.policy.specs.declared.FairBackend.{FairBackend}
use Rattle.policy.specs.declared.FairBackend.TheVariants as backend
use Rattle.algorithms.specs.declared.PolicyRuntime.{PolicyRuntime}
use Rattle.algorithms.specs.declared.PolicyRuntime.TheVariants as runtime
use Rattle.thread.specs.declared.QueueMembership.{QueueMembership}
use Rattle.thread.specs.declared.QueueMembership.TheVariants as membership
use Rattle.thread.specs.declared.ThreadQueue.{ThreadQueue}
use Rattle.thread.specs.declared.ThreadRecord.{ThreadRecord}
use Rattle.arbitration.specs.declared.CpuWindow.{CpuWindow}
use Rattle.queue.specs.declared.Root.{Root}
use Rattle.queue.specs.RunQueue.{CpuRunQueue}
use Rattle.codec.specs.Codec.{word}
use Rattle.policy.specs.declared.BudgetParameters.{BudgetParameters}

-- The first so many words of a list, then the rest.
abbrev pub laid_from : ℕ → ℕ → List ℕ → List ℕ → List ℕ
laid_from k zero w rest = rest
laid_from k (suc n) w rest = word w k ∷ laid_from (suc k) n w rest

abbrev pub laid : ℕ → List ℕ → List ℕ → List ℕ
laid n w rest = laid_from 0 n w rest

unfoldable pub policy_words_of : SchedulingPolicy → List ℕ
policy_words_of (policy.Fifo priority) = 0 ∷ priority.0 ∷ []
policy_words_of policy.Fair = 1 ∷ 0 ∷ []
policy_words_of policy.Budget = 2 ∷ 0 ∷ []
policy_words_of policy.Idle = 3 ∷ 0 ∷ []

unfoldable pub role_word : SchedulingRole → ℕ
role_word role.Ordinary = 0
role_word role.Priority = 1
role_word role.Protected = 2

unfoldable pub backend_word : FairBackend → ℕ
backend_word backend.Stride = 0
backend_word backend.RoundRobin = 1

unfoldable pub budget_words : Option BudgetParameters → List ℕ
budget_words None = 0 ∷ 0 ∷ 0 ∷ 0 ∷ []
budget_words (Some b) = 1 ∷ b.budget_ns ∷ b.period_ns ∷ b.burst_ns ∷ []

unfoldable pub epoch_words : Option ℕ → List ℕ
epoch_words None = 0 ∷ 0 ∷ []
epoch_words (Some n) = 1 ∷ n ∷ []

unfoldable pub runtime_words : PolicyRuntime → List ℕ
runtime_words runtime.Fifo = 0 ∷ 0 ∷ 0 ∷ 0 ∷ 0 ∷ []
runtime_words (runtime.Fair f) = 1 ∷ f.pass.high ∷ f.pass.low ∷ f.remaining_ns ∷ 0 ∷ []
runtime_words (runtime.Budget b) =
    2 ∷ laid 2 (epoch_words b.epoch) (b.remaining_ns ∷ b.burst_remaining_ns ∷ [])
runtime_words runtime.Idle = 3 ∷ 0 ∷ 0 ∷ 0 ∷ 0 ∷ []

unfoldable pub link_words : Option ℕ → List ℕ
link_words None = 0 ∷ 0 ∷ []
link_words (Some n) = 1 ∷ n ∷ []

unfoldable pub membership_words : QueueMembership → List ℕ
membership_words membership.None = 0 ∷ 0 ∷ 0 ∷ []
membership_words (membership.ReadyRealTime cpu priority) = 1 ∷ cpu.0 ∷ priority ∷ []
membership_words (membership.ReadyFair cpu) = 2 ∷ cpu.0 ∷ 0 ∷ []
membership_words (membership.Waiting queue) = 3 ∷ queue ∷ 0 ∷ []
membership_words membership.Terminated = 4 ∷ 0 ∷ 0 ∷ []

unfoldable pub flag_word : Bool → ℕ
flag_word false = 0
flag_word true = 1

-- A record's 32 words, in the order of `Row`; the last two are spare.
unfoldable pub encoded : ThreadRecord → List ℕ
encoded r =
    laid 2 (policy_words_of r.parameters.policy)
    (r.parameters.band.0 ∷ role_word r.parameters.role ∷ r.parameters.weight.0
    ∷ r.parameters.quantum_ns ∷ backend_word r.parameters.fair_backend
    ∷ laid 4 (budget_words r.parameters.budget)
    (laid 5 (runtime_words r.runtime)
    (r.ready_turn
    ∷ laid 2 (link_words r.ready_tree.left)
    (laid 2 (link_words r.ready_tree.right)
    (r.ready_tree.height
    ∷ laid 2 (link_words r.queue_links.previous)
    (laid 2 (link_words r.queue_links.next)
    (laid 3 (membership_words r.queue_links.membership)
    (r.cpu.0 ∷ 0 ∷ 0 ∷ []))))))))

-- A window's 12 words, in the order of `WindowWords`.
unfoldable pub encoded_window : CpuWindow → List ℕ
encoded_window w =
    w.config.period_ns ∷ w.config.priority_allowance_ns ∷ w.config.protected_floor_ns
    ∷ w.config.order.priority_rank ∷ w.config.order.budget_rank
    ∷ w.config.order.fair_rank ∷ w.config.order.borrow_rank ∷ flag_word w.config.prefer_fair
    ∷ laid 2 (epoch_words w.epoch) (w.priority_remaining_ns ∷ w.protected_remaining_ns ∷ [])

-- A queue's rows of five words, in the order of `QueueRows`: the lists, the fair list, the roots, the marks.
unfoldable pub list_words : ThreadQueue → List ℕ
list_words l = laid 2 (link_words l.head) (laid 2 (link_words l.tail) (l.len ∷ []))

unfoldable pub root_words : Root → List ℕ
root_words r = laid 2 (link_words r.root) (0 ∷ 0 ∷ 0 ∷ [])

unfoldable pub marks_words : CpuRunQueue → List ℕ
marks_words q =
    q.realtime_len ∷ q.budget_threads ∷ laid 2 (epoch_words q.budget_epoch) (flag_word q.halted ∷ [])

unfoldable pub encoded_queue : CpuRunQueue → List (List ℕ)
encoded_queue q =
    map list_words q.realtime ++ list_words q.fair ∷ (map root_words q.indices ++ marks_words q ∷ [])
