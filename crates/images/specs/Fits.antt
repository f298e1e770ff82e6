-- Numbers that fit their types: what the theorems ask of words and bytes, of a record, a window and a queue.
use Rattle.std.specs.Prelude.{ℕ, ◌<◌, ◌≡◌, List, [], ◌∷◌, length}
use Rattle.policy.specs.declared.SchedulingPolicy.{SchedulingPolicy}
use Rattle.policy.specs.declared.SchedulingPolicy.TheVariants as policy
use Rattle.thread.specs.declared.QueueMembership.{QueueMembership}
use Rattle.thread.specs.declared.QueueMembership.TheVariants as membership
use Rattle.thread.specs.declared.ThreadRecord.{ThreadRecord}
use Rattle.arbitration.specs.declared.CpuWindow.{CpuWindow}
use Rattle.queue.specs.RunQueue.{CpuRunQueue, priorities, tree_count}

-- Of each element.
abbrev pub All : {A : Type 0} → (A → Type 0) → List A → Type 0
All P [] = Unit {0}
All P (x ∷ rest) = P x × All P rest

-- The numbers of a byte, and of a word.
abbrev pub IsByte : ℕ → Type 0
IsByte n = n < 256

abbrev pub IsWord : ℕ → Type 0
IsWord n = n < 18446744073709551616

-- So many words.
abbrev pub IsRow : ℕ → List ℕ → Type 0
IsRow width row = (length row ≡ width) × All IsWord row

-- A FIFO priority is a byte.
abbrev pub PolicyFits : SchedulingPolicy → Type 0
PolicyFits (policy.Fifo p) = p.0 < 256
PolicyFits policy.Fair = Unit {0}
PolicyFits policy.Budget = Unit {0}
PolicyFits policy.Idle = Unit {0}

-- A processor and a priority are bytes.
abbrev pub MembershipFits : QueueMembership → Type 0
MembershipFits membership.None = Unit {0}
MembershipFits (membership.ReadyRealTime c p) = (c.0 < 256) × (p < 256)
MembershipFits (membership.ReadyFair c) = c.0 < 256
MembershipFits (membership.Waiting q) = Unit {0}
MembershipFits membership.Terminated = Unit {0}

-- A record whose numbers fit their types.
pub record RecordFits (r : ThreadRecord) : Type 0 where
  pub policy_fits : PolicyFits r.parameters.policy
  pub band_fits : r.parameters.band.0 < 256
  pub weight_fits : r.parameters.weight.0 < 65536
  pub height_fits : r.ready_tree.height < 256
  pub membership_fits : MembershipFits r.queue_links.membership
  pub cpu_fits : r.cpu.0 < 256

-- A window whose ranks are bytes.
pub record WindowFits (w : CpuWindow) : Type 0 where
  pub priority_fits : w.config.order.priority_rank < 256
  pub budget_fits : w.config.order.budget_rank < 256
  pub fair_fits : w.config.order.fair_rank < 256
  pub borrow_fits : w.config.order.borrow_rank < 256

-- A queue with as many lists and roots as there are.
pub record QueueFits (q : CpuRunQueue) : Type 0 where
  pub lists_fit : length q.realtime ≡ priorities
  pub roots_fit : length q.indices ≡ tree_count
