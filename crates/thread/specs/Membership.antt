-- Links and memberships: empty ones, choosing by them, and which are the same. After task/thread.rs, task/wait.rs and
-- scheduler/queue.rs.
use Rattle.std.specs.Prelude.{ℕ, Bool, true, false, Option, Some, None}
use Rattle.refusal.specs.Cases.{if_equal}
use Rattle.thread.specs.declared.CpuIndex.{CpuIndex}
use Rattle.thread.specs.declared.Links.{Links}
use Rattle.thread.specs.declared.QueueMembership.{QueueMembership}
use Rattle.thread.specs.declared.QueueMembership.TheVariants as membership
use Rattle.thread.specs.declared.QueueLinks.{QueueLinks}
use Rattle.thread.specs.declared.ThreadQueue.{ThreadQueue}

-- `ReadyTreeLinks::EMPTY`: a tree of one.
abbrev pub empty_links : Links
empty_links = record { left = None; right = None; height = 1 }

-- `QueueLinks::EMPTY`: in no list.
abbrev pub empty_queue_links : QueueLinks
empty_queue_links = record { previous = None; next = None; membership = membership.None }

-- `ThreadQueue::new`.
abbrev pub empty_queue : ThreadQueue
empty_queue = record { head = None; tail = None; len = 0 }

-- None first.
unfoldable pub on_link : {A : Type 0} → Option ℕ → A → (ℕ → A) → A
on_link None a f = a
on_link (Some n) a f = f n

-- None, ReadyRealTime, ReadyFair, Waiting, Terminated.
unfoldable pub on_membership : {A : Type 0} → QueueMembership → A → (CpuIndex → ℕ → A) → (CpuIndex → A) → (ℕ → A) → A
    → A
on_membership membership.None none real_time fair waiting terminated = none
on_membership (membership.ReadyRealTime c p) none real_time fair waiting terminated = real_time c p
on_membership (membership.ReadyFair c) none real_time fair waiting terminated = fair c
on_membership (membership.Waiting q) none real_time fair waiting terminated = waiting q
on_membership membership.Terminated none real_time fair waiting terminated = terminated

-- No processor first.
unfoldable pub on_cpu : {A : Type 0} → Option CpuIndex → A → (CpuIndex → A) → A
on_cpu None a f = a
on_cpu (Some c) a f = f c

-- `link == None`.
unfoldable pub is_none : Option ℕ → Bool
is_none l = on_link l true (λ n. false)

-- `link == Some(id)`.
unfoldable pub points_to : Option ℕ → ℕ → Bool
points_to l id = on_link l false (λ n. if_equal n id true false)

-- `membership == None`.
unfoldable pub is_unqueued : QueueMembership → Bool
is_unqueued m = on_membership m true (λ d q. false) (λ d. false) (λ q. false) false

unfoldable pub is_ready_real_time : QueueMembership → CpuIndex → ℕ → Bool
is_ready_real_time m c p =
    on_membership m false (λ d q. if_equal c.0 d.0 (if_equal p q true false) false) (λ d. false) (λ q. false) false

unfoldable pub is_ready_fair : QueueMembership → CpuIndex → Bool
is_ready_fair m c = on_membership m false (λ d q. false) (λ d. if_equal c.0 d.0 true false) (λ q. false) false

unfoldable pub is_waiting : QueueMembership → ℕ → Bool
is_waiting m p = on_membership m false (λ d q. false) (λ d. false) (λ q. if_equal p q true false) false

unfoldable pub is_terminated : QueueMembership → Bool
is_terminated m = on_membership m false (λ d q. false) (λ d. false) (λ q. false) true

-- `membership == other`.
unfoldable pub same_membership : QueueMembership → QueueMembership → Bool
same_membership m other =
    on_membership m (is_unqueued other) (is_ready_real_time other) (is_ready_fair other) (is_waiting other)
    (is_terminated other)

-- The processor of a ready membership, or none.
unfoldable pub ready_cpu : QueueMembership → Option CpuIndex
ready_cpu m = on_membership m None (λ c p. Some c) (λ c. Some c) (λ q. None) None

-- `ready_cpu(membership) == Some(cpu)`.
unfoldable pub is_ready_on : QueueMembership → CpuIndex → Bool
is_ready_on m c = on_cpu (ready_cpu m) false (λ d. if_equal d.0 c.0 true false)
