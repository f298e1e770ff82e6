-- What push, push_front and remove ask before they store anything. After `preflight_insert` and `validate_neighbors` of
-- scheduler/queue.rs.
use Rattle.std.specs.Prelude.{ℕ, ◌+◌, Bool, true, false, List}
use Rattle.refusal.specs.Answer.{Answer, value, refused, damaged, bad_state, already}
use Rattle.refusal.specs.Cases.{choose, if_equal}
use Rattle.thread.specs.declared.CpuIndex.{CpuIndex}
use Rattle.thread.specs.declared.QueueMembership.{QueueMembership}
use Rattle.thread.specs.declared.QueueLinks.{QueueLinks}
use Rattle.thread.specs.declared.ThreadQueue.{ThreadQueue}
use Rattle.thread.specs.declared.ThreadRecord.{ThreadRecord}
use Rattle.thread.specs.Membership.{on_link, on_cpu, is_none, points_to, is_unqueued, same_membership, ready_cpu}
use Rattle.rows.specs.Table.{queue_links_at, record_at}
use Rattle.rows.specs.TableCases.{on_queue_links, on_record}

-- The greatest length of a list: a `usize` of 64 bits.
abbrev pub max_length : ℕ
max_length = 18446744073709551615

-- The membership's processor, if it has one, is the one that the thread is assigned to.
unfoldable pub assigned_to : QueueMembership → CpuIndex → Bool
assigned_to m assigned = on_cpu (ready_cpu m) true (λ c. if_equal c.0 assigned.0 true false)

-- The head is of this list and has nothing before it. A head outside the table is not.
unfoldable pub head_agrees : List ThreadRecord → ℕ → QueueMembership → Bool
head_agrees t head m =
    on_queue_links (queue_links_at t head) false
    (λ l. choose (same_membership l.membership m) (is_none l.previous) false)

-- The tail is of this list and has nothing after it.
unfoldable pub tail_agrees : List ThreadRecord → ℕ → QueueMembership → Bool
tail_agrees t tail m =
    on_queue_links (queue_links_at t tail) false (λ l. choose (same_membership l.membership m) (is_none l.next) false)

-- Neither end and length 0, or both ends with another length; any other mix is not a list.
unfoldable pub ends_agree : List ThreadRecord → ThreadQueue → QueueMembership → Bool
ends_agree t q m =
    on_link q.head
    (on_link q.tail (if_equal q.len 0 true false) (λ tail. false))
    (λ head. on_link q.tail false
    (λ tail. if_equal q.len 0 false (choose (head_agrees t head m) (tail_agrees t tail m) false)))

-- The length after the insertion: the thread is in no list, of the right processor, the length can rise, and the ends
-- agree (`preflight_insert`) (SPECIFICATION 7.1).
unfoldable pub preflight_insert : List ThreadRecord → ThreadQueue → ℕ → QueueMembership → Answer ℕ
preflight_insert t q id m =
    on_record (record_at t id) (refused damaged)
    (λ r. choose (is_unqueued r.queue_links.membership)
    (choose (assigned_to m r.cpu)
    (if_equal q.len max_length (refused damaged) (choose (ends_agree t q m) (value (q.len + 1)) (refused damaged)))
    (refused bad_state))
    (refused already))

-- What stands before the thread, or else the list's head, points to it.
unfoldable pub previous_valid : List ThreadRecord → ThreadQueue → QueueLinks → ℕ → Bool
previous_valid t q l id =
    on_link l.previous (points_to q.head id)
    (λ previous. on_queue_links (queue_links_at t previous) false (λ k. points_to k.next id))

-- What stands after the thread, or else the list's tail, points to it.
unfoldable pub next_valid : List ThreadRecord → ThreadQueue → QueueLinks → ℕ → Bool
next_valid t q l id =
    on_link l.next (points_to q.tail id)
    (λ next. on_queue_links (queue_links_at t next) false (λ k. points_to k.previous id))

-- `validate_neighbors` (SPECIFICATION 7.1).
unfoldable pub validate_neighbors : List ThreadRecord → ThreadQueue → QueueLinks → ℕ → Bool
validate_neighbors t q l id = choose (previous_valid t q l id) (next_valid t q l id) false
