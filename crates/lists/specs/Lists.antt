-- push, push_front and remove on one list over the table: each read and store in the source's order. After
-- scheduler/queue.rs. A refusal leaves table and list as they were. Where the source would halt, after its checks,
-- there is no case here: each number that is stored to was read by a check before, and no store takes a record out of
-- the table.
use Rattle.std.specs.Prelude.{ℕ, ◌-◌, List, Option, Some, None}
use Rattle.refusal.specs.Answer.{Answer, value, refused, damaged}
use Rattle.refusal.specs.Cases.{choose, if_equal, given}
use Rattle.thread.specs.declared.QueueMembership.{QueueMembership}
use Rattle.thread.specs.declared.QueueLinks.{QueueLinks}
use Rattle.thread.specs.declared.ThreadQueue.{ThreadQueue}
use Rattle.thread.specs.declared.ThreadRecord.{ThreadRecord}
use Rattle.thread.specs.Membership.{on_link, same_membership, empty_queue_links}
use Rattle.rows.specs.Table.{Out, out, after, queue_links_at, set_queue_links}
use Rattle.rows.specs.TableCases.{on_queue_links}
use Rattle.lists.specs.Checks.{preflight_insert, validate_neighbors}

-- By an answer: the number of its refusal, or its value.
unfoldable pub on_answer : {A B : Type 0} → Answer A → (ℕ → B) → (A → B) → B
on_answer (value a) g f = f a
on_answer (refused n) g f = g n

-- By an answer and the table that it leaves.
unfoldable pub on_out : {A B : Type 0} → Out A → (A → List ThreadRecord → B) → B
on_out (out a t) f = f a t

abbrev pub with_next : QueueLinks → Option ℕ → QueueLinks
with_next l next = record { previous = l.previous; next = next; membership = l.membership }

abbrev pub with_previous : QueueLinks → Option ℕ → QueueLinks
with_previous l previous = record { previous = previous; next = l.next; membership = l.membership }

-- The record's links are read, and stored again with another next.
unfoldable pub set_next : List ThreadRecord → ℕ → Option ℕ → List ThreadRecord
set_next t i next =
    on_queue_links (queue_links_at t i) t
    (λ l. after (set_queue_links t i (with_next l next)))

-- The record's links are read, and stored again with another previous.
unfoldable pub set_previous : List ThreadRecord → ℕ → Option ℕ → List ThreadRecord
set_previous t i previous =
    on_queue_links (queue_links_at t i) t
    (λ l. after (set_queue_links t i (with_previous l previous)))

-- Inserting stores list links and membership (document 01, "Keys and filing").
unfoldable pub commit_insert : List ThreadRecord → ℕ → QueueLinks → List ThreadRecord
commit_insert t id l = after (set_queue_links t id l)

-- Removing stores membership None and no neighbours.
unfoldable pub commit_remove : List ThreadRecord → ℕ → List ThreadRecord
commit_remove t id = after (set_queue_links t id empty_queue_links)

-- The stores of `push`, with the length after it.
unfoldable pub append : List ThreadRecord → ThreadQueue → ℕ → QueueMembership → ℕ → Out ThreadQueue
append t q id m n =
    on_link q.tail
    (out (record { head = Some id; tail = Some id; len = n })
    (commit_insert t id (record { previous = None; next = None; membership = m })))
    (λ tail. given (set_next t tail (Some id))
    (λ t₁. out (record { head = q.head; tail = Some id; len = n })
    (commit_insert t₁ id (record { previous = Some tail; next = None; membership = m }))))

-- The stores of `push_front`, with the length after it.
unfoldable pub prepend : List ThreadRecord → ThreadQueue → ℕ → QueueMembership → ℕ → Out ThreadQueue
prepend t q id m n =
    on_link q.head
    (out (record { head = Some id; tail = Some id; len = n })
    (commit_insert t id (record { previous = None; next = None; membership = m })))
    (λ head. given (set_previous t head (Some id))
    (λ t₁. out (record { head = Some id; tail = q.tail; len = n })
    (commit_insert t₁ id (record { previous = None; next = Some head; membership = m }))))

-- The thread becomes the list's last (SPECIFICATION 7.2).
unfoldable pub push : List ThreadRecord → ThreadQueue → ℕ → QueueMembership → Out (Answer ThreadQueue)
push t q id m =
    on_answer (preflight_insert t q id m) (λ n. out (refused n) t)
    (λ n. on_out (append t q id m n) (λ s t₁. out (value s) t₁))

-- The thread becomes the list's first (SPECIFICATION 7.2).
unfoldable pub push_front : List ThreadRecord → ThreadQueue → ℕ → QueueMembership → Out (Answer ThreadQueue)
push_front t q id m =
    on_answer (preflight_insert t q id m) (λ n. out (refused n) t)
    (λ n. on_out (prepend t q id m n) (λ s t₁. out (value s) t₁))

-- `update_previous_link`: what stands before, or else the list's head, goes on to what stands after.
unfoldable pub update_previous_link : List ThreadRecord → ThreadQueue → QueueLinks → Out ThreadQueue
update_previous_link t q l =
    on_link l.previous (out (record { head = l.next; tail = q.tail; len = q.len }) t)
    (λ previous. out q (set_next t previous l.next))

-- `update_next_link`: what stands after, or else the list's tail, goes back to what stands before.
unfoldable pub update_next_link : List ThreadRecord → ThreadQueue → QueueLinks → Out ThreadQueue
update_next_link t q l =
    on_link l.next (out (record { head = q.head; tail = l.previous; len = q.len }) t)
    (λ next. out q (set_previous t next l.previous))

-- The stores of `remove`, with the length after it.
unfoldable pub unlink : List ThreadRecord → ThreadQueue → QueueLinks → ℕ → ℕ → Out ThreadQueue
unlink t q l id n =
    on_out (update_previous_link t q l)
    (λ p t₁. on_out (update_next_link t₁ p l)
    (λ s t₂. out (record { head = s.head; tail = s.tail; len = n }) (commit_remove t₂ id)))

-- The thread leaves the list (SPECIFICATION 7.2).
unfoldable pub remove : List ThreadRecord → ThreadQueue → ℕ → QueueMembership → Out (Answer ThreadQueue)
remove t q id m =
    on_queue_links (queue_links_at t id) (out (refused damaged) t)
    (λ l. choose (same_membership l.membership m)
    (if_equal q.len 0 (out (refused damaged) t)
    (choose (validate_neighbors t q l id)
    (on_out (unlink t q l id (q.len - 1)) (λ s t₁. out (value s) t₁))
    (out (refused damaged) t)))
    (out (refused damaged) t))
