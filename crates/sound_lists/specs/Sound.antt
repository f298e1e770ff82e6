-- What it means that a list in the table holds a sequence of threads, and what a call on it is to leave. For any table
-- and any membership value, so that many lists may stand in one table.
use Rattle.std.specs.Prelude.{ℕ, ◌<◌, ◌≡◌, true, false, ◌≢◌, List, [], ◌∷◌, map, length, Option, Some, None, Result, Ok}
use Rattle.refusal.specs.Answer.{Answer, value, refused}
use Rattle.thread.specs.declared.QueueMembership.{QueueMembership}
use Rattle.thread.specs.declared.QueueMembership.TheVariants as membership
use Rattle.thread.specs.declared.ThreadQueue.{ThreadQueue}
use Rattle.thread.specs.declared.ThreadRecord.{ThreadRecord}
use Rattle.thread.specs.Membership.{empty_queue_links}
use Rattle.thread.specs.Records.{with_queue_links}
use Rattle.rows.specs.Table.{Out, answer, after, record_of, record_at, queue_links_at}
use Rattle.lists.specs.Checks.{max_length, assigned_to}
use Rattle.sound_lists.specs.Members.{has, Distinct, first_or, last_or}
use Rattle.thread.specs.declared.QueueLinks.{QueueLinks}
use Rattle.refusal.specs.declared.Damaged.{Damaged}

-- Each thread's links, as `links` gives them, are its neighbours and the list's membership; the first stands after p,
-- the last before e.
abbrev pub Linked : (ℕ → Result QueueLinks Damaged) → QueueMembership → Option ℕ → List ℕ → Option ℕ → Type 0
Linked links m p [] e = Unit {0}
Linked links m p (i ∷ s) e = record {
  here : links i ≡ Ok (record { previous = p; next = first_or s e; membership = m });
  rest : Linked links m (Some i) s e;
}

-- The list holds just these threads, in this order: no one twice, head and tail the two ends, linked both ways, the
-- length true. That each number is below the record count is part of `linked`: its links are read (`member_below` in
-- Frame.antt).
pub record HoldsList (t : List ThreadRecord) (q : ThreadQueue) (members : List ℕ) (m : QueueMembership) : Type 0 where
  pub head : q.head ≡ first_or members None
  pub tail : q.tail ≡ last_or None members
  pub len : q.len ≡ length members
  pub linked : Linked (queue_links_at t) m None members None
  pub distinct : Distinct members

-- A thread that may be inserted: it is in the table and not in the list, in no list by its membership, of the right
-- processor, and the list has room.
pub record MayJoin (t : List ThreadRecord) (q : ThreadQueue) (members : List ℕ) (id : ℕ)
    (m : QueueMembership) : Type 0 where
  pub below : id < length t
  pub outside : has id members ≡ false
  pub unqueued : (record_of t id).queue_links.membership ≡ membership.None
  pub assigned : assigned_to m (record_of t id).cpu ≡ true
  pub room : q.len < max_length

-- All that a table says but for list links.
unfoldable pub without_lists : List ThreadRecord → List ThreadRecord
without_lists t = map (with_queue_links empty_queue_links) t

-- A call on a list of `members` that names `id` was accepted, its list holds `now`, and nothing else changed: no part
-- of any record but list links, and no record but the named one and the list's.
pub record Accepted (t : List ThreadRecord) (x : Out (Answer ThreadQueue)) (members : List ℕ) (id : ℕ) (now : List ℕ)
    (m : QueueMembership) : Type 0 where
  pub list : ThreadQueue
  pub accepted : answer x ≡ value list
  pub holds : HoldsList (after x) list now m
  pub rest : without_lists (after x) ≡ without_lists t
  pub others : (j : ℕ) → has j members ≡ false → j ≢ id → (record_at (after x) j ≡ record_at t j)
      × (queue_links_at (after x) j ≡ queue_links_at t j)

-- A call that was refused has left the table as it was.
abbrev pub KeptIfRefused : List ThreadRecord → Out (Answer ThreadQueue) → Type 0
KeptIfRefused t x = (n : ℕ) → answer x ≡ refused n → after x ≡ t

-- A link that, if it is a number, is one of the table's.
abbrev pub Inside : List ThreadRecord → Option ℕ → Type 0
Inside t x = (j : ℕ) → x ≡ Some j → j < length t
