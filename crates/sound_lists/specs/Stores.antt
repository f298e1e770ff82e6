-- The stores of the list calls, each as one record put through a function that changes its list links alone.
use Rattle.std.specs.Prelude.{List, Option, Some, None, ℕ}
use Rattle.thread.specs.declared.QueueLinks.{QueueLinks}
use Rattle.thread.specs.declared.ThreadRecord.{ThreadRecord}
use Rattle.thread.specs.Records.{with_queue_links}
use Rattle.rows.specs.Table.{changed}

-- Links with another next, with another previous.
abbrev pub next_is : Option ℕ → QueueLinks → QueueLinks
next_is n l = record { previous = l.previous; next = n; membership = l.membership }

abbrev pub previous_is : Option ℕ → QueueLinks → QueueLinks
previous_is p l = record { previous = p; next = l.next; membership = l.membership }

-- A record whose list links are put through g.
abbrev pub relinked : (QueueLinks → QueueLinks) → ThreadRecord → ThreadRecord
relinked g r = with_queue_links (g r.queue_links) r

-- A store at a link, none where there is none.
unfoldable pub relinked_at : List ThreadRecord → Option ℕ → (QueueLinks → QueueLinks) → List ThreadRecord
relinked_at t None g = t
relinked_at t (Some i) g = changed t i (relinked g)
