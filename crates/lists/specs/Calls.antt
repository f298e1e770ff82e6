-- push, push_front and remove on a list by itself: table and number are asked for first, in document 01's order, and
-- what is refused changes nothing.
use Rattle.std.specs.Prelude.{ℕ, List}
use Rattle.refusal.specs.Answer.{Answer}
use Rattle.thread.specs.declared.QueueMembership.{QueueMembership}
use Rattle.thread.specs.declared.ThreadQueue.{ThreadQueue}
use Rattle.thread.specs.declared.ThreadRecord.{ThreadRecord}
use Rattle.rows.specs.Table.{Out}
use Rattle.rows.specs.Asked.{asked, unchanged}
use Rattle.lists.specs.Lists.{push, push_front, remove}

-- The thread becomes the list's last (SPECIFICATION 7.3).
unfoldable pub push_call : List ThreadRecord → ThreadQueue → ℕ → QueueMembership → Out (Answer ThreadQueue)
push_call t q id m = asked t id (unchanged t) (push t q id m)

-- The thread becomes the list's first.
unfoldable pub push_front_call : List ThreadRecord → ThreadQueue → ℕ → QueueMembership → Out (Answer ThreadQueue)
push_front_call t q id m = asked t id (unchanged t) (push_front t q id m)

-- The thread leaves the list.
unfoldable pub remove_call : List ThreadRecord → ThreadQueue → ℕ → QueueMembership → Out (Answer ThreadQueue)
remove_call t q id m = asked t id (unchanged t) (remove t q id m)
