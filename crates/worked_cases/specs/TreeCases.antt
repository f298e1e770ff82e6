-- The ● cases of document 01 about the ready index: the tree that a sequence of calls leaves, as numbers.
use Rattle.std.specs.Prelude.{ℕ, List, [], ◌∷◌, ◌++◌, Option, None, Result, Ok, Err}
use Rattle.refusal.specs.Answer.{Answer, value, refused}
use Rattle.policy.specs.declared.SchedulingRole.TheVariants as role
use Rattle.policy.specs.Parameters.{of_fifo}
use Rattle.algorithms.specs.declared.PolicyRuntime.TheVariants as runtime
use Rattle.thread.specs.declared.ThreadRecord.{ThreadRecord}
use Rattle.thread.specs.Membership.{empty_links, empty_queue_links}
use Rattle.rows.specs.Table.{Out, out, links_at}
use Rattle.ready_index.specs.Calls.{insert_call, remove_call}
use Rattle.worked_cases.specs.Rows.{Row, row}
use Rattle.worked_cases.specs.Seen.{link_seen, links_seen}
use Rattle.thread.specs.declared.Links.{Links}
use Rattle.refusal.specs.declared.Damaged.{Damaged}

-- A FIFO record whose turn decides among those of one priority.
abbrev turning : ℕ → ThreadRecord
turning n = record {
  parameters = of_fifo (record { 0 = 1 }) (record { 0 = 1 }) role.Ordinary;
  runtime = runtime.Fifo;
  ready_turn = n;
  ready_tree = empty_links;
  queue_links = empty_queue_links;
  cpu = record { 0 = 0 };
}

-- Records 0 to 7, the turn of each its number.
abbrev eight : List ThreadRecord
eight = turning 0 ∷ turning 1 ∷ turning 2 ∷ turning 3 ∷ turning 4 ∷ turning 5 ∷ turning 6 ∷ turning 7 ∷ []

-- The next call, on the root that the last one left.
abbrev then : (List ThreadRecord → Option ℕ → ℕ → Out (Answer (Option ℕ))) → ℕ → Out (Answer (Option ℕ))
    → Out (Answer (Option ℕ))
then call i (out (value root) t) = call t root i
then call i (out (refused n) t) = out (refused n) t

abbrev insert_all : List ℕ → Out (Answer (Option ℕ)) → Out (Answer (Option ℕ))
insert_all [] o = o
insert_all (i ∷ rest) o = insert_all rest (then insert_call i o)

abbrev links_numbers : Result Links Damaged → List ℕ
links_numbers (Ok l) = links_seen l
links_numbers (Err _) = []

-- The root, and the links and height of a record.
abbrev seen : ℕ → Out (Answer (Option ℕ)) → List ℕ
seen i (out (value root) t) = link_seen root ++ links_numbers (links_at t i)
seen i (out (refused n) t) = []

abbrev empty : Out (Answer (Option ℕ))
empty = out (value None) eight

abbrev seven : Out (Answer (Option ℕ))
seven = insert_all (1 ∷ 2 ∷ 3 ∷ 4 ∷ 5 ∷ 6 ∷ 7 ∷ []) empty

abbrev pub tree_rows : List Row
tree_rows =
    -- Keys 1, 2, 3 in that order: root 2, height 2. Keys 3, 1, 2: root 2, height 2.
    row (seen 2 (insert_all (1 ∷ 2 ∷ 3 ∷ []) empty)) (1 ∷ 2 ∷ 1 ∷ 1 ∷ 1 ∷ 3 ∷ 2 ∷ [])
    ∷ row (seen 2 (insert_all (3 ∷ 1 ∷ 2 ∷ []) empty)) (1 ∷ 2 ∷ 1 ∷ 1 ∷ 1 ∷ 3 ∷ 2 ∷ [])
    -- Keys 1 to 7 in order: root 4, height 3.
    ∷ row (seen 4 seven) (1 ∷ 4 ∷ 1 ∷ 2 ∷ 1 ∷ 6 ∷ 3 ∷ [])
    -- From that, removing 4 leaves root 5, with 2 on its left and 6 on its right, height 3; record 4 has empty links.
    ∷ row (seen 5 (then remove_call 4 seven)) (1 ∷ 5 ∷ 1 ∷ 2 ∷ 1 ∷ 6 ∷ 3 ∷ [])
    ∷ row (seen 4 (then remove_call 4 seven)) (1 ∷ 5 ∷ 0 ∷ 0 ∷ 1 ∷ [])
    ∷ []
