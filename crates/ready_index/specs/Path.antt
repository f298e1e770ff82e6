-- The path that a caller lends, as steps: what its rows stand for, and what the ways down answer in these terms.
use Rattle.std.specs.Prelude.{not, List, [], ◌∷◌, ℕ, zero, suc, ◌+◌, ◌-◌, eqb, length, get_or, Option, Result, Ok, Err}
use Rattle.thread.specs.declared.TreeKey.{TreeKey}
use Rattle.thread.specs.declared.ThreadRecord.{ThreadRecord}
use Rattle.thread.specs.Membership.{on_link}
use Rattle.ready_index.specs.declared.Step.{Step}
use Rattle.ready_index.specs.declared.Searched.{Searched}
use Rattle.ready_index.specs.declared.Searched.TheVariants as searched
use Rattle.ready_index.specs.declared.Succeeded.{Succeeded}
use Rattle.ready_index.specs.declared.Succeeded.TheVariants as succeeded
use Rattle.ready_index.specs.Cases.{on_sought}
use Rattle.ready_index.specs.Index.{sought_at, Walk, bottom, lost, Search, found, missing, Successor, next, none}
use Rattle.refusal.specs.declared.Damaged.{Damaged}

-- A row of the path: the node's number, and 0 where the path went to its left.
abbrev pub step_of : List ℕ → Step
step_of row = record { id = get_or row 0 0; right = not (eqb (get_or row 1 0) 0) }

-- So many steps from a row on, the last first.
unfoldable pub stack : List (List ℕ) → ℕ → ℕ → List Step
stack rows first zero = []
stack rows first (suc n) = step_of (get_or rows (first + n) []) ∷ stack rows first n

unfoldable pub walk_of : Result ℕ Damaged → List (List ℕ) → Walk
walk_of (Ok n) rows = bottom (stack rows 0 n)
walk_of (Err _) rows = lost

unfoldable pub search_of : Searched → List (List ℕ) → Search
search_of (searched.Found n l) rows = found (stack rows 0 n) l (length rows - n)
search_of searched.Damaged rows = missing

-- What the search finds at the end of a full path.
unfoldable pub last_sought : List ThreadRecord → TreeKey → ℕ → Option ℕ → ℕ → Searched
last_sought t key id at n =
    on_link at searched.Damaged
    (λ i. on_sought (sought_at t key id i) searched.Damaged (λ l. searched.Found n l) (λ l. searched.Damaged)
    (λ l. searched.Damaged))

unfoldable pub successor_of : Succeeded → List (List ℕ) → ℕ → Successor
successor_of (succeeded.Next n i r) rows first = next (stack rows first n) i r
successor_of succeeded.Damaged rows first = none

-- The steps that an answer says were stored.
unfoldable pub walk_steps : Result ℕ Damaged → ℕ
walk_steps (Ok n) = n
walk_steps (Err _) = 0

unfoldable pub search_steps : Searched → ℕ
search_steps (searched.Found n l) = n
search_steps searched.Damaged = 0

unfoldable pub successor_steps : Succeeded → ℕ
successor_steps (succeeded.Next n i r) = n
successor_steps succeeded.Damaged = 0
