-- The turns that calls of `prepare_enqueue` hand out from one pair of counters, one after another.
use Rattle.std.specs.Prelude.{ℕ, ◌<◌, ◌≡◌, Bool, true, false, List, [], ◌∷◌, eqb, Option, Some, None}
use Rattle.refusal.specs.Cases.{choose, if_equal}
use Rattle.thread.specs.declared.ThreadRecord.{ThreadRecord}
use Rattle.rows.specs.Table.{Out, out, after, record_of}
use Rattle.decisions.specs.declared.Turns.{Turns}
use Rattle.runtime.specs.Prepare.{Counted, counted, prepare_enqueue}

-- A call: table, number, front flag, reading. Between two calls the table may change in any way, so each call brings
-- its own.
pub data Call : Type 0 where
  prepare : List ThreadRecord → ℕ → Bool → ℕ → Call

unfoldable pub made : Call → Turns → Out Counted
made (prepare t id front now) c = prepare_enqueue t id front now c

-- The thread of a call.
unfoldable pub named : Call → ℕ
named (prepare t id front now) = id

abbrev pub counters_after : Out Counted → Turns
counters_after (out (counted a c) t) = c

-- The turn of a record as a call left it.
abbrev pub turn_after : Out Counted → ℕ → ℕ
turn_after x id = (record_of (after x) id).ready_turn

-- A turn that was handed out, and at which end.
pub data Handed : Type 0 where
  at_front : ℕ → Handed
  at_back : ℕ → Handed

abbrev pub turn_of : Handed → ℕ
turn_of (at_front n) = n
turn_of (at_back n) = n

-- A call handed out a turn where it moved a counter: the named record's turn afterwards. A turn that is kept is handed
-- out by no call.
unfoldable pub handed : Out Counted → ℕ → Turns → Option Handed
handed x id c =
    if_equal (counters_after x).back c.back
    (if_equal (counters_after x).front c.front None (Some (at_front (turn_after x id))))
    (Some (at_back (turn_after x id)))

unfoldable pub joined : Option Handed → List Handed → List Handed
joined None l = l
joined (Some x) l = x ∷ l

-- What the calls hand out, the first first; a refused call hands out nothing and leaves the counters as they were.
unfoldable pub handed_out : List Call → Turns → List Handed
handed_out [] c = []
handed_out (call ∷ rest) c = joined (handed (made call c) (named call) c)
    (handed_out rest (counters_after (made call c)))

-- The counters after the calls.
unfoldable pub counters_of : List Call → Turns → Turns
counters_of [] c = c
counters_of (call ∷ rest) c = counters_of rest (counters_after (made call c))

-- What it means that x was handed out before y: back turns rise, front turns fall, and every front turn is less than
-- every back turn.
abbrev pub Before : Handed → Handed → Type 0
Before (at_back n) (at_back m) = n < m
Before (at_front n) (at_front m) = m < n
Before (at_front n) (at_back m) = n < m
Before (at_back n) (at_front m) = m < n

abbrev pub BeforeAll : Handed → List Handed → Type 0
BeforeAll x [] = Unit {0}
BeforeAll x (y ∷ rest) = Before x y × BeforeAll x rest

abbrev pub InOrder : List Handed → Type 0
InOrder [] = Unit {0}
InOrder (x ∷ rest) = BeforeAll x rest × InOrder rest

-- Whether a turn is among those handed out.
unfoldable pub among : ℕ → List Handed → Bool
among n [] = false
among n (x ∷ rest) = choose (eqb (turn_of x) n) true (among n rest)

-- No turn is there twice.
abbrev pub NoRepeat : List Handed → Type 0
NoRepeat [] = Unit {0}
NoRepeat (x ∷ rest) = (among (turn_of x) rest ≡ false) × NoRepeat rest
