-- A search that judges order from a run on only, and finds the part by halving: what it answers on every list. On a
-- list in order it is a search's answer (`search_from`).
use Rattle.std.specs.Prelude.{ℕ, zero, suc, ◌+◌, ◌-◌, ◌*◌, ◌/◌, min, Bool, false, List, [], ◌∷◌, drop, ltb, leb}
use Rattle.refusal.specs.Answer.{record_order}
use Rattle.refusal.specs.Cases.{choose, given, if_less}
use Rattle.lift_record.specs.declared.Place.{Place}
use Rattle.lift_record.specs.declared.Edge.{Edge}
use Rattle.lift_record.specs.declared.Edge.TheVariants as edge
use Rattle.lift_record.specs.Record.{run_words, runs, start_of, end_of, in_order_from, end_before, place}
use Rattle.lift_record.specs.Record.{Found, found_at, placed}

-- Whether a run's edge lies before what is sought: its end at a time or before, its start before it.
unfoldable pub edge_before : List ℕ → Edge → ℕ → ℕ → Bool
edge_before w edge.Start time i = ltb (start_of w i) time
edge_before w edge.End time i = leb (end_of w i) time

-- So of a run of the list; what lies behind the list does not.
unfoldable pub precedes : List ℕ → Edge → ℕ → ℕ → Bool
precedes w side time i = if_less i (runs w) (edge_before w side time i) false

abbrev pub middle : ℕ → ℕ → ℕ
middle lo hi = lo + (hi - lo) / 2

-- The first of the numbers from lo up to hi that fails a test, where all that pass stand before all that fail: halved
-- so many times at most.
unfoldable pub halving : ℕ → (ℕ → Bool) → ℕ → ℕ → ℕ
halving zero test lo hi = lo
halving (suc room) test lo hi =
    if_less lo hi
    (given (middle lo hi) (λ m. choose (test m) (halving room test (suc m) hi) (halving room test lo m)))
    lo

-- Each time fewer are left.
unfoldable pub halved : (ℕ → Bool) → ℕ → ℕ → ℕ
halved test lo hi = halving (hi - lo) test lo hi

-- The two ends of the part, each by halving (SPECIFICATION 14.6).
unfoldable pub halved_place : List ℕ → ℕ → ℕ → Place
halved_place w now width =
    given (now - width) (λ since.
    given (halved (precedes w edge.End since) 0 (runs w)) (λ first.
    given (halved (precedes w edge.Start now) first (runs w)) (λ behind. place first (behind - first))))

-- Order from a run on, behind the end of the one before, or at the list's end (SPECIFICATION 14.6).
unfoldable pub in_order_since : List ℕ → ℕ → Bool
in_order_since w ordered = given (min ordered (runs w)) (λ k. in_order_from (end_before 0 w k) (drop (run_words * k) w))

-- RecordOrder for a broken rest or word count, else the halved place (SPECIFICATION 14.6).
unfoldable pub search_from_left : List ℕ → ℕ → ℕ → ℕ → Found
search_from_left w ordered now width =
    choose (in_order_since w ordered) (placed w (halved_place w now width))
    (found_at [] (record_order ∷ (0 ∷ (0 ∷ []))))
