-- The lift record: a list of runs, and the part of it that a reading and a width name. Document 02, T-01.
use Rattle.std.specs.Prelude.{ℕ, zero, suc, ◌-◌, ◌*◌, ◌+◌, ◌/◌, Bool, true, false, eqb}
use Rattle.std.specs.Prelude.{List, [], ◌∷◌, ◌++◌, length, get_or, take, drop}
use Rattle.refusal.specs.Answer.{bad_table, record_order}
use Rattle.refusal.specs.Cases.{choose, given, if_less, if_equal}
use Rattle.lift_record.specs.declared.Place.{Place}

-- A run is three words: its start, its end and its thread's number.
abbrev pub run_words : ℕ
run_words = 3

abbrev pub start_word : ℕ
start_word = 0

abbrev pub end_word : ℕ
end_word = 1

abbrev pub thread_word : ℕ
thread_word = 2

abbrev pub runs : List ℕ → ℕ
runs w = length w / run_words

abbrev pub start_of : List ℕ → ℕ → ℕ
start_of w i = get_or w (run_words * i + start_word) 0

abbrev pub end_of : List ℕ → ℕ → ℕ
end_of w i = get_or w (run_words * i + end_word) 0

-- Whole runs: the first starts at `last` or later, each ends at its start or later, and each further one starts at the
-- end of the one before or later (SPECIFICATION 14.1).
unfoldable pub in_order_from : ℕ → List ℕ → Bool
in_order_from last [] = true
in_order_from last (start ∷ []) = false
in_order_from last (start ∷ (end ∷ [])) = false
in_order_from last (start ∷ (end ∷ (thread ∷ rest))) =
    if_less start last false (if_less end start false (in_order_from end rest))

-- The first start is free (SPECIFICATION 14.1).
abbrev pub in_order : List ℕ → Bool
in_order w = in_order_from 0 w

-- How many runs from the first on end at a time or before: the number of the first that ends after it.
unfoldable pub ended_by : ℕ → List ℕ → ℕ
ended_by time [] = 0
ended_by time (start ∷ []) = 0
ended_by time (start ∷ (end ∷ [])) = 0
ended_by time (start ∷ (end ∷ (thread ∷ rest))) = if_less time end 0 (suc (ended_by time rest))

-- How many runs from the first on start before a time.
unfoldable pub started_before : ℕ → List ℕ → ℕ
started_before time [] = 0
started_before time (start ∷ []) = 0
started_before time (start ∷ (end ∷ [])) = 0
started_before time (start ∷ (end ∷ (thread ∷ rest))) = if_less start time (suc (started_before time rest)) 0

abbrev pub place : ℕ → ℕ → Place
place first count = record { first = first; count = count }

-- The runs whose end lies after now less the width, 0 if that is negative, and whose start lies before now: the first
-- of them, and how many they are (SPECIFICATION 14.2).
unfoldable pub place_of : List ℕ → ℕ → ℕ → Place
place_of w now width =
    given (ended_by (now - width) w) (λ first. place first (started_before now (drop (run_words * first) w)))

-- The words of a place (SPECIFICATION 14.2).
unfoldable pub part_at : List ℕ → Place → List ℕ
part_at w p = take (run_words * p.count) (drop (run_words * p.first) w)

-- The words that a search and a slide store, by their places.
abbrev pub found_number : ℕ
found_number = 0

abbrev pub found_first : ℕ
found_first = 1

abbrev pub found_count : ℕ
found_count = 2

abbrev pub slid_afresh : ℕ
slid_afresh = 3

-- What a call hands back: the words of a part of the list, and the words stored beside it.
pub data Found : Type 0 where
  found_at : List ℕ → List ℕ → Found

-- A search stores 0, the first run and the count.
unfoldable pub placed : List ℕ → Place → Found
placed w p = found_at (part_at w p) (0 ∷ (p.first ∷ (p.count ∷ [])))

-- RecordOrder, with an empty part, before anything else (SPECIFICATION 14.3).
unfoldable pub search_left : List ℕ → ℕ → ℕ → Found
search_left w now width =
    choose (in_order w) (placed w (place_of w now width)) (found_at [] (record_order ∷ (0 ∷ (0 ∷ []))))

unfoldable pub same_place : Place → Place → Bool
same_place p q = if_equal p.first q.first (eqb p.count q.count) false

-- The new reading is lower, or the place is not the earlier reading's in this list (SPECIFICATION 14.4).
unfoldable pub is_afresh : List ℕ → ℕ → Place → ℕ → ℕ → Bool
is_afresh w earlier p now width = if_less now earlier true (choose (same_place p (place_of w earlier width)) false true)

-- A slide stores a fourth word: 1 where it searched afresh, else 0.
unfoldable pub slid_to : List ℕ → Place → ℕ → Found
slid_to w p afresh = found_at (part_at w p) (0 ∷ (p.first ∷ (p.count ∷ (afresh ∷ []))))

-- What a fresh search gives, and whether it was one (SPECIFICATION 14.4).
unfoldable pub slide_left : List ℕ → ℕ → Place → ℕ → ℕ → Found
slide_left w earlier p now width =
    choose (in_order w) (slid_to w (place_of w now width) (choose (is_afresh w earlier p now width) 1 0))
    (found_at [] (record_order ∷ (0 ∷ (0 ∷ (0 ∷ [])))))

-- The end of the run before run k; `last` where k is the first.
unfoldable pub end_before : ℕ → List ℕ → ℕ → ℕ
end_before last w zero = last
end_before last w (suc k) = end_of w k

-- A number, and the words of the list.
pub data Appended : Type 0 where
  appended : ℕ → List ℕ → Appended

-- With other words of run k.
unfoldable pub with_run : List ℕ → ℕ → ℕ → ℕ → ℕ → List ℕ
with_run w k start end thread = take (run_words * k) w ++ (start ∷ (end ∷ (thread ∷ []))) ++ drop (run_words * suc k) w

-- A run behind the first k: BadTable where the list has no room for it; RecordOrder where it would stand out of order.
-- A refusal changes nothing (SPECIFICATION 14.5).
unfoldable pub append_left : List ℕ → ℕ → ℕ → ℕ → ℕ → Appended
append_left w k start end thread =
    if_less k (runs w)
    (if_less end start (appended record_order w)
    (given (end_before 0 w k) (λ last.
    if_less start last (appended record_order w) (appended 0 (with_run w k start end thread)))))
    (appended bad_table w)
