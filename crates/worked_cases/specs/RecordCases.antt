-- Worked cases of the lift record (document 02, T-01): places of searches and slides, refusals, a run more.
use Rattle.std.specs.Prelude.{ℕ, List, [], ◌∷◌, ◌++◌}
use Rattle.lift_record.specs.Record.{Found, found_at, place, search_left, slide_left, Appended, appended, append_left}
use Rattle.lift_record.specs.Halving.{search_from_left}
use Rattle.lift_record.specs.Instance.{lift}
use Rattle.worked_cases.specs.Rows.{Row, row}

-- The words beside the part.
abbrev beside : Found → List ℕ
beside (found_at part words) = words

abbrev part_of : Found → List ℕ
part_of (found_at part words) = part

abbrev number_and_words : Appended → List ℕ
number_and_words (appended n words) = n ∷ words

abbrev disordered : List ℕ
disordered = 0 ∷ 4 ∷ 0 ∷ 3 ∷ 9 ∷ 1 ∷ 10 ∷ 12 ∷ 2 ∷ []

abbrev most : ℕ
most = 18446744073709551615

-- What a search stores where it finds so many runs from one on.
abbrev found : ℕ → ℕ → List ℕ
found first count = 0 ∷ first ∷ count ∷ []

abbrev slid : ℕ → ℕ → ℕ → List ℕ
slid first count afresh = 0 ∷ first ∷ count ∷ afresh ∷ []

abbrev searched : ℕ → ℕ → ℕ → ℕ → Row
searched now width first count = row (beside (search_left lift now width)) (found first count)

-- A slide of width 6 from the place of a search at 15.
abbrev onward : ℕ → ℕ → ℕ → List ℕ → Row
onward first count now said = row (beside (slide_left lift 15 (place first count) now 6)) said

abbrev search_rows : List Row
search_rows =
    searched 15 6 2 2
    ∷ searched 20 20 0 4
    ∷ searched 20 0 5 0
    ∷ searched 15 0 3 1
    ∷ searched 10 0 3 0
    ∷ searched 0 5 0 0
    ∷ searched 24 3 5 0
    ∷ searched 40 5 6 0
    ∷ searched 30 8 5 1
    ∷ row (beside (search_left (0 ∷ 0 ∷ 0 ∷ []) 0 0)) (found 1 0)
    ∷ row (beside (search_left (7 ∷ 7 ∷ 0 ∷ 7 ∷ 7 ∷ 1 ∷ 7 ∷ 9 ∷ 0 ∷ []) 7 0)) (found 2 0)
    ∷ row (part_of (search_left lift 15 6)) (10 ∷ 10 ∷ 2 ∷ 12 ∷ 20 ∷ 0 ∷ [])
    ∷ []

abbrev slide_rows : List Row
slide_rows =
    onward 2 2 24 (slid 3 2 0)
    ∷ onward 2 2 15 (slid 2 2 0)
    ∷ onward 2 2 14 (slid 1 3 1)
    ∷ onward 2 2 100 (slid 6 0 0)
    ∷ onward 2 1 24 (slid 3 2 1)
    ∷ onward most 0 24 (slid 3 2 1)
    ∷ onward most most 24 (slid 3 2 1)
    ∷ []

-- A list that grew between two readings, and disorder: behind what is judged it is not seen, and halving goes by the
-- words as they stand.
abbrev growing_rows : List Row
growing_rows =
    row (beside (search_left (0 ∷ 4 ∷ 0 ∷ []) 6 10)) (found 0 1)
    ∷ row (number_and_words (append_left (0 ∷ 4 ∷ 0 ∷ 0 ∷ 0 ∷ 0 ∷ []) 1 4 9 1)) (0 ∷ 0 ∷ 4 ∷ 0 ∷ 4 ∷ 9 ∷ 1 ∷ [])
    ∷ row (beside (slide_left (0 ∷ 4 ∷ 0 ∷ 4 ∷ 9 ∷ 1 ∷ []) 6 (place 0 1) 10 10)) (slid 0 2 1)
    ∷ row (number_and_words (append_left (0 ∷ 4 ∷ 0 ∷ 0 ∷ 0 ∷ 0 ∷ []) 1 3 9 1)) (12 ∷ 0 ∷ 4 ∷ 0 ∷ 0 ∷ 0 ∷ 0 ∷ [])
    ∷ row (number_and_words (append_left (0 ∷ 4 ∷ 0 ∷ []) 1 4 9 1)) (10 ∷ 0 ∷ 4 ∷ 0 ∷ [])
    ∷ row (beside (search_left disordered 15 6)) (12 ∷ 0 ∷ 0 ∷ [])
    ∷ row (beside (slide_left disordered 15 (place 0 0) 15 6)) (12 ∷ 0 ∷ 0 ∷ 0 ∷ [])
    ∷ row (beside (search_left (0 ∷ 4 ∷ 0 ∷ 4 ∷ []) 15 6)) (12 ∷ 0 ∷ 0 ∷ [])
    ∷ row (beside (search_from_left disordered 1 15 6)) (12 ∷ 0 ∷ 0 ∷ [])
    ∷ row (beside (search_from_left disordered 2 15 6)) (found 2 1)
    ∷ []

abbrev pub record_rows : List Row
record_rows = search_rows ++ slide_rows ++ growing_rows
