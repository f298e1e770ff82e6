-- The names of a list, which stand apart by a byte.
use Rattle.std.specs.Prelude.{ℕ, suc, ◌-◌, List, [], ◌∷◌, length, take, drop}
use Rattle.refusal.specs.Cases.{choose, if_less, if_equal}
use Rattle.text.specs.Reading.{same_bytes}

-- What stands from one place up to another.
abbrev pub part : ℕ → ℕ → List ℕ → List ℕ
part start end l = take (end - start) (drop start l)

-- The names with a byte more at the front of the first.
unfoldable pub joined : ℕ → List (List ℕ) → List (List ℕ)
joined x [] = (x ∷ []) ∷ []
joined x (name ∷ names) = (x ∷ name) ∷ names

-- Each `between` ends a name, and so does the end of the list; an empty list is one empty name.
unfoldable pub names_of : ℕ → List ℕ → List (List ℕ)
names_of between [] = [] ∷ []
names_of between (x ∷ rest) = if_equal x between ([] ∷ names_of between rest) (joined x (names_of between rest))

-- The names from a place on: none where the place is behind the end.
unfoldable pub names_from : ℕ → ℕ → List ℕ → List (List ℕ)
names_from between i l = if_less (length l) i [] (names_of between (drop i l))

-- How many names stand before the first that is the word; all where none is.
unfoldable pub place_in : List ℕ → List (List ℕ) → ℕ
place_in word [] = 0
place_in word (name ∷ names) = choose (same_bytes name word) 0 (suc (place_in word names))
