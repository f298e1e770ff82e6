-- The threads of a list as a sequence of their numbers.
use Rattle.std.specs.Prelude.{ℕ, ◌≡◌, Bool, false, ◌||◌, List, [], ◌∷◌, eqb, Option, Some}
use Rattle.refusal.specs.Cases.{choose}

-- Whether the number is in the sequence.
abbrev pub has : ℕ → List ℕ → Bool
has j [] = false
has j (i ∷ s) = eqb j i || has j s

-- No number twice.
abbrev pub Distinct : List ℕ → Type 0
Distinct [] = Unit {0}
Distinct (i ∷ s) = record { first : has i s ≡ false; rest : Distinct s }

-- The first number, else e.
abbrev pub first_or : List ℕ → Option ℕ → Option ℕ
first_or [] e = e
first_or (i ∷ s) e = Some i

-- The last number, else p.
abbrev pub last_or : Option ℕ → List ℕ → Option ℕ
last_or p [] = p
last_or p (i ∷ s) = last_or (Some i) s

-- The other numbers, in the same order.
unfoldable pub without : ℕ → List ℕ → List ℕ
without i [] = []
without i (j ∷ s) = choose (eqb i j) (without i s) (j ∷ without i s)
