-- A row of the table of worked cases: what the definitions give, and what document 01 says, as numbers.
use Rattle.std.specs.Prelude.{ℕ, Bool, true, false, List, [], ◌∷◌, eqb}
use Rattle.refusal.specs.Answer.{Answer, value, refused}

pub record Row : Type 0 where
  pub got : List ℕ
  pub said : List ℕ

abbrev pub row : List ℕ → List ℕ → Row
row got said = record { got = got; said = said }

abbrev pub bit : Bool → ℕ
bit true = 1
bit false = 0

-- 0 where it is taken, else the refusal's number.
abbrev pub numbered : {A : Type 0} → Answer A → ℕ
numbered (value a) = 0
numbered (refused n) = n

abbrev both : Bool → Bool → Bool
both true b = b
both false b = false

abbrev same_numbers : List ℕ → List ℕ → Bool
same_numbers [] [] = true
same_numbers [] (b ∷ rest) = false
same_numbers (a ∷ more) [] = false
same_numbers (a ∷ more) (b ∷ rest) = both (eqb a b) (same_numbers more rest)

-- Every row gives what is said.
abbrev pub all_as_said : List Row → Bool
all_as_said [] = true
all_as_said (r ∷ rows) = both (same_numbers r.got r.said) (all_as_said rows)
