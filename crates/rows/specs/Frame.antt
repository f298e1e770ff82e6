-- What calls leave of the words of a table's rows (crate codec, Frame.antt, has one row's): as many rows as before, and
-- each what became of the one with its number.
use Rattle.std.specs.Prelude.{ℕ, zero, suc, ◌≡◌, refl, List, [], ◌∷◌, length, get_or, set}
use Rattle.std.proofs.Common.{ap, ◌∙◌}
use Rattle.codec.specs.Frame.{RowFramed}
use Rattle.codec.specs.FrameLaws.{row_as_it_was, row_then}

-- s is what became of t (SPECIFICATION 11.3).
pub record Framed (t s : List (List ℕ)) : Type 0 where
  pub count : length s ≡ length t
  pub row : (j : ℕ) → RowFramed (get_or t j []) (get_or s j [])

pub framed_as_it_was : (t : List (List ℕ)) → Framed t t
framed_as_it_was t = record { count = refl; row = λ j. row_as_it_was (get_or t j []) }

-- One thing after another.
pub framed_then : {t s u : List (List ℕ)} → Framed t s → Framed s u → Framed t u
framed_then p q = record { count = q.count ∙ p.count; row = λ j. row_then (p.row j) (q.row j) }

-- A row is replaced by what became of it; outside the table nothing is. The law of the rows holds of any relation in
-- which a row stands to itself.
pub replaced_count : (t : List (List ℕ)) (i : ℕ) (w : List ℕ) → length (set t i w) ≡ length t
replaced_count [] i w = refl
replaced_count (x ∷ t) zero w = refl
replaced_count (x ∷ t) (suc i) w = ap suc (replaced_count t i w)

pub replaced_by : (F : List ℕ → List ℕ → Type 0) → ((w : List ℕ) → F w w) → (t : List (List ℕ)) (i : ℕ) (w : List ℕ)
    → F (get_or t i []) w → (j : ℕ) → F (get_or t j []) (get_or (set t i w) j [])
replaced_by F same [] i w f j = same (get_or [] j [])
replaced_by F same (x ∷ t) zero w f zero = f
replaced_by F same (x ∷ t) zero w f (suc j) = same (get_or t j [])
replaced_by F same (x ∷ t) (suc i) w f zero = same x
replaced_by F same (x ∷ t) (suc i) w f (suc j) = replaced_by F same t i w f j

pub framed_row : (t : List (List ℕ)) (i : ℕ) (w : List ℕ) → RowFramed (get_or t i []) w → Framed t (set t i w)
framed_row t i w f = record { count = replaced_count t i w; row = replaced_by RowFramed row_as_it_was t i w f }

pub ruleset framing = (framed_as_it_was, framed_then, framed_row)
