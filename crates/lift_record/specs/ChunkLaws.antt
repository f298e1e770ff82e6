-- The runs of a list of words, each by its words.
use Rattle.std.specs.Prelude.{ℕ, zero, suc, ◌+◌, ◌*◌, ◌<◌, ◌≡◌, List, [], get_or, take, drop}
use Rattle.std.proofs.Common.{arith, ap, sym, ◌∙◌, get_or-drop}
use Rattle.std.proofs.Math.Path.{refl}
use Rattle.std.proofs.lemmas.List.{drop-drop, get_or-take}
use Rattle.std.specs.Simd.{first_chunks}
use Rattle.lift_record.specs.Record.{runs}

abbrev pub runs_of : List ℕ → List (List ℕ)
runs_of w = first_chunks 3 (runs w) w

pub chunk_at : {X : Type 0} (n : ℕ) → ((i : ℕ) → n * suc i ≡ n + n * i) → (m : ℕ) (xs : List X) (i : ℕ) → i < m
    → get_or (first_chunks n m xs) i [] ≡ take n (drop (n * i) xs)
chunk_at n e zero xs i l = absurd (omega arith)
chunk_at n e (suc m) xs zero l = let z : n * 0 ≡ 0 = omega arith in rw z refl
chunk_at n e (suc m) xs (suc i) l =
    chunk_at n e m (drop n xs) i (omega arith)
    ∙ ap (take n) (drop-drop (n * i) n xs ∙ ap (λ (k : ℕ). drop k xs) (sym (e i)))

pub word_at : {rs : List (List ℕ)} (w : List ℕ) (i j : ℕ) → rs ≡ runs_of w → i < runs w → j < 3
    → get_or (get_or rs i []) j 0 ≡ get_or w (3 * i + j) 0
word_at w i j e l m =
    rw (e, chunk_at 3 (λ k. omega arith) (runs w) w i l)
    (get_or-take 3 (drop (3 * i) w) j 0 m ∙ get_or-drop (3 * i) w j 0)
