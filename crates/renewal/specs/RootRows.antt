-- Roots as rows of five words, and the laws by which the functions on such rows meet the definitions.
use Rattle.std.specs.Prelude.{ℕ, zero, suc, ◌≤◌, ◌≡◌, refl, List, [], ◌∷◌, map, length, get_or, set, Option, None}
use Rattle.std.proofs.Common.{arith, sym, ap, ◌∙◌}
use Rattle.std.proofs.lemmas.List.{length-map}
use Rattle.std.proofs.Math.ListN.{get_or-map}
use Rattle.refusal.specs.Cases.{choose, if_equal}
use Rattle.codec.specs.Codec.{word, link_from}
use Rattle.queue.specs.declared.Root.{Root}
use Rattle.lent_queue.specs.LentQueue.{head_tag, head_word, root_from}
use Rattle.renewal.specs.Renewal.{root_at}

unfoldable pub roots_of : List (List ℕ) → List Root
roots_of rows = map root_from rows

pub roots_length : (rows : List (List ℕ)) → length (roots_of rows) ≡ length rows
unfolding roots_of
roots_length rows = length-map rows root_from

root_read : (rows : List (List ℕ)) (k : ℕ)
    → root_at (roots_of rows) k ≡ link_from (word (get_or rows k []) head_tag) (word (get_or rows k []) head_word)
unfolding roots_of root_from link_from if_equal choose
root_read rows k = ap (λ (x : Root). x.root) (get_or-map root_from rows k [])

pub root_of_row : (rows : List (List ℕ)) (k : ℕ) {r : Option ℕ}
    → r ≡ link_from (word (get_or rows k []) head_tag) (word (get_or rows k []) head_word)
    → r ≡ root_at (roots_of rows) k
root_of_row rows k e = e ∙ sym (root_read rows k)

roots_set : (rows : List (List ℕ)) (k : ℕ) (w : List ℕ) → roots_of (set rows k w) ≡ set (roots_of rows) k (root_from w)
unfolding roots_of
roots_set [] k w = refl
roots_set (x ∷ rows) zero w = refl
roots_set (x ∷ rows) (suc k) w = ap {B = List Root} (λ r. root_from x ∷ r) (roots_set rows k w)

pub root_outside : (rows : List (List ℕ)) (k : ℕ) → length rows ≤ k → None ≡ root_at (roots_of rows) k
unfolding link_from if_equal choose
root_outside rows k h = root_of_row rows k (go rows k h)
  where
    go : (rows : List (List ℕ)) (k : ℕ) → length rows ≤ k
        → None ≡ link_from (word (get_or rows k []) head_tag) (word (get_or rows k []) head_word)
    go [] k h = refl
    go (x ∷ rows) zero h = absurd (omega arith)
    go (x ∷ rows) (suc k) h = go rows k (omega arith)

set_outside : (l : List Root) (k : ℕ) (x : Root) → length l ≤ k → l ≡ set l k x
set_outside [] k x h = refl
set_outside (y ∷ l) zero x h = absurd (omega arith)
set_outside (y ∷ l) (suc k) x h = ap {B = List Root} (λ r. y ∷ r) (set_outside l k x (omega arith))

pub root_not_put : (rows : List (List ℕ)) (k : ℕ) (r : Option ℕ) → length rows ≤ k
    → roots_of rows ≡ set (roots_of rows) k (record { root = r })
root_not_put rows k r h =
    set_outside (roots_of rows) k (record { root = r })
    (let same : length (roots_of rows) ≡ length rows = roots_length rows in omega arith)

pub root_put : (rows : List (List ℕ)) (k : ℕ) (w : List ℕ) {r : Option ℕ}
    → link_from (word w head_tag) (word w head_word) ≡ r
    → roots_of (set rows k w) ≡ set (roots_of rows) k (record { root = r })
unfolding root_from
root_put rows k w e = roots_set rows k w ∙ ap (λ (l : Option ℕ). set (roots_of rows) k (record { root = l })) e

pub ruleset root_rows_lem = (root_of_row, root_outside, root_put, root_not_put)
