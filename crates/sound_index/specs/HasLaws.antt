-- Laws of the threads that a list has.
use Rattle.std.specs.Prelude.{◌≡◌, refl, Bool, true, false, ◌||◌, List, [], ◌∷◌, ◌++◌, ℕ, eqb}
use Rattle.std.proofs.Common.{sym, ap, ◌∙◌, subst, eq-eqb, eqb-true}
use Rattle.refusal.specs.Cases.{never}
use Rattle.avl.specs.Tree.{Tree, leaf, node, in_order}
use Rattle.avl.specs.Operations.{Added}
use Rattle.sound_index.specs.Holds.{has}
use Rattle.sound_index.specs.Represents.{In, here, in_left, in_right}

-- What holds of one holds of either.
pub or_first : (x y : Bool) → x ≡ true → x || y ≡ true
or_first true y e = refl
or_first false y e = cc

-- The same of the second.
pub or_second : (x y : Bool) → y ≡ true → x || y ≡ true
or_second true y e = refl
or_second false y e = e

or_group : (x y z : Bool) → x || (y || z) ≡ (x || y) || z
or_group true y z = refl
or_group false y z = refl

or_swap : (x y z : Bool) → x || (y || z) ≡ y || (x || z)
or_swap true true z = refl
or_swap true false z = refl
or_swap false y z = refl

-- What holds of either holds of one.
pub or_cases : {A : Type 0} (x y : Bool) → x || y ≡ true → (x ≡ true → A) → (y ≡ true → A) → A
or_cases true y e f g = f refl
or_cases false y e f g = g e

-- Two lists together have what either has.
pub has_append : (j : ℕ) (a b : List ℕ) → has j (a ++ b) ≡ has j a || has j b
has_append j [] b = refl
has_append j (i ∷ a) b = ap (λ x. eqb j i || x) (has_append j a b) ∙ or_group (eqb j i) (has j a) (has j b)

-- A thread moved to the front.
pub has_move : (j i : ℕ) (a b : List ℕ) → has j (a ++ i ∷ b) ≡ has j (i ∷ (a ++ b))
has_move j i a b =
    has_append j a (i ∷ b) ∙ or_swap (has j a) (eqb j i) (has j b) ∙ ap (λ x. eqb j i || x) (sym (has_append j a b))

-- Of a list with a thread in the middle: it has that thread, and what either part has.
pub has_middle : (a : List ℕ) (i : ℕ) (b : List ℕ) → has i (a ++ i ∷ b) ≡ true
has_middle a i b = has_move i i a b ∙ or_first (eqb i i) (has i (a ++ b)) (eq-eqb i i refl)

-- What the first part has.
pub has_before : (j : ℕ) (a : List ℕ) (i : ℕ) (b : List ℕ) → has j a ≡ true → has j (a ++ i ∷ b) ≡ true
has_before j a i b e = has_append j a (i ∷ b) ∙ or_first (has j a) (has j (i ∷ b)) e

-- What the second part has.
pub has_after : (j : ℕ) (a : List ℕ) (i : ℕ) (b : List ℕ) → has j b ≡ true → has j (a ++ i ∷ b) ≡ true
has_after j a i b e = has_append j a (i ∷ b) ∙ or_second (has j a) (has j (i ∷ b)) (or_second (eqb j i) (has j b) e)

-- With one thread added, a list has that thread and what it had.
pub has_added : (x : List ℕ) (i : ℕ) (y : List ℕ) → Added x i y → (j : ℕ) → has j y ≡ eqb j i || has j x
has_added x i y a j =
    ap (has j) a.with ∙ has_move j i a.left a.right ∙ ap (λ l. eqb j i || has j l) (sym a.without)

-- A thread of a tree's list, as a place in the tree.
pub has_in : (j : ℕ) (x : Tree) → has j (in_order x) ≡ true → In j x
unfolding in_order
has_in j leaf e = never cc
has_in j (node l i r) e =
    or_cases (has j (in_order l)) (has j (i ∷ in_order r)) (sym (has_append j (in_order l) (i ∷ in_order r)) ∙ e)
    (λ h. in_left (has_in j l h))
    (λ h. or_cases (eqb j i) (has j (in_order r)) h (λ q. subst (λ k. In j (node l k r)) (eqb-true j i q) here)
    (λ q. in_right (has_in j r q)))
