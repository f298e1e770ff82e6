-- Laws of counting.
use Rattle.std.specs.Prelude.{◌≡◌, refl, Bool, true, false, ◌≢◌, List, [], ◌∷◌, ℕ, zero, suc, ◌+◌, ◌≤◌, ◌<◌, length}
use Rattle.std.proofs.Common.{sym, ap, ◌∙◌, arith, ne_eqb}
use Rattle.refusal.specs.Cases.{choose}
use Rattle.sound_lists.specs.Members.{has, Distinct}
use Rattle.sound_lists.specs.MembersLaws.{has_first, has_rest}
use Rattle.sound_queue.specs.PlaceLaws.{same_or_not}
use Rattle.sound_queue.specs.Count.{count}

-- The same property, counted twice.
pub count_same : (n : ℕ) (f g : ℕ → Bool) → ((j : ℕ) → j < n → g j ≡ f j) → count n g ≡ count n f
unfolding count
count_same zero f g h = refl
count_same (suc n) f g h = rw (h n (omega arith), count_same n f g (λ j l. h j (omega arith)))

-- No more than there are.
pub count_most : (n : ℕ) (f : ℕ → Bool) → count n f ≤ n
unfolding count choose
count_most zero f = omega arith
count_most (suc n) f = go (f n) (count_most n f)
  where
    go : (x : Bool) → count n f ≤ n → choose x (suc (count n f)) (count n f) ≤ suc n
    go true h = omega arith
    go false h = omega arith

-- None.
pub count_none : (n : ℕ) (f : ℕ → Bool) → ((j : ℕ) → j < n → f j ≡ false) → count n f ≡ 0
unfolding count choose
count_none zero f h = refl
count_none (suc n) f h = rw (h n (omega arith)) (count_none n f (λ j l. h j (omega arith)))

-- Beyond n nobody has the property: counted among more numbers, they are as many,
count_longer : (m n : ℕ) (f : ℕ → Bool) → n ≤ m → ((j : ℕ) → n ≤ j → f j ≡ false) → count m f ≡ count n f
unfolding count choose
count_longer zero n f l h = let z : n ≡ 0 = omega arith in rw z
count_longer (suc m) n f l h = same_or_not n (suc m)
    (λ z. rw z)
    (λ z.
    let k : n ≤ m = ne_below z in
    rw (h m k) (count_longer m n f k h))
  where
    ne_below : n ≢ suc m → n ≤ m
    ne_below z = omega arith

-- and so among the numbers below either of two bounds, if all that have it are below both.
pub count_bounds : (n m : ℕ) (f : ℕ → Bool) → ((j : ℕ) → f j ≡ true → (j < n) × (j < m)) → count n f ≡ count m f
count_bounds n m f h =
    sym (count_longer (n + m) n f (omega arith) (λ j l. not_true (f j) (λ e. let b = (h j e).0 in omega arith)))
    ∙ count_longer (n + m) m f (omega arith) (λ j l. not_true (f j) (λ e. let b = (h j e).1 in omega arith))
  where
    not_true : (x : Bool) → x ≢ true → x ≡ false
    not_true true z = absurd (z refl)
    not_true false z = refl

-- One number that did not have the property, and now perhaps has it.
pub count_one : (n i : ℕ) (f g : ℕ → Bool) → i < n → ((j : ℕ) → j ≢ i → g j ≡ f j) → f i ≡ false
    → count n g ≡ choose (g i) (suc (count n f)) (count n f)
unfolding count choose
count_one zero i f g l h e = absurd (omega arith)
count_one (suc n) i f g l h e = same_or_not n i
    (λ z. rw (z, e) (ap (λ m. choose (g i) (suc m) m) (count_same i f g (λ j m. h j (λ y. omega arith)))))
    (λ z. rw (h n z) (go (f n) (g i) (count_one n i f g (omega arith) h e)))
  where
    go : (x y : Bool) → count n g ≡ choose y (suc (count n f)) (count n f)
        → choose x (suc (count n g)) (count n g) ≡ choose y (suc (choose x (suc (count n f)) (count n f)))
        (choose x (suc (count n f)) (count n f))
    go true true q = ap suc q
    go true false q = ap suc q
    go false true q = q
    go false false q = q

-- A sequence of different numbers below n is as long as its numbers are many.
pub length_counts : (n : ℕ) (l : List ℕ) → Distinct l → ((j : ℕ) → has j l ≡ true → j < n)
    → length l ≡ count n (λ j. has j l)
unfolding choose
length_counts n [] d h = sym (count_none n (λ j. false) (λ j l. refl))
length_counts n (i ∷ l) d h =
    let one = count_one n i (λ j. has j l) (λ j. has j (i ∷ l)) (h i (has_first i l)) (λ j z. rw (ne_eqb j i z))
    d.first in
    ap suc (length_counts n l d.rest (λ j z. h j (has_rest j i l z))) ∙ sym (more one)
  where
    more : count n (λ j. has j (i ∷ l)) ≡ choose (has i (i ∷ l)) (suc (count n (λ j. has j l))) (count n (λ j. has j l))
        → count n (λ j. has j (i ∷ l)) ≡ suc (count n (λ j. has j l))
    more e = e ∙ rw (has_first i l)
