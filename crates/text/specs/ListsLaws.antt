-- Laws of lists of names: how each loop goes from name to name.
use Prim.Native.Nat.{ℕ, zero, suc, ◌+◌, ◌-◌, ◌<◌, ◌≤◌}
use native.Mathlib.Omega.{arith}
use Rattle.std.proofs.Common.{add-one, ap, ◌∙◌, length-drop, drop-drop, eqb-true, ltb-true, ltb-false}
use Rattle.std.specs.Prelude.{◌≡◌, refl, Bool, true, false, List, [], ◌∷◌, eqb, ltb, length, get_or}
use Rattle.std.proofs.Math.Path.{sym}
use Rattle.std.proofs.Math.ListN.{take, drop}
use Rattle.std.proofs.Math.Seq.{take_all}
use Rattle.std.proofs.lemmas.Bool.{eqb-false}
use Rattle.std.specs.Prelude.{cond, not}
use Rattle.std.specs.List.{prefix_len, slice_split, onto_first}
use Rattle.std.specs.Cmp.Lexicographic.{pointwise}
use Rattle.refusal.specs.Cases.{choose, if_equal, less, not_less, equal, not_equal}
use Rattle.text.specs.Reading.{before}
use Rattle.text.specs.ReadingLaws.{before_by, same_pointwise}
use Rattle.text.specs.Lists.{part, joined, names_of, names_from, place_in}

-- By what the first byte is.
module _ (b x : ℕ) (rest : List ℕ) where
  before_first : x ≡ b → before b (x ∷ rest) ≡ 0
  unfolding before
  before_first e = sym (equal _ _ _ _ e refl)

  before_more : (x ≡ b → ⊥) → before b (x ∷ rest) ≡ suc (before b rest)
  unfolding before
  before_more e = sym (not_equal _ _ _ _ e refl)

  names_first : x ≡ b → names_of b (x ∷ rest) ≡ [] ∷ names_of b rest
  unfolding names_of
  names_first e = sym (equal _ _ _ _ e refl)

  names_more : (x ≡ b → ⊥) → names_of b (x ∷ rest) ≡ joined x (names_of b rest)
  unfolding names_of
  names_more e = sym (not_equal _ _ _ _ e refl)

-- The first name ends at the first b, and the others are those behind it.
abbrev Split : ℕ → List ℕ → Type 0
Split b l = before b l < length l → names_of b l ≡ take (before b l) l ∷ names_of b (drop (suc (before b l)) l)

split_by : (b x : ℕ) (rest : List ℕ) (t : Bool) → eqb x b ≡ t → Split b rest → Split b (x ∷ rest)
unfolding joined
split_by b x rest true t r h =
    let e = eqb-true x b t in
    rw (before_first b x rest e, names_first b x rest e)
split_by b x rest false t r h =
    let e = eqb-false x b t in
    rw (before_more b x rest e, names_more b x rest e, r (omega (arith, before_more b x rest e)))

names_split : (b : ℕ) (l : List ℕ) → Split b l
names_split b [] h = absurd (omega arith)
names_split b (x ∷ rest) h = split_by b x rest (eqb x b) refl (names_split b rest) h

-- Where there is no b there is one name.
abbrev Single : ℕ → List ℕ → Type 0
Single b l = length l ≤ before b l → names_of b l ≡ l ∷ []

single_by : (b x : ℕ) (rest : List ℕ) (t : Bool) → eqb x b ≡ t → Single b rest → Single b (x ∷ rest)
unfolding joined
single_by b x rest true t r h = absurd (omega (arith, before_first b x rest (eqb-true x b t)))
single_by b x rest false t r h =
    let e = eqb-false x b t in
    rw (names_more b x rest e, r (omega (arith, before_more b x rest e)))

names_single : (b : ℕ) (l : List ℕ) → Single b l
unfolding names_of
names_single b [] h = refl
names_single b (x ∷ rest) h = single_by b x rest (eqb x b) refl (names_single b rest) h

-- The name at a place, and those behind it.
module _ (b i end : ℕ) (l : List ℕ) (inside : i ≤ length l) (ends : end ≡ i + before b (drop i l)) where
  here : names_from b i l ≡ names_of b (drop i l)
  unfolding names_from
  here = sym (not_less _ _ _ _ inside refl)

  size : end - i ≡ before b (drop i l)
  size = omega arith

  name : part i end l ≡ take (before b (drop i l)) (drop i l)
  name = ap (λ k. take k (drop i l)) size

  next_place : i + suc (before b (drop i l)) ≡ end + 1
  next_place = omega arith

  rest : drop (suc (before b (drop i l))) (drop i l) ≡ drop (end + 1) l
  rest = drop-drop (suc (before b (drop i l))) i l ∙ ap (λ k. drop k l) next_place

  more_names : end < length l → names_from b i l ≡ part i end l ∷ names_from b (end + 1) l
  unfolding names_from
  more_names h =
      here ∙ names_split b (drop i l) (rw (length-drop i l) (omega arith))
      ∙ rw (name, rest) (ap (λ x. take (before b (drop i l)) (drop i l) ∷ x)
      (not_less _ _ (length l) (end + 1) (omega arith) refl))

  no_more_names : length l ≤ end → names_from b i l ≡ part i end l ∷ names_from b (end + 1) l
  unfolding names_from
  no_more_names h =
      here ∙ names_single b (drop i l) (rw (length-drop i l) (omega arith))
      ∙ rw (name, take_all (before b (drop i l)) (drop i l) (rw (length-drop i l) (omega arith)))
      (ap (λ x. drop i l ∷ x) (less _ _ (length l) (end + 1) (omega arith) refl))

  names_by : (t : Bool) → ltb end (length l) ≡ t → names_from b i l ≡ part i end l ∷ names_from b (end + 1) l
  names_by true t = more_names (ltb-true end (length l) t)
  names_by false t = no_more_names (ltb-false end (length l) t)

  pub names_at : names_from b i l ≡ part i end l ∷ names_from b (end + 1) l
  names_at = names_by (ltb end (length l)) refl

-- From the start on they are all.
pub all_names : (b : ℕ) (l : List ℕ) → names_from b 0 l ≡ names_of b l
all_names b l = here b 0 (0 + before b l) l (omega arith) refl

-- Behind the end there is none.
pub no_names : (b i : ℕ) (l : List ℕ) → length l < i → names_from b i l ≡ []
unfolding names_from
no_names b i l h = sym (less _ _ (length l) i h refl)

-- They are what a split gives.
joined_onto : (x : ℕ) (names : List (List ℕ)) → joined x names ≡ onto_first x names
unfolding joined
joined_onto x [] = refl
joined_onto x (n ∷ names) = refl

by_split : (t : Bool) {A : Type 0} (a b : A) → choose t a b ≡ cond t a b
unfolding choose
by_split true a b = refl
by_split false a b = refl

pub names_are : (b : ℕ) (l : List ℕ) → names_of b l ≡ slice_split (λ x. eqb x b) l
unfolding names_of if_equal
names_are b [] = refl
names_are b (x ∷ rest) = rw (names_are b rest, joined_onto) (by_split (eqb x b) _ _)

-- So many of them from the first on are not the word.
pub place_is : (word : List ℕ) (names : List (List ℕ))
    → place_in word names ≡ prefix_len (λ name. not (pointwise eqb name word)) names
unfolding place_in
place_is word [] = refl
place_is word (n ∷ names) =
    rw (same_pointwise n word, place_is word names) (before_by (pointwise eqb n word) _)

empty_part : (i : ℕ) (l : List ℕ) → part i i l ≡ []
empty_part i l =
    let none : i - i ≡ 0 = omega arith in
    ap (λ k. take k (drop i l)) none

-- From name to name so many times.
pub name_first : (b n m : ℕ) (l : List ℕ) → m ≡ n → get_or (names_from b 0 l) m [] ≡ get_or (names_of b l) n []
name_first b n m l e = rw (all_names b l, e)

module _ (b i end : ℕ) (l : List ℕ) {w : List ℕ} (inside : i ≤ length l) (ends : end ≡ i + before b (drop i l)) where
  pub name_next : (left m : ℕ) → get_or (names_from b i l) left [] ≡ w → left ≡ m + 1
      → get_or (names_from b (end + 1) l) m [] ≡ w
  name_next left m so_far h = rw (names_at b i end l inside ends, h, add-one m) at so_far

  pub name_here : (left : ℕ) → get_or (names_from b i l) left [] ≡ w → left ≤ 0 → part i end l ≡ w
  name_here zero so_far h = rw (names_at b i end l inside ends) at so_far
  name_here (suc left) so_far h = absurd (omega arith)

  pub name_none : (left : ℕ) → get_or (names_from b i l) left [] ≡ w → 0 < left → length l ≤ end → part end end l ≡ w
  name_none zero so_far g h = absurd (omega arith)
  name_none (suc left) so_far g h =
      empty_part end l ∙ (rw (names_at b i end l inside ends, no_names b (end + 1) l (omega arith)) at so_far)

-- How many names there are from a place on, behind so many.
module _ (b i end : ℕ) (l : List ℕ) (k all : ℕ) (inside : i ≤ length l) (ends : end ≡ i + before b (drop i l)) where
  one_more : length (names_from b i l) ≡ suc (length (names_from b (end + 1) l))
  one_more = ap length (names_at b i end l inside ends)

  pub count_next : length (names_from b i l) + k ≡ all → length (names_from b (end + 1) l) + (k + 1) ≡ all
  count_next so_far = omega (arith, one_more)

  pub count_here : (n : ℕ) → length (names_from b i l) + k ≡ all → n ≤ k → all ≤ n → i ≡ length l
  count_here n so_far h j = absurd (omega (arith, one_more))

pub count_first : (b : ℕ) (l : List ℕ) → length (names_from b 0 l) + 0 ≡ length (names_of b l)
count_first b l = rw (all_names b l) (omega arith)

pub ruleset countings = (count_first, count_next, count_here)
