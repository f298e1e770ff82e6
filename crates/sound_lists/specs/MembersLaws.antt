-- Laws of sequences of numbers: membership, ends, and a sequence in two parts about one of its numbers.
use Rattle.std.specs.Prelude.{ℕ, suc, ◌≡◌, refl, Bool, true, false, ◌||◌, ◌≢◌, List, [], ◌∷◌, ◌++◌, eqb, length, Option}
use Rattle.std.specs.Prelude.{Some, None}
use Rattle.std.proofs.Common.{sym, ap, ◌∙◌, subst, eqb-true, eq-eqb, ne_eqb}
use Rattle.std.proofs.Math.Bool.{or-true, or_assoc}
use Rattle.std.proofs.lemmas.Bool.{eqb-false}
use Rattle.refusal.specs.Cases.{never, choose}
use Rattle.sound_lists.specs.Members.{has, Distinct, first_or, last_or, without}

pub or_left : (x y : Bool) → x ≡ true → (x || y) ≡ true
or_left x y e = rw e

pub or_right : (x y : Bool) → y ≡ true → (x || y) ≡ true
or_right x y e = rw e (or-true x)

pub or_cases : {A : Type 0} (x y : Bool) → (x || y) ≡ true → (x ≡ true → A) → (y ≡ true → A) → A
or_cases true y e f g = f refl
or_cases false y e f g = g e

pub or_neither : (x y : Bool) → (x || y) ≡ false → (x ≡ false) × (y ≡ false)
or_neither true y e = (e, cc)
or_neither false y e = (refl, e)

pub not_both : {A : Type 0} (x : Bool) → x ≡ true → x ≡ false → A
not_both x p q = never cc

pub has_append : (j : ℕ) (a b : List ℕ) → has j (a ++ b) ≡ (has j a || has j b)
has_append j [] b = refl
has_append j (i ∷ a) b =
    ap (λ (x : Bool). eqb j i || x) (has_append j a b) ∙ sym (or_assoc (eqb j i) (has j a) (has j b))

pub has_first : (j : ℕ) (s : List ℕ) → has j (j ∷ s) ≡ true
has_first j s = or_left (eqb j j) (has j s) (eq-eqb j j refl)

pub has_rest : (j i : ℕ) (s : List ℕ) → has j s ≡ true → has j (i ∷ s) ≡ true
has_rest j i s h = or_right (eqb j i) (has j s) h

-- A number inside and one outside are not the same.
pub apart : (j i : ℕ) (s : List ℕ) → has j s ≡ true → has i s ≡ false → j ≢ i
apart j i s p q e = not_both (has i s) (subst (λ (n : ℕ). has n s ≡ true) e p) q

pub some_not_none : (j : ℕ) → Some j ≢ None
some_not_none j e = never cc

-- The end of a sequence that has a number is a number of it.
pub last_some : (k : ℕ) (s : List ℕ) → (x : ℕ) × (last_or (Some k) s ≡ Some x)
last_some k [] = (k, refl)
last_some k (j ∷ s) = last_some j s

pub last_has : (k : ℕ) (s : List ℕ) (j : ℕ) → last_or (Some k) s ≡ Some j → has j (k ∷ s) ≡ true
last_has k [] j y = or_left (eqb j k) false (eq-eqb j k (cc))
last_has k (i ∷ s) j y = or_right (eqb j k) (has j (i ∷ s)) (last_has i s j y)

pub last_member : (s : List ℕ) (j : ℕ) → last_or None s ≡ Some j → has j s ≡ true
last_member [] j y = absurd (some_not_none j (sym y))
last_member (k ∷ s) j y = last_has k s j y

pub first_member : (s : List ℕ) (j : ℕ) → first_or s None ≡ Some j → has j s ≡ true
first_member [] j y = absurd (some_not_none j (sym y))
first_member (k ∷ s) j y = or_left (eqb j k) (has j s) (eq-eqb j k (cc))

pub first_append : (a b : List ℕ) (e : Option ℕ) → first_or (a ++ b) e ≡ first_or a (first_or b e)
first_append [] b e = refl
first_append (i ∷ a) b e = refl

pub last_append : (p : Option ℕ) (a b : List ℕ) → last_or p (a ++ b) ≡ last_or (last_or p a) b
last_append p [] b = refl
last_append p (i ∷ a) b = last_append (Some i) a b

pub distinct_append : (s : List ℕ) (i : ℕ) → has i s ≡ false → Distinct s → Distinct (s ++ i ∷ [])
distinct_append [] i h d = record { first = refl; rest = tt }
distinct_append (k ∷ s) i h d =
    let n = or_neither (eqb i k) (has i s) h in
    record {
      first = has_append k s (i ∷ []) ∙ rw (d.first, ne_eqb k i (λ z. eqb-false i k n.0 (sym z)));
      rest = distinct_append s i n.1 d.rest;
    }

-- A sequence in two parts about one of its numbers.
pub split_at : (i : ℕ) (s : List ℕ) → has i s ≡ true → (a : List ℕ) × (b : List ℕ) × (s ≡ a ++ i ∷ b)
split_at i [] h = not_both false h refl
split_at i (k ∷ s) h = or_cases (eqb i k) (has i s) h
    (λ z. ([], s, ap (λ (n : ℕ). n ∷ s) (sym (eqb-true i k z))))
    (λ z. let r = split_at i s z in (k ∷ r.0, r.1, ap (λ (l : List ℕ). k ∷ l) r.2))

-- Where no number is twice, the two parts share none, and neither has the number between.
pub record Parts (a : List ℕ) (i : ℕ) (b : List ℕ) : Type 0 where
  pub left : Distinct a
  pub right : Distinct b
  pub joined : Distinct (a ++ b)
  pub not_left : has i a ≡ false
  pub not_right : has i b ≡ false
  pub across : (j : ℕ) → has j a ≡ true → has j b ≡ false

pub parts : (a : List ℕ) (i : ℕ) (b : List ℕ) → Distinct (a ++ i ∷ b) → Parts a i b
parts [] i b d =
    record {
      left = tt;
      right = d.rest;
      joined = d.rest;
      not_left = refl;
      not_right = d.first;
      across = λ j h. not_both false h refl;
    }
parts (k ∷ a) i b d =
    let P = parts a i b d.rest in
    let u = or_neither (has k a) (eqb k i || has k b) (sym (has_append k a (i ∷ b)) ∙ d.first) in
    let v = or_neither (eqb k i) (has k b) u.1 in
    record {
      left = record { first = u.0; rest = P.left };
      right = P.right;
      joined = record { first = has_append k a b ∙ rw u.0 v.1; rest = P.joined };
      not_left = rw (ne_eqb i k (λ z. eqb-false k i v.0 (sym z))) P.not_left;
      not_right = P.not_right;
      across = λ j h. or_cases (eqb j k) (has j a) h (λ z. rw (eqb-true j k z) v.1) (λ z. P.across j z);
    }

pub without_outside : (i : ℕ) (s : List ℕ) → has i s ≡ false → without i s ≡ s
unfolding without choose
without_outside i [] h = refl
without_outside i (j ∷ s) h =
    let n = or_neither (eqb i j) (has i s) h in rw n.0 (ap (λ (l : List ℕ). j ∷ l) (without_outside i s n.1))

pub without_parts : (i : ℕ) (a b : List ℕ) → has i a ≡ false → has i b ≡ false → without i (a ++ i ∷ b) ≡ a ++ b
unfolding without choose
without_parts i [] b h k = rw (eq-eqb i i refl) (without_outside i b k)
without_parts i (j ∷ a) b h k =
    let n = or_neither (eqb i j) (has i a) h in rw n.0 (ap (λ (l : List ℕ). j ∷ l) (without_parts i a b n.1 k))

-- What is left has every other number that there was.
pub has_without : (j i : ℕ) (s : List ℕ) → has j (without i s) ≡ choose (eqb j i) false (has j s)
unfolding without choose
has_without j i [] = go (eqb j i)
  where
    go : (b : Bool) → false ≡ choose b false false
    go true = refl
    go false = refl
has_without j i (k ∷ s) = go (eqb i k) refl (eqb j i) refl (has_without j i s)
  where
    go : (b : Bool) → eqb i k ≡ b → (c : Bool) → eqb j i ≡ c → has j (without i s) ≡ choose (eqb j i) false (has j s)
        → has j (choose (eqb i k) (without i s) (k ∷ without i s)) ≡ choose (eqb j i) false (eqb j k || has j s)
    go true e true f h = rw (e, h, f)
    go true e false f h = rw (e, h, f, ne_eqb j k (λ z. eqb-false j i f (z ∙ sym (eqb-true i k e))))
    go false e true f h = rw (e, h, f, ne_eqb j k (λ z. eqb-false i k e (sym (eqb-true j i f) ∙ z)))
    go false e false f h = rw (e, h, f)

pub length_parts : (i : ℕ) (a b : List ℕ) → length (a ++ i ∷ b) ≡ suc (length (a ++ b))
length_parts i [] b = refl
length_parts i (k ∷ a) b = ap suc (length_parts i a b)
