-- The first number that fails a test: there is one at most; it is found in a list's words, and by halving.
use Prim.Native.Nat.{ℕ, zero, suc, ◌+◌, ◌-◌, ◌<◌, ◌≤◌}
use native.Mathlib.Omega.{arith}
use Rattle.std.specs.Prelude.{◌≡◌, Bool, ltb}
use Rattle.std.proofs.Math.Path.{refl, sym}
use Rattle.std.proofs.Common.{◌∙◌, ltb-true, ltb-false, lt-ltb, le-ltb}
use Rattle.std.proofs.Math.Bool.{true, false}
use Rattle.refusal.specs.Cases.{choose, given, if_less, never}
use Rattle.lift_record.specs.Halving.{middle, halving, halved}
use Rattle.lift_record.specs.Neighbours.{First}

-- A test cannot pass and fail.
both : {A : Type 0} {x : Bool} → x ≡ true → x ≡ false → A
both e g = never cc

module _ {test : ℕ → Bool} {from : ℕ} where
  earliest : {a b : ℕ} → First test from a → First test from b → a < b → ⊥
  earliest {a} {b} A B l = both (B.passes a A.since l) A.fails

  pub first_unique : {a b : ℕ} → First test from a → First test from b → a ≡ b
  first_unique {a} {b} A B = go (ltb a b) refl (ltb b a) refl
    where
      go : (x : Bool) → ltb a b ≡ x → (y : Bool) → ltb b a ≡ y → a ≡ b
      go true h y k = absurd (earliest A B (ltb-true a b h))
      go false h true k = absurd (earliest B A (ltb-true b a k))
      go false h false k = omega (arith, ltb-false a b h, ltb-false b a k)

module _ (test next : ℕ → Bool) where
  pub first_none : test 0 ≡ false → First test 0 0
  first_none h = record { since = omega arith; passes = λ i a b. absurd (omega arith); fails = h }

  -- The first passes, and of the rest n.
  pub first_more : (n : ℕ) → ((i : ℕ) → test (suc i) ≡ next i) → test 0 ≡ true → First next 0 n → First test 0 (suc n)
  first_more n e h N = record { since = omega arith; passes = passes; fails = e n ∙ N.fails }
    where
      passes : (i : ℕ) → 0 ≤ i → i < suc n → test i ≡ true
      passes zero a b = h
      passes (suc i) a b = e i ∙ N.passes i (omega arith) (omega arith)

  -- The numbers of one test are those of another from f on.
  pub first_from : (f n : ℕ) → ((i : ℕ) → next i ≡ test (f + i)) → First next 0 n → First test f (f + n)
  first_from f n e N = record { since = omega arith; passes = passes; fails = sym (e n) ∙ N.fails }
    where
      passes : (i : ℕ) → f ≤ i → i < f + n → test i ≡ true
      passes i a b =
          let its : f + (i - f) ≡ i = omega arith in
          rw its at (sym (e (i - f)) ∙ N.passes (i - f) (omega arith) (omega arith))

module _ (test : ℕ → Bool) where
  -- All that pass stand before all that fail.
  abbrev pub Falls : Type 0
  Falls = (i k : ℕ) → i ≤ k → test k ≡ true → test i ≡ true

  -- What is asked of lo and hi at each halving: nothing before lo fails, and hi fails.
  pub record Between (from lo hi : ℕ) : Type 0 where
    pub since : from ≤ lo
    pub ordered : lo ≤ hi
    pub passes : (i : ℕ) → from ≤ i → i < lo → test i ≡ true
    pub fails : test hi ≡ false

  upper : (lo hi : ℕ) → lo < hi → middle lo hi < hi
  upper lo hi l = omega arith

  module _ (falls : Falls) (from : ℕ) where
    above : (lo hi n : ℕ) → lo ≤ n → n < hi → test n ≡ true → Between from lo hi → Between from (suc n) hi
    above lo hi n l m h B = record {
      since = omega (arith, B.since);
      ordered = m;
      passes = λ i a b. falls i n (omega arith) h;
      fails = B.fails;
    }

    below : (lo hi n : ℕ) → lo ≤ n → test n ≡ false → Between from lo hi → Between from lo n
    below lo hi n l h B = record { since = B.since; ordered = l; passes = B.passes; fails = h }

    met : (lo hi : ℕ) → hi ≤ lo → Between from lo hi → First test from lo
    met lo hi l B =
        let e : hi ≡ lo = omega (arith, B.ordered) in
        record { since = B.since; passes = B.passes; fails = rw e at B.fails }

    abbrev Halves : ℕ → Type 0
    Halves room = (lo hi : ℕ) → hi - lo ≤ room → Between from lo hi → First test from (halving room test lo hi)

    halves_next : (room : ℕ) → Halves room → Halves (suc room)
    unfolding halving if_less given choose
    halves_next room H lo hi l B = go (ltb lo hi) refl
      where
        inner : lo < hi → (x : Bool) → test (middle lo hi) ≡ x
            → First test from
            (choose x (halving room test (suc (middle lo hi)) hi) (halving room test lo (middle lo hi)))
        inner m true h = H _ hi (omega arith) (above lo hi _ (omega arith) (upper lo hi m) h B)
        inner m false h = H lo _ (omega arith) (below lo hi _ (omega arith) h B)

        go : (x : Bool) → ltb lo hi ≡ x
            → First test from (choose x (choose (test (middle lo hi)) (halving room test (suc (middle lo hi)) hi)
            (halving room test lo (middle lo hi))) lo)
        go true h = inner (ltb-true lo hi h) (test (middle lo hi)) refl
        go false h = met lo hi (ltb-false lo hi h) B

    halves : (room : ℕ) → Halves room
    unfolding halving
    halves zero = λ lo hi l B. met lo hi (omega (arith, l, B.ordered)) B
    halves (suc room) = halves_next room (halves room)

    -- Halving finds it.
    pub halved_first : (hi : ℕ) → from ≤ hi → test hi ≡ false → First test from (halved test from hi)
    unfolding halved
    halved_first hi l h =
        halves (hi - from) from hi (omega arith)
        (record { since = omega arith; ordered = l; passes = λ i a b. absurd (omega arith); fails = h })

module _ (test : ℕ → Bool) where
  abbrev Enough : ℕ → ℕ → Type 0
  Enough room more = (lo hi : ℕ) → hi - lo ≤ room → hi - lo ≤ more → halving room test lo hi ≡ halving more test lo hi

  abbrev step : ℕ → ℕ → ℕ → ℕ
  step room lo hi =
      choose (test (middle lo hi)) (halving room test (suc (middle lo hi)) hi)
      (halving room test lo (middle lo hi))

  -- A step, and the end.
  halving_step : (room lo hi : ℕ) → lo < hi → halving (suc room) test lo hi ≡ step room lo hi
  unfolding halving if_less given choose
  halving_step room lo hi l = rw (lt-ltb lo hi l) refl

  halving_met : (room lo hi : ℕ) → hi ≤ lo → halving room test lo hi ≡ lo
  unfolding halving if_less choose
  halving_met zero lo hi l = refl
  halving_met (suc room) lo hi l = rw (le-ltb lo hi l) refl

  step_enough : (room more : ℕ) → Enough room more → (lo hi : ℕ) → lo < hi → hi - lo ≤ suc room → hi - lo ≤ suc more
      → step room lo hi ≡ step more lo hi
  unfolding choose
  step_enough room more E lo hi l a b = go (test (middle lo hi))
    where
      go : (x : Bool) → choose x (halving room test (suc (middle lo hi)) hi) (halving room test lo (middle lo hi))
          ≡ choose x (halving more test (suc (middle lo hi)) hi) (halving more test lo (middle lo hi))
      go true = E _ hi (omega arith) (omega arith)
      go false = E lo _ (omega arith) (omega arith)

  enough_next : (room more : ℕ) → Enough room more → Enough (suc room) (suc more)
  enough_next room more E lo hi a b = go (ltb lo hi) refl
    where
      go : (x : Bool) → ltb lo hi ≡ x → halving (suc room) test lo hi ≡ halving (suc more) test lo hi
      go true h =
          let l = ltb-true lo hi h in
          halving_step room lo hi l ∙ step_enough room more E lo hi l a b ∙ sym (halving_step more lo hi l)
      go false h =
          let l = ltb-false lo hi h in halving_met (suc room) lo hi l ∙ sym (halving_met (suc more) lo hi l)

  -- More room than there are numbers makes no difference.
  enough : (room more : ℕ) → Enough room more
  enough zero more lo hi a b = halving_met zero lo hi (omega arith) ∙ sym (halving_met more lo hi (omega arith))
  enough (suc room) zero lo hi a b =
      halving_met (suc room) lo hi (omega arith) ∙ sym (halving_met zero lo hi (omega arith))
  enough (suc room) (suc more) lo hi a b = enough_next room more (enough room more) lo hi a b

  module _ (lo hi : ℕ) where
    one_step : lo < hi → halved test lo hi ≡ step (hi - lo - 1) lo hi
    unfolding halved
    one_step l =
        let e : hi - lo ≡ suc (hi - lo - 1) = omega arith in
        enough (hi - lo) (suc (hi - lo - 1)) lo hi (omega arith) (omega arith) ∙ halving_step (hi - lo - 1) lo hi l

    -- By the number in the middle.
    pub halved_up : lo < hi → test (middle lo hi) ≡ true → halved test (suc (middle lo hi)) hi ≡ halved test lo hi
    unfolding halved choose
    halved_up l h = enough _ (hi - lo - 1) _ hi (omega arith) (omega arith) ∙ sym (rw h at (one_step l))

    pub halved_down : lo < hi → test (middle lo hi) ≡ false → halved test lo (middle lo hi) ≡ halved test lo hi
    unfolding halved choose
    halved_down l h = enough _ (hi - lo - 1) lo _ (omega arith) (omega arith) ∙ sym (rw h at (one_step l))

    pub halved_met : hi ≤ lo → lo ≡ halved test lo hi
    unfolding halved
    halved_met l = sym (halving_met (hi - lo) lo hi l)

  Inside : ℕ → Type 0
  Inside room = (lo hi : ℕ) → lo ≤ hi → (lo ≤ halving room test lo hi) × (halving room test lo hi ≤ hi)

  inside_next : (room : ℕ) → Inside room → Inside (suc room)
  unfolding Inside choose
  inside_next room I lo hi m = go (ltb lo hi) refl
    where
      split : lo < hi → (x : Bool)
          → (lo ≤ choose x (halving room test (suc (middle lo hi)) hi) (halving room test lo (middle lo hi)))
          × (choose x (halving room test (suc (middle lo hi)) hi) (halving room test lo (middle lo hi)) ≤ hi)
      split l true = let p = I (suc (middle lo hi)) hi (omega arith) in (omega (arith, p.0), p.1)
      split l false = let p = I lo (middle lo hi) (omega arith) in (p.0, omega (arith, p.1))

      go : (x : Bool) → ltb lo hi ≡ x → (lo ≤ halving (suc room) test lo hi) × (halving (suc room) test lo hi ≤ hi)
      go true h = rw (halving_step room lo hi (ltb-true lo hi h)) (split (ltb-true lo hi h) (test (middle lo hi)))
      go false h = rw (halving_met (suc room) lo hi (ltb-false lo hi h)) (omega arith, m)

  inside : (room : ℕ) → Inside room
  unfolding Inside halving
  inside zero = λ lo hi m. (omega arith, m)
  inside (suc room) = inside_next room (inside room)

  -- What halving finds lies between, whatever the test.
  pub halved_inside : (lo hi : ℕ) → lo ≤ hi → (lo ≤ halved test lo hi) × (halved test lo hi ≤ hi)
  unfolding halved Inside
  halved_inside lo hi = inside (hi - lo) lo hi
