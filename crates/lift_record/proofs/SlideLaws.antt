-- A slide asks the runs beside a place's ends and walks on from it: what a fresh search gives.
use Rattle.std.specs.Prelude.{ℕ, ◌+◌, ◌-◌, ◌*◌, ◌<◌, ◌≤◌, max, ◌≡◌, Bool, List, drop, eqb}
use Rattle.std.proofs.Common.{arith, ◌∙◌}
use Rattle.std.proofs.Math.Path.{refl, sym, ap}
use Rattle.std.proofs.Math.Bool.{true, false}
use Rattle.std.proofs.Math.Dec.{ltb}
use borrow.Author.Tests.{ltb-true, ltb-false, eqb-true, eqb-false, eq-eqb, ne_eqb}
use Rattle.refusal.specs.Cases.{choose, given, if_less, if_equal}
use Rattle.lift_record.specs.declared.Place.{Place}
use Rattle.lift_record.specs.declared.Edge.TheVariants as edge
use Rattle.lift_record.specs.Record.{runs, in_order, ended_by, started_before, place, place_of, same_place}
use Rattle.lift_record.specs.Halving.{precedes}
use Rattle.lift_record.specs.Neighbours.{First, is_first, is_place}
use Rattle.lift_record.specs.RunsLaws.{rising, precedes_falls, ended, started_from, first_within, inside_of}
use Rattle.lift_record.specs.RunsLaws.{ended_of, started_of, of_ended, of_started}
use Rattle.lift_record.proofs.SearchLaws.{place_by}
use Rattle.lift_record.specs.SlideLaws.{is_first_lem}

module _ (w : List ℕ) (p : Place) (now width : ℕ) (o : in_order w ≡ true) where
  abbrev f : ℕ
  f = ended_by (now - width) w

  abbrev c : ℕ
  c = started_before now (drop (3 * f) w)

  E : First (precedes w edge.End (now - width)) 0 f
  E = ended (now - width) w

  S : First (precedes w edge.Start now) f (f + c)
  S = started_from now w f

  in_list_lem : f ≤ runs w
  in_list_lem = first_within w edge.End (now - width) (omega arith) E

  behind_in_list : f + c ≤ runs w
  behind_in_list = first_within w edge.Start now in_list_lem S

  same_sum : (b : ℕ) → eqb (f + b) (f + c) ≡ eqb b c
  same_sum b = go (eqb b c) refl
    where
      go : (x : Bool) → eqb b c ≡ x → eqb (f + b) (f + c) ≡ x
      go true h = eq-eqb (f + b) (f + c) (omega (arith, eqb-true b c h))
      go false h = ne_eqb (f + b) (f + c) (λ e. eqb-false b c h (omega (arith, e)))

  -- The count, once the first run is right.
  count_right : (a b : ℕ) → a ≡ f → is_first (precedes w edge.Start now) a (a + b) ≡ eqb b c
  count_right a b e =
      rw e
      (is_first_lem _ (precedes_falls (rising 0 w o) edge.Start now) f (f + b) (omega arith) (f + c) S ∙ same_sum b)

  abbrev asked : Bool → Bool
  asked x = choose x (is_first (precedes w edge.Start now) p.first (p.first + p.count)) false

  abbrev same : Bool → Bool
  same x = choose x (eqb p.count c) false

  by_ends : (x : Bool) → eqb p.first f ≡ x → asked x ≡ same x
  unfolding choose
  by_ends true h = count_right p.first p.count (eqb-true p.first f h)
  by_ends false h = refl

  too_long : (x : Bool) → eqb p.first f ≡ x → runs w - p.first < p.count → false ≡ same x
  unfolding choose
  too_long true h l =
      sym (ne_eqb p.count c (λ e. omega (arith, e, eqb-true p.first f h, behind_in_list, l)))
  too_long false h l = refl

  too_far : (x : Bool) → eqb p.first f ≡ x → runs w < p.first → false ≡ same x
  unfolding choose
  too_far true h l = absurd (omega (arith, eqb-true p.first f h, in_list_lem, l))
  too_far false h l = refl

  -- In a list in order the place is right exactly where the runs beside its ends say so.
  pub is_place_lem : is_place w p now width ≡ same_place p (place_of w now width)
  unfolding is_place same_place place_of given if_less if_equal
  is_place_lem = far (ltb (runs w) p.first) refl
    where
      long : (y : Bool) → ltb (runs w - p.first) p.count ≡ y
          → choose y false (asked (is_first (precedes w edge.End (now - width)) 0 p.first)) ≡ same (eqb p.first f)
      long true h = too_long (eqb p.first f) refl (ltb-true _ _ h)
      long false h =
          rw
          (is_first_lem _ (precedes_falls (rising 0 w o) edge.End (now - width)) 0 p.first (omega arith) f E)
          (by_ends (eqb p.first f) refl)

      far : (x : Bool) → ltb (runs w) p.first ≡ x
          → choose x false (choose (ltb (runs w - p.first) p.count) false
          (asked (is_first (precedes w edge.End (now - width)) 0 p.first)))
          ≡ same (eqb p.first f)
      far true h = too_far (eqb p.first f) refl (ltb-true _ _ h)
      far false h = long (ltb (runs w - p.first) p.count) refl

-- A later time is preceded by whatever an earlier one is.
module _ (w : List ℕ) (i : ℕ) {time later : ℕ} (l : time ≤ later) where
  ended_later : precedes w edge.End time i ≡ true → precedes w edge.End later i ≡ true
  ended_later h = of_ended w later i (inside_of w edge.End time i h) (omega (arith, ended_of w time i h))

  started_later : precedes w edge.Start time i ≡ true → precedes w edge.Start later i ≡ true
  started_later h = of_started w later i (inside_of w edge.Start time i h) (omega (arith, started_of w time i h))

-- What walks on from a first of an earlier time finds the first of a later one.
longer : {before test : ℕ → Bool} {from at far : ℕ} → ((i : ℕ) → before i ≡ true → test i ≡ true) → from ≤ far
    → ((i : ℕ) → from ≤ i → i < far → before i ≡ true) → First test far at → First test from at
longer {before} {test} {from} {at} {far} up l b F =
    record { since = omega (arith, l, F.since); passes = passes; fails = F.fails }
  where
    passes : (i : ℕ) → from ≤ i → i < at → test i ≡ true
    passes i m n = go (ltb i far) refl
      where
        go : (x : Bool) → ltb i far ≡ x → test i ≡ true
        go true h = up i (b i m (ltb-true i far h))
        go false h = F.passes i (ltb-false i far h) n

module _ (w : List ℕ) (earlier now width first count f c : ℕ) (l : earlier ≤ now)
    (known : place first count ≡ place_of w earlier width)
    (E : First (precedes w edge.End (now - width)) first f)
    (S : First (precedes w edge.Start now) (max f (first + count)) (f + c)) where
  first_known : first ≡ ended_by (earlier - width) w
  unfolding place_of given
  first_known = ap (λ (p : Place). p.first) known

  count_known : count ≡ started_before earlier (drop (3 * first) w)
  unfolding place_of given
  count_known =
      ap (λ (p : Place). p.count) known
      ∙ ap (λ (g : ℕ). started_before earlier (drop (3 * g) w)) (sym first_known)

  whole_end : First (precedes w edge.End (now - width)) 0 f
  whole_end =
      longer (λ i. ended_later w i (omega arith)) (omega arith)
      (λ i a b. (ended (earlier - width) w).passes i a (rw first_known at b)) E

  whole_start : First (precedes w edge.Start now) f (f + c)
  whole_start =
      longer (λ i. started_later w i l) (omega arith)
      (λ i a b. (started_from earlier w first).passes i (omega (arith, a, E.since))
      (rw count_known at (between i a b))) S
    where
      between : (i : ℕ) → f ≤ i → i < max f (first + count) → i < first + count
      between i a b = omega arith

  -- The walk's end is the new reading's place.
  pub walked_on : place f c ≡ place_of w now width
  walked_on = place_by w now width f c whole_end whole_start
