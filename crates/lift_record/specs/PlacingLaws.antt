-- Laws by which the functions that look for a place meet their contracts.
use Rattle.std.specs.Prelude.{ℕ, ◌+◌, ◌-◌, ◌*◌, ◌/◌, ◌<◌, ◌≤◌, max, ◌≡◌, Bool, true, false, ltb, leb}
use Rattle.std.specs.Prelude.{List, [], get_or, length, take, drop}
use Rattle.std.proofs.Common.{le-ltb, ltb-true, ltb-false, arith, add-one, sym, not, ◌∙◌}
use Rattle.std.proofs.lemmas.Bool.{not-true, not-false}
use Rattle.std.proofs.Math.Path.{refl}
use Rattle.refusal.specs.Cases.{given}
use Rattle.lift_record.specs.declared.Place.{Place}
use Rattle.lift_record.specs.declared.Edge.{Edge}
use Rattle.lift_record.specs.declared.Edge.TheVariants as edge
use Rattle.lift_record.specs.Record.{runs, place, part_at}
use Rattle.lift_record.specs.Halving.{edge_before, precedes, halved, halved_place}
use Rattle.lift_record.specs.ChunkLaws.{runs_of, word_at}
use Rattle.lift_record.specs.Neighbours.{First}
use Rattle.lift_record.specs.RunsLaws.{precedes_outside, precedes_inside, first_within}
use Rattle.lift_record.specs.FirstLaws.{halved_up, halved_down, halved_met, halved_inside}

module _ (w : List ℕ) (side : Edge) (time i : ℕ) {rs : List (List ℕ)} (f : rs ≡ runs_of w)
    (n : length rs ≡ runs w) where
  pub no_edge : length rs ≤ i → ltb i (length rs) ≡ precedes w side time i
  no_edge h = le-ltb i (length rs) h ∙ sym (precedes_outside w side time i (omega (arith, n, h)))

  pub start_edge : i < length rs → side ≡ edge.Start
      → ltb (get_or (get_or rs i []) 0 0) time ≡ precedes w side time i
  unfolding edge_before
  start_edge l e =
      let m : i < runs w = omega (arith, n, l) in
      rw (e, word_at w i 0 f m (omega arith)) (sym (precedes_inside w edge.Start time i m))

  pub end_edge : i < length rs → side ≡ edge.End
      → leb (get_or (get_or rs i []) 1 0) time ≡ precedes w side time i
  unfolding edge_before
  end_edge l e =
      let m : i < runs w = omega (arith, n, l) in
      rw (e, word_at w i 1 f m (omega arith)) (sym (precedes_inside w edge.End time i m))

pub ruleset edges = (no_edge, start_edge, end_edge)

module _ (test : ℕ → Bool) (lo hi : ℕ) {x : ℕ} (so_far : halved test lo hi ≡ x) where
  pub go_up : {b : Bool} → lo < hi → b ≡ test (lo + (hi - lo) / 2) → b ≡ true
      → halved test (lo + (hi - lo) / 2 + 1) hi ≡ x
  go_up l e h = rw add-one (halved_up test lo hi l (sym e ∙ h) ∙ so_far)

  pub go_down : {b : Bool} → lo < hi → b ≡ test (lo + (hi - lo) / 2) → b ≡ false
      → halved test lo (lo + (hi - lo) / 2) ≡ x
  go_down l e h = halved_down test lo hi l (sym e ∙ h) ∙ so_far

  pub there : hi ≤ lo → lo ≡ x
  there l = halved_met test lo hi l ∙ so_far

pub ruleset halvings = (go_up, go_down, there)

pub at_first : (w : List ℕ) (side : Edge) (time from k : ℕ) → from ≤ k → k < from → precedes w side time k ≡ true
at_first w side time from k l m = absurd (omega arith)

module _ (w : List ℕ) (side : Edge) (time from i : ℕ)
    (h : (k : ℕ) → from ≤ k → k < i → precedes w side time k ≡ true) where
  pub one_on : {b : Bool} → b ≡ precedes w side time i → not b ≡ false
      → (k : ℕ) → from ≤ k → k < i + 1 → precedes w side time k ≡ true
  one_on {b} e t k l m = go (ltb k i) refl
    where
      go : (x : Bool) → ltb k i ≡ x → precedes w side time k ≡ true
      go true g = h k l (ltb-true k i g)
      go false g = let z : k ≡ i = omega (arith, ltb-false k i g, m) in rw z (sym e ∙ not-false b t)

  pub walked_to : {b : Bool} → from ≤ i → b ≡ precedes w side time i → not b ≡ true
      → First (precedes w side time) from i
  walked_to {b} l e t = record { since = l; passes = h; fails = sym e ∙ not-true b t }

  pub all_walked : from ≤ i → runs w ≤ i → i ≤ runs w → First (precedes w side time) from (runs w)
  all_walked l m n =
      let z : runs w ≡ i = omega (arith, m, n) in
      rw z (record { since = l; passes = h; fails = precedes_outside w side time i m })

pub ruleset walking = (at_first, one_on, walked_to, all_walked)

-- The two ends, found by halving and by walking.
module _ (w : List ℕ) (now width : ℕ) {since f b : ℕ} (s : since ≡ now - width)
    (E : f ≡ halved (precedes w edge.End since) 0 (runs w))
    (S : b ≡ halved (precedes w edge.Start now) f (runs w)) where
  first_halved : f ≤ runs w
  first_halved = rw E (halved_inside (precedes w edge.End since) 0 (runs w) (omega arith)).1

  pub halves_rise : f ≤ b
  halves_rise = rw S (halved_inside (precedes w edge.Start now) f (runs w) first_halved).0

  pub halves_inside : f + (b - f) ≤ runs w
  halves_inside =
      let r = halves_rise in
      let l : b ≤ runs w = rw S (halved_inside (precedes w edge.Start now) f (runs w) first_halved).1 in omega arith

  pub halves_place : place f (b - f) ≡ halved_place w now width
  unfolding halved_place given
  halves_place = rw (S, E, s) refl

pub ruleset halved_places = (halves_rise, halves_inside, halves_place)

module _ (w : List ℕ) (now width first count : ℕ) (l : first + count ≤ runs w) {since f from : ℕ}
    (s : since ≡ now - width)
    (E : First (precedes w edge.End since) first f) (m : from ≡ max f (first + count)) where
  pub walk_from : from ≤ runs w
  walk_from = let e : f ≤ runs w = first_within w edge.End since (omega arith) E in omega (arith, m, e, l)

module _ (w : List ℕ) (now width first count : ℕ) (l : first + count ≤ runs w) {since f b from : ℕ}
    (s : since ≡ now - width)
    (E : First (precedes w edge.End since) first f) (m : from ≡ max f (first + count))
    (S : First (precedes w edge.Start now) from b) where
  pub walk_rises : f ≤ b
  walk_rises = omega (arith, m, S.since)

  pub walk_inside : f + (b - f) ≤ runs w
  walk_inside =
      let n : b ≤ runs w = first_within w edge.Start now (walk_from w now width first count l s E m) S in
      omega (arith, walk_rises, n)

  pub walk_end : First (precedes w edge.End (now - width)) first f
  walk_end = rw s at E

  pub walk_start : First (precedes w edge.Start now) (max f (first + count)) (f + (b - f))
  walk_start =
      let e : f + (b - f) ≡ b = omega (arith, walk_rises) in rw (e, sym m) S

pub ruleset walks = (walk_from, walk_rises, walk_inside, walk_end, walk_start)

pub part_words : {r : List ℕ} (w : List ℕ) (p : Place)
    → r ≡ take (3 * p.first + 3 * p.count - 3 * p.first) (drop (3 * p.first) w) → r ≡ part_at w p
unfolding part_at
part_words w p e =
    let n : 3 * p.first + 3 * p.count - 3 * p.first ≡ 3 * p.count = omega arith in rw n at e
