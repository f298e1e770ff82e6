-- A search that judges order from a run on only gives a search's answer, where the runs before are in order.
use Prim.Native.Nat.{ℕ, ◌+◌, ◌-◌, ◌*◌, min}
use native.Mathlib.Omega.{arith}
use Rattle.std.specs.Prelude.{◌≡◌, Bool, List, [], ◌∷◌, drop, take}
use Rattle.std.proofs.Math.Path.{refl, sym, ap}
use Rattle.std.proofs.Common.{◌∙◌}
use Rattle.std.proofs.Math.Bool.{true, false}
use Rattle.refusal.specs.Answer.{record_order}
use Rattle.refusal.specs.Cases.{choose, given}
use Rattle.lift_record.specs.declared.Edge.TheVariants as edge
use Rattle.lift_record.specs.Record.{runs, in_order, ended_by, started_before, place}
use Rattle.lift_record.specs.Record.{place_of, found_at, placed, search_left}
use Rattle.lift_record.specs.Halving.{precedes, halved, halved_place, search_from_left}
use Rattle.lift_record.specs.Neighbours.{First}
use Rattle.lift_record.specs.FirstLaws.{first_unique, halved_first}
use Rattle.lift_record.specs.RunsLaws.{rising, precedes_falls, precedes_outside, ended, started_from}
use Rattle.lift_record.specs.RunsLaws.{first_within}
use Rattle.lift_record.specs.SearchLaws.{same_place_lem, in_order_take, in_order_since_lem, none_known}

-- Two firsts of the two edges are the place.
pub place_by : (w : List ℕ) (now width f c : ℕ) → First (precedes w edge.End (now - width)) 0 f
    → First (precedes w edge.Start now) f (f + c) → place f c ≡ place_of w now width
unfolding place_of given
place_by w now width f c E S = go (first_unique E (ended (now - width) w))
  where
    go : f ≡ ended_by (now - width) w
        → place f c ≡ place (ended_by (now - width) w) (started_before now (drop (3 * ended_by (now - width) w) w))
    go e =
        let T = rw (sym e) at (started_from now w (ended_by (now - width) w)) in
        same_place_lem e (omega (arith, first_unique S T) ∙ ap (λ (g : ℕ). started_before now (drop (3 * g) w)) e)

module _ (w : List ℕ) (now width : ℕ) (o : in_order w ≡ true) where
  abbrev f : ℕ
  f = halved (precedes w edge.End (now - width)) 0 (runs w)

  abbrev b : ℕ
  b = halved (precedes w edge.Start now) f (runs w)

  E : First (precedes w edge.End (now - width)) 0 f
  E =
      halved_first _ (precedes_falls (rising 0 w o) edge.End (now - width)) 0 (runs w) (omega arith)
      (precedes_outside w edge.End (now - width) (runs w) (omega arith))

  S : First (precedes w edge.Start now) f b
  S =
      halved_first _ (precedes_falls (rising 0 w o) edge.Start now) f (runs w)
      (first_within w edge.End (now - width) (omega arith) E)
      (precedes_outside w edge.Start now (runs w) (omega arith))

  -- Halving finds the place in a list in order.
  pub halved_place_lem : halved_place w now width ≡ place_of w now width
  unfolding halved_place given
  halved_place_lem =
      let e : b ≡ f + (b - f) = omega (arith, S.since) in
      place_by w now width f (b - f) E (rw (sym e) S)

module _ (w : List ℕ) (ordered now width : ℕ) where
  alike : (x : Bool) → in_order w ≡ x
      → choose x (placed w (halved_place w now width)) (found_at [] (record_order ∷ (0 ∷ (0 ∷ []))))
      ≡ choose x (placed w (place_of w now width)) (found_at [] (record_order ∷ (0 ∷ (0 ∷ []))))
  unfolding choose
  alike true o = ap (placed w) (halved_place_lem w now width o)
  alike false o = refl

  -- Where the first `ordered` runs are in order it is a search's answer, a refusal too;
  pub search_from : in_order (take (3 * min ordered (runs w)) w) ≡ true
      → search_from_left w ordered now width ≡ search_left w now width
  unfolding search_from_left search_left
  search_from h = rw (in_order_since_lem w ordered now width h) (alike (in_order w) refl)

  -- so it is wherever the whole list is.
  pub search_from_in_order : in_order w ≡ true → search_from_left w ordered now width ≡ search_left w now width
  search_from_in_order o = search_from (in_order_take w (min ordered (runs w)) (omega arith) o)

-- With no run known to be in order it is the search.
module _ (w : List ℕ) where
  pub search_from_none : (now width : ℕ) → search_from_left w 0 now width ≡ search_left w now width
  search_from_none now width = search_from w 0 now width (none_known w)
