-- The search finds the part: all and only the runs that the request names, in one piece.
use Rattle.std.specs.Prelude.{ℕ, ◌+◌, ◌-◌, ◌*◌, ◌<◌, ◌≤◌, ◌≡◌, refl, Bool, true, false, List, drop, ltb}
use Rattle.std.proofs.Common.{arith, ltb-true, ltb-false}
use Rattle.refusal.specs.Cases.{given, never}
use Rattle.lift_record.specs.declared.Edge.TheVariants as edge
use Rattle.lift_record.specs.Record.{in_order, runs, start_of, end_of, place, place_of, ended_by, started_before}
use Rattle.lift_record.specs.Halving.{precedes}
use Rattle.lift_record.specs.Neighbours.{First}
use Rattle.lift_record.specs.RunsLaws.{ended, started_from, Rising, rising, precedes_falls, ended_of}
use Rattle.lift_record.specs.RunsLaws.{started_of, unended_of, of_started, first_within}
use Rattle.lift_record.specs.Part.{IsPart}

module _ (w : List ℕ) (now width f c : ℕ) (R : Rising 0 w) (E : First (precedes w edge.End (now - width)) 0 f)
    (S : First (precedes w edge.Start now) f (f + c)) (inside : f + c ≤ runs w) where
  -- What precedes in one of the two ways stands before the part, or behind it.
  lower : (i : ℕ) → now - width < end_of w i → f ≤ i
  lower i n = go (ltb i f) refl
    where
      go : (x : Bool) → ltb i f ≡ x → f ≤ i
      go true h = absurd (omega (arith, ended_of w (now - width) i (E.passes i (omega arith) (ltb-true i f h)), n))
      go false h = ltb-false i f h

  upper : (i : ℕ) → i < runs w → start_of w i < now → i < f + c
  upper i l n = go (ltb i (f + c)) refl
    where
      go : (x : Bool) → ltb i (f + c) ≡ x → i < f + c
      go true h = ltb-true i (f + c) h
      go false h =
          let e = precedes_falls R edge.Start now (f + c) i (ltb-false i (f + c) h) (of_started w now i l n) in
          let g = S.fails in never cc

  after : (i : ℕ) → f ≤ i → i < runs w → now - width < end_of w i
  after i a b = go (precedes w edge.End (now - width) i) refl
    where
      go : (x : Bool) → precedes w edge.End (now - width) i ≡ x → now - width < end_of w i
      go true h = let e = precedes_falls R edge.End (now - width) f i a h in let g = E.fails in never cc
      go false h = unended_of w (now - width) i b h

  part_of : IsPart w now width (place f c)
  part_of = record {
    inside = inside;
    all = λ i l n. (lower i n.0, upper i l n.1);
    only = λ i h. (after i h.0 (omega (arith, h.1, inside)), started_of w now i (S.passes i h.0 h.1));
    before = λ z i l. ended_of w (now - width) i (E.passes i (omega arith) l);
    at = λ z l. after f (omega arith) l;
  }

-- The search finds the part.
pub place_is_part : (w : List ℕ) (now width : ℕ) → in_order w ≡ true → IsPart w now width (place_of w now width)
unfolding place_of given
place_is_part w now width o =
    part_of w now width _ _ (rising 0 w o) (ended (now - width) w) S (first_within w edge.Start now inside S)
  where
    S : First (precedes w edge.Start now) (ended_by (now - width) w)
        (ended_by (now - width) w + started_before now (drop (3 * ended_by (now - width) w) w))
    S = started_from now w (ended_by (now - width) w)

    inside : ended_by (now - width) w ≤ runs w
    inside = first_within w edge.End (now - width) (omega arith) (ended (now - width) w)
