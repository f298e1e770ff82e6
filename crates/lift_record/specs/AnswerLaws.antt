-- Laws by which the calls meet their contracts: each way to an answer, but for those that lean on what a search finds,
-- which are in proofs/AnswerLaws.antt.
use Prim.Native.Nat.{ℕ, suc, ◌+◌, ◌-◌, ◌*◌, ◌<◌, ◌≤◌}
use Rattle.std.proofs.lemmas.List.Edits.{sets-eq}
use native.Mathlib.Omega.{arith}
use Rattle.std.specs.Prelude.{◌≡◌, Bool, false, not, take, drop, ◌++◌, ltb, length, set}
use Rattle.std.proofs.Math.Path.{refl, sym}
use Rattle.std.proofs.Common.{ap, ◌∙◌, length-set}
use Rattle.std.proofs.Math.Bool.{true}
use mathlib.Core.List.{List, [], ◌∷◌}
use Rattle.std.proofs.lemmas.List.{drop-drop, append_assoc}
use borrow.Rule.Slice.PartMut.{put_mid}
use borrow.Author.Tests.{ltb-false, not-true, not-false}
use Rattle.refusal.specs.Answer.{bad_table, record_order}
use Rattle.refusal.specs.Cases.{cases, choose, if_less, never, less, not_less, is}
use Rattle.lift_record.specs.declared.Place.{Place}
use Rattle.lift_record.specs.Record.{runs, part_at}
use Rattle.lift_record.specs.Record.{Found, found_at, placed, slid_to, slide_left}
use Rattle.lift_record.specs.Record.{end_before, with_run, appended, append_left}
use Rattle.lift_record.specs.Halving.{in_order_since}
use Rattle.lift_record.specs.Neighbours.{is_place}
use Rattle.lift_record.specs.SearchLaws.{in_order_since_none}

-- The words of a place that was found.
module _ (w : List ℕ) {r : List ℕ} {q p : Place} (e : q ≡ p) (h : r ≡ part_at w q) where
  pub placed_at : found_at r (0 ∷ (q.first ∷ (q.count ∷ []))) ≡ placed w p
  unfolding placed
  placed_at = rw (h, e) refl

  pub slid_at : (a : ℕ) → found_at r (0 ∷ (q.first ∷ (q.count ∷ (a ∷ [])))) ≡ slid_to w p a
  unfolding slid_to
  slid_at a = rw (h, e) refl

-- A place that is right lies in the list.
pub place_inside : {d : Bool} (w : List ℕ) (p : Place) (now width : ℕ) → d ≡ is_place w p now width → not d ≡ false
    → p.first + p.count ≤ runs w
unfolding is_place if_less choose
place_inside {d} w p now width e n =
    go (ltb (runs w) p.first) refl (ltb (runs w - p.first) p.count) refl _ (sym e ∙ not-false d n)
  where
    go : (x : Bool) → ltb (runs w) p.first ≡ x → (y : Bool) → ltb (runs w - p.first) p.count ≡ y → (z : Bool)
        → choose x false (choose y false z) ≡ true → p.first + p.count ≤ runs w
    go true h y k z g = never cc
    go false h true k z g = never cc
    go false h false k z g = omega (arith, ltb-false (runs w) p.first h, ltb-false (runs w - p.first) p.count k)

module _ (w : List ℕ) (earlier : ℕ) (p : Place) (now width : ℕ) where
  pub slide_disordered : {y : Found} {b : Bool} → b ≡ in_order_since w 0 → not b ≡ true
      → y ≡ found_at [] (record_order ∷ (0 ∷ (0 ∷ (0 ∷ [])))) → y ≡ slide_left w earlier p now width
  unfolding slide_left choose
  slide_disordered {y} {b} judged n h = rw (sym (in_order_since_none w) ∙ sym judged ∙ not-true b n) h

-- The three words of a run, one behind the other: each stands in the list, and they make the run.
module _ (w : List ℕ) (k : ℕ) (l : k < runs w) where
  pub second_inside : (i start : ℕ) → 3 * k + 1 < length (set w i start)
  second_inside i start = omega (arith, length-set w i start)

  pub third_inside : (i start j end : ℕ) → 3 * k + 2 < length (set (set w i start) j end)
  third_inside i start j end = omega (arith, length-set w i start, length-set (set w i start) j end)

  pub run_put : (start end thread : ℕ)
      → set (set (set w (3 * k + 0) start) (3 * k + 1) end) (3 * k + 2) thread ≡ with_run w k start end thread
  unfolding with_run
  run_put start end thread =
      let x : 3 * k + 0 ≡ 3 * k = omega arith in
      let y : 3 * k + 1 ≡ suc (3 * k) = omega arith in
      let z : 3 * k + 2 ≡ suc (suc (3 * k)) = omega arith in
      let n : 3 * k + 3 ≡ 3 * suc k = omega arith in
      rw (x, y, z) (rw n at (sets-eq (start ∷ (end ∷ (thread ∷ []))) w (3 * k) (omega arith)))

-- A run more: each way to an answer.
module _ (w : List ℕ) (k start end thread : ℕ) where
  pub no_room : runs w ≤ k → appended bad_table w ≡ append_left w k start end thread
  unfolding append_left
  no_room l = not_less _ _ _ _ l refl

  module _ (l : k < runs w) where
    pub ends_early : end < start → appended record_order w ≡ append_left w k start end thread
    unfolding append_left
    ends_early h = less _ _ _ _ l (less _ _ _ _ h refl)

    module _ {last : ℕ} (h : start ≤ end) (e : last ≡ end_before 0 w k) where
      pub starts_early : start < last → appended record_order w ≡ append_left w k start end thread
      unfolding append_left
      starts_early m = less _ _ _ _ l (not_less _ _ _ _ h (is _ e (less _ _ _ _ m refl)))

      pub run_appended : {v : List ℕ} → last ≤ start → v ≡ with_run w k start end thread
          → appended 0 v ≡ append_left w k start end thread
      unfolding append_left
      run_appended m p =
          less _ _ _ _ l (not_less _ _ _ _ h (is _ e (not_less _ _ _ _ m (ap (λ (u : List ℕ). appended 0 u) p))))

-- A search goes by its cases.
pub ruleset searches = (cases, placed_at)

pub ruleset appends = (no_room, ends_early, starts_early, run_appended)
