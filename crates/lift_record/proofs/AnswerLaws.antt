-- Laws by which a search and a slide meet their contracts: each way to an answer that leans on what a search finds.
use Prim.Native.Nat.{ℕ, ◌+◌, ◌-◌, ◌<◌, ◌≤◌, max}
use Rattle.std.specs.Prelude.{◌≡◌, Bool, false, not}
use Rattle.std.proofs.Math.Path.{refl, sym}
use Rattle.std.proofs.Common.{◌∙◌}
use Rattle.std.proofs.Math.Bool.{true}
use mathlib.Core.List.{List}
use borrow.Author.Tests.{lt-ltb, le-ltb, not-true, not-false}
use Rattle.refusal.specs.Cases.{choose, if_less}
use Rattle.lift_record.specs.declared.Place.{Place}
use Rattle.lift_record.specs.declared.Edge.TheVariants as edge
use Rattle.lift_record.specs.Record.{in_order, place_of, is_afresh}
use Rattle.lift_record.specs.Record.{Found, search_left, slid_to, slide_left}
use Rattle.lift_record.specs.Halving.{precedes, halved_place, in_order_since, search_from_left}
use Rattle.lift_record.specs.Neighbours.{First, is_place}
use Rattle.lift_record.specs.SearchLaws.{in_order_since_none}
use Rattle.lift_record.specs.SlideLaws.{same_is}
use Rattle.lift_record.specs.AnswerLaws.{slid_at, slide_disordered}
use Rattle.lift_record.proofs.SearchLaws.{halved_place_lem, search_from_none}
use Rattle.lift_record.proofs.SlideLaws.{is_place_lem, walked_on}

pub searched : {y : Found} (w : List ℕ) (now width : ℕ) → y ≡ search_from_left w 0 now width
    → y ≡ search_left w now width
searched w now width e = e ∙ search_from_none w now width

module _ (w : List ℕ) (earlier : ℕ) (p : Place) (now width : ℕ) where
  in_order_lem : {b : Bool} → b ≡ in_order_since w 0 → not b ≡ false → in_order w ≡ true
  in_order_lem {b} judged n = sym (in_order_since_none w) ∙ sym judged ∙ not-false b n

  abbrev said : Bool → Found
  said x = slid_to w (place_of w now width) (choose x 1 0)

  slide_ordered : {y : Found} → in_order w ≡ true → y ≡ said (is_afresh w earlier p now width)
      → y ≡ slide_left w earlier p now width
  unfolding slide_left choose
  slide_ordered o h = rw o h

  fresh : {y : Found} → in_order w ≡ true → y ≡ slid_to w (halved_place w now width) 1 → y ≡ said true
  unfolding choose
  fresh o h = rw (halved_place_lem w now width o) at h

  pub slide_back : {y : Found} {b : Bool} → b ≡ in_order_since w 0 → not b ≡ false → now < earlier
      → y ≡ slid_to w (halved_place w now width) 1 → y ≡ slide_left w earlier p now width
  unfolding is_afresh if_less choose
  slide_back judged n l h =
      let o = in_order_lem judged n in slide_ordered o (rw (lt-ltb now earlier l) (fresh o h))

  afresh_by : {d : Bool} → in_order w ≡ true → earlier ≤ now → d ≡ is_place w p earlier width
      → is_afresh w earlier p now width ≡ choose d false true
  unfolding is_afresh if_less choose
  afresh_by o l asked = rw (le-ltb now earlier l, asked ∙ is_place_lem w p earlier width o) refl

  pub slide_afresh : {y : Found} {b d : Bool} → b ≡ in_order_since w 0 → not b ≡ false → earlier ≤ now
      → d ≡ is_place w p earlier width → not d ≡ true → y ≡ slid_to w (halved_place w now width) 1
      → y ≡ slide_left w earlier p now width
  unfolding choose
  slide_afresh {y} {b} {d} judged n l asked m h =
      let o = in_order_lem judged n in slide_ordered o (rw (afresh_by o l asked, not-true d m) (fresh o h))

  pub slide_on : {y : Found} {b d : Bool} (q : Place) → b ≡ in_order_since w 0 → not b ≡ false → earlier ≤ now
      → d ≡ is_place w p earlier width → not d ≡ false
      → First (precedes w edge.End (now - width)) p.first q.first
      → First (precedes w edge.Start now) (max q.first (p.first + p.count)) (q.first + q.count)
      → y ≡ slid_to w q 0 → y ≡ slide_left w earlier p now width
  unfolding choose
  slide_on {y} {b} {d} q judged n l asked m E S h =
      slide_ordered o (rw (afresh_by o l asked, not-false d m) (rw there at h))
    where
      o : in_order w ≡ true
      o = in_order_lem judged n

      known : p ≡ place_of w earlier width
      known = same_is (sym (is_place_lem w p earlier width o) ∙ sym asked ∙ not-false d m)

      there : q ≡ place_of w now width
      there = walked_on w earlier now width p.first p.count q.first q.count l known E S

pub ruleset slides = (slide_disordered, slide_back, slide_afresh, slide_on, slid_at)
