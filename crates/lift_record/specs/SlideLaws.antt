-- What a slide asks of the two runs beside a place's end. That it asks rightly, and walks on to what a fresh search
-- gives, is proofs/SlideLaws.antt.
use Rattle.std.specs.Prelude.{ℕ, ◌-◌, ◌≤◌, ◌≡◌, Bool, eqb}
use Rattle.std.proofs.Common.{arith}
use Rattle.std.proofs.Math.Path.{refl, sym}
use Rattle.std.proofs.Math.Bool.{true, false}
use Rattle.std.proofs.Math.Dec.{ltb}
use borrow.Author.Tests.{ltb-true, ltb-false, eqb-true, eqb-false}
use Rattle.refusal.specs.Cases.{choose, if_less, if_equal, never}
use Rattle.lift_record.specs.declared.Place.{Place}
use Rattle.lift_record.specs.Record.{same_place}
use Rattle.lift_record.specs.Neighbours.{First, is_first}
use Rattle.lift_record.specs.FirstLaws.{Falls, first_unique}
use Rattle.lift_record.specs.SearchLaws.{same_place_lem}

module _ (test : ℕ → Bool) (falls : Falls test) (from at : ℕ) (l : from ≤ at) where
  -- What it and the one before it say is right.
  is_first_right : is_first test from at ≡ true → First test from at
  unfolding is_first if_less choose
  is_first_right h = go (test at) refl (ltb from at) refl h
    where
      go : (x : Bool) → test at ≡ x → (y : Bool) → ltb from at ≡ y
          → choose x false (choose y (test (at - 1)) true) ≡ true
          → First test from at
      go true g y k z = never cc
      go false g true k z =
          record { since = l; passes = λ i a b. falls i (at - 1) (omega arith) z; fails = g }
      go false g false k z =
          record { since = l; passes = λ i a b. absurd (omega (arith, ltb-false from at k, a, b)); fails = g }

  is_first_all : First test from at → is_first test from at ≡ true
  unfolding is_first if_less choose
  is_first_all F = rw F.fails (go (ltb from at) refl)
    where
      go : (y : Bool) → ltb from at ≡ y → choose y (test (at - 1)) true ≡ true
      go true k = let m = ltb-true from at k in F.passes (at - 1) (omega (arith, m)) (omega (arith, m))
      go false k = refl

  -- It is the first, or it is not.
  pub is_first_lem : (f : ℕ) → First test from f → is_first test from at ≡ eqb at f
  is_first_lem f F = go (is_first test from at) refl (eqb at f) refl
    where
      go : (x : Bool) → is_first test from at ≡ x → (y : Bool) → eqb at f ≡ y → x ≡ y
      go true h true k = refl
      go true h false k = absurd (eqb-false at f k (first_unique (is_first_right h) F))
      go false h true k =
          let e : f ≡ at = sym (eqb-true at f k) in
          let g = is_first_all (rw e at F) in never cc
      go false h false k = refl

pub same_is : {p q : Place} → same_place p q ≡ true → p ≡ q
unfolding same_place if_equal choose
same_is {p} {q} h = go (eqb p.first q.first) refl h
  where
    go : (x : Bool) → eqb p.first q.first ≡ x → choose x (eqb p.count q.count) false ≡ true → p ≡ q
    go true k z = same_place_lem (eqb-true p.first q.first k) (eqb-true p.count q.count z)
    go false k z = never cc
