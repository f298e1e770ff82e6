-- The part that a search finds: all and only the runs that the request names, in one piece, and no other place is it.
-- That the search finds it is proofs/Part.antt.
use Rattle.std.specs.Prelude.{ℕ, ◌+◌, ◌-◌, ◌<◌, ◌≤◌, ◌≡◌, refl, Bool, true, false, List, ltb}
use Rattle.std.proofs.Common.{arith, sym, ltb-true, ltb-false}
use Rattle.lift_record.specs.declared.Place.{Place}
use Rattle.lift_record.specs.Record.{runs, start_of, end_of}

-- "The runs whose end lies after now less the width (0 if that is negative) and whose start lies before now."
abbrev pub Named : List ℕ → ℕ → ℕ → ℕ → Type 0
Named w now width i = (now - width < end_of w i) × (start_of w i < now)

abbrev pub Within : Place → ℕ → Type 0
Within p i = (p.first ≤ i) × (i < p.first + p.count)

-- A place is the part's: it lies in the list, holds all and only the named runs, and an empty one lies at the first run
-- with such an end, or at the list's end.
pub record IsPart (w : List ℕ) (now width : ℕ) (p : Place) : Type 0 where
  pub inside : p.first + p.count ≤ runs w
  pub all : (i : ℕ) → i < runs w → Named w now width i → Within p i
  pub only : (i : ℕ) → Within p i → Named w now width i
  pub before : p.count ≡ 0 → (i : ℕ) → i < p.first → end_of w i ≤ now - width
  pub at : p.count ≡ 0 → p.first < runs w → now - width < end_of w p.first

module _ {w : List ℕ} {now width : ℕ} {p q : Place} (P : IsPart w now width p) (Q : IsPart w now width q) where
  -- What holds a run begins no earlier and ends no later than any other such place; an empty one lies where every
  -- empty one does.
  no_less : p.first < q.first → ⊥
  no_less l = go (ltb 0 p.count) refl
    where
      go : (x : Bool) → ltb 0 p.count ≡ x → ⊥
      go true h =
          let k = ltb-true 0 p.count h in
          let n = P.only p.first (omega arith, omega (arith, k)) in
          let v = Q.all p.first (omega (arith, k, P.inside)) n in
          omega (arith, v.0, l)
      go false h = other (ltb 0 q.count) refl
        where
          z : p.count ≡ 0
          z = omega (arith, ltb-false 0 p.count h)

          other : (x : Bool) → ltb 0 q.count ≡ x → ⊥
          other true g =
              let k = ltb-true 0 q.count g in
              let n = Q.only q.first (omega arith, omega (arith, k)) in
              let v = P.all q.first (omega (arith, k, Q.inside)) n in
              omega (arith, v.1, l, z)
          other false g =
              let y : q.count ≡ 0 = omega (arith, ltb-false 0 q.count g) in
              omega (arith, P.at z (omega (arith, l, Q.inside)), Q.before y p.first l)

  no_shorter : p.first ≡ q.first → p.count < q.count → ⊥
  no_shorter e l =
      let n = Q.only (p.first + p.count) (omega (arith, e), omega (arith, e, l)) in
      let v = P.all (p.first + p.count) (omega (arith, e, l, Q.inside)) n in
      omega (arith, v.1)

same : {p q : Place} → p.first ≡ q.first → p.count ≡ q.count → p ≡ q
same e g = λ i. record { first = e i; count = g i }

-- There is no other.
pub part_unique : {w : List ℕ} {now width : ℕ} {p q : Place} → IsPart w now width p → IsPart w now width q → p ≡ q
part_unique {w} {now} {width} {p} {q} P Q = same first count
  where
    first : p.first ≡ q.first
    first = go (ltb p.first q.first) refl (ltb q.first p.first) refl
      where
        go : (x : Bool) → ltb p.first q.first ≡ x → (y : Bool) → ltb q.first p.first ≡ y
            → p.first ≡ q.first
        go true h y k = absurd (no_less P Q (ltb-true _ _ h))
        go false h true k = absurd (no_less Q P (ltb-true _ _ k))
        go false h false k = omega (arith, ltb-false p.first q.first h, ltb-false q.first p.first k)

    count : p.count ≡ q.count
    count = go (ltb p.count q.count) refl (ltb q.count p.count) refl
      where
        go : (x : Bool) → ltb p.count q.count ≡ x → (y : Bool) → ltb q.count p.count ≡ y
            → p.count ≡ q.count
        go true h y k = absurd (no_shorter P Q first (ltb-true _ _ h))
        go false h true k = absurd (no_shorter Q P (sym first) (ltb-true _ _ k))
        go false h false k = omega (arith, ltb-false p.count q.count h, ltb-false q.count p.count k)
