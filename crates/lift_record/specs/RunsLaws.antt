-- Runs by their numbers: which of them precede, in the list's words and in a list in order.
use Rattle.std.specs.Prelude.{ℕ, zero, suc, ◌+◌, ◌-◌, ◌*◌, ◌<◌, ◌≤◌, ◌≡◌, Bool, List, [], ◌∷◌, length, get_or, drop}
use Rattle.std.proofs.Common.{arith, sym, ◌∙◌, length-drop, get_or-drop}
use Rattle.std.proofs.Math.Numerals.{unary_clauses}
use Rattle.std.proofs.Math.Path.{refl, ap}
use Rattle.std.proofs.Math.Bool.{true, false}
use Rattle.std.proofs.Math.Dec.{ltb, leb}
use borrow.Author.Tests.{ltb-true, ltb-false, leb-true, leb-false, lt-ltb, le-ltb, le-leb, lt-leb}
use Rattle.refusal.specs.Cases.{choose, if_less, never}
use Rattle.lift_record.specs.declared.Edge.{Edge}
use Rattle.lift_record.specs.declared.Edge.TheVariants as edge
use Rattle.lift_record.specs.Record.{start_word, end_word, runs, start_of, end_of, in_order_from, ended_by}
use Rattle.lift_record.specs.Record.{started_before}
use Rattle.lift_record.specs.Halving.{edge_before, precedes}
use Rattle.lift_record.specs.Neighbours.{First}
use Rattle.lift_record.specs.FirstLaws.{Falls, first_none, first_more, first_from}

module _ (w : List ℕ) (side : Edge) (time i : ℕ) where
  pub precedes_outside : runs w ≤ i → precedes w side time i ≡ false
  unfolding precedes if_less choose
  precedes_outside h = rw (le-ltb i (runs w) h) refl

  pub precedes_inside : i < runs w → precedes w side time i ≡ edge_before w side time i
  unfolding precedes if_less choose
  precedes_inside h = rw (lt-ltb i (runs w) h) refl

  pub inside_of : precedes w side time i ≡ true → i < runs w
  inside_of h = go (ltb i (runs w)) refl
    where
      go : (x : Bool) → ltb i (runs w) ≡ x → i < runs w
      go true k = ltb-true i (runs w) k
      go false k = never (let e = precedes_outside (ltb-false i (runs w) k) in cc)

-- The first that does not precede is a run, or the list's end.
pub first_within : (w : List ℕ) (side : Edge) (time : ℕ) {f b : ℕ} → f ≤ runs w → First (precedes w side time) f b
    → b ≤ runs w
first_within w side time {f} {b} l F = go (ltb (runs w) b) refl
  where
    go : (x : Bool) → ltb (runs w) b ≡ x → b ≤ runs w
    go true h = absurd (omega (arith, inside_of w side time (runs w) (F.passes (runs w) l (ltb-true (runs w) b h))))
    go false h = ltb-false (runs w) b h

-- What a run that precedes is like, and one that does not.
module _ (w : List ℕ) (time i : ℕ) where
  pub ended_of : precedes w edge.End time i ≡ true → end_of w i ≤ time
  unfolding edge_before
  ended_of h = leb-true (end_of w i) time (sym (precedes_inside w edge.End time i (inside_of w edge.End time i h)) ∙ h)

  pub started_of : precedes w edge.Start time i ≡ true → start_of w i < time
  unfolding edge_before
  started_of h =
      ltb-true (start_of w i) time
      (sym (precedes_inside w edge.Start time i (inside_of w edge.Start time i h)) ∙ h)

  pub unended_of : i < runs w → precedes w edge.End time i ≡ false → time < end_of w i
  unfolding edge_before
  unended_of l h = leb-false (end_of w i) time (sym (precedes_inside w edge.End time i l) ∙ h)

  pub of_ended : i < runs w → end_of w i ≤ time → precedes w edge.End time i ≡ true
  unfolding edge_before
  of_ended l h = precedes_inside w edge.End time i l ∙ le-leb (end_of w i) time h

  pub of_started : i < runs w → start_of w i < time → precedes w edge.Start time i ≡ true
  unfolding edge_before
  of_started l h = precedes_inside w edge.Start time i l ∙ lt-ltb (start_of w i) time h

module _ (s e j : ℕ) (rest : List ℕ) where
  pub start_next : (k : ℕ) → start_of (s ∷ (e ∷ (j ∷ rest))) (suc k) ≡ start_of rest k
  start_next k = simp unary_clauses

  pub end_next : (k : ℕ) → end_of (s ∷ (e ∷ (j ∷ rest))) (suc k) ≡ end_of rest k
  end_next k = simp unary_clauses

  pub runs_next : runs (s ∷ (e ∷ (j ∷ rest))) ≡ suc (runs rest)
  runs_next = omega arith

  edge_next : (side : Edge) (time k : ℕ)
      → edge_before (s ∷ (e ∷ (j ∷ rest))) side time (suc k) ≡ edge_before rest side time k
  unfolding edge_before
  edge_next edge.Start time k = ap (λ (x : ℕ). ltb x time) (start_next k)
  edge_next edge.End time k = ap (λ (x : ℕ). leb x time) (end_next k)

  pub precedes_next : (side : Edge) (time k : ℕ)
      → precedes (s ∷ (e ∷ (j ∷ rest))) side time (suc k) ≡ precedes rest side time k
  precedes_next side time k = go (ltb k (runs rest)) refl
    where
      go : (x : Bool) → ltb k (runs rest) ≡ x
          → precedes (s ∷ (e ∷ (j ∷ rest))) side time (suc k) ≡ precedes rest side time k
      go true h =
          precedes_inside _ side time (suc k) (omega (arith, runs_next, ltb-true k (runs rest) h))
          ∙ edge_next side time k
          ∙ sym (precedes_inside rest side time k (ltb-true k (runs rest) h))
      go false h =
          precedes_outside _ side time (suc k) (omega (arith, runs_next, ltb-false k (runs rest) h))
          ∙ sym (precedes_outside rest side time k (ltb-false k (runs rest) h))

no_run : (w : List ℕ) (side : Edge) (time : ℕ) → length w < 3 → First (precedes w side time) 0 0
no_run w side time h =
    first_none (precedes w side time) (precedes w side time)
    (precedes_outside w side time 0 (omega arith))

-- The first run that does not end by a time, and the first that does not start before one.
pub ended : (time : ℕ) (w : List ℕ) → First (precedes w edge.End time) 0 (ended_by time w)
unfolding ended_by if_less choose edge_before
ended time [] = no_run _ _ _ (omega arith)
ended time (s ∷ []) = no_run _ _ _ (omega arith)
ended time (s ∷ (e ∷ [])) = no_run _ _ _ (omega arith)
ended time (s ∷ (e ∷ (j ∷ rest))) = go (ended time rest) (ltb time e) refl
  where
    go : First (precedes rest edge.End time) 0 (ended_by time rest) → (x : Bool) → ltb time e ≡ x
        → First (precedes (s ∷ (e ∷ (j ∷ rest))) edge.End time) 0 (choose x 0 (suc (ended_by time rest)))
    go F true h =
        first_none _ (precedes rest edge.End time)
        (precedes_inside _ edge.End time 0 (omega arith) ∙ lt-leb e time (ltb-true time e h))
    go F false h =
        first_more _ _ _ (precedes_next s e j rest edge.End time)
        (of_ended (s ∷ (e ∷ (j ∷ rest))) time 0 (omega arith) (ltb-false time e h)) F

pub started : (time : ℕ) (w : List ℕ) → First (precedes w edge.Start time) 0 (started_before time w)
unfolding started_before if_less choose edge_before
started time [] = no_run _ _ _ (omega arith)
started time (s ∷ []) = no_run _ _ _ (omega arith)
started time (s ∷ (e ∷ [])) = no_run _ _ _ (omega arith)
started time (s ∷ (e ∷ (j ∷ rest))) = go (started time rest) (ltb s time) refl
  where
    go : First (precedes rest edge.Start time) 0 (started_before time rest) → (x : Bool) → ltb s time ≡ x
        → First (precedes (s ∷ (e ∷ (j ∷ rest))) edge.Start time) 0 (choose x (suc (started_before time rest)) 0)
    go F true h =
        first_more _ _ _ (precedes_next s e j rest edge.Start time)
        (of_started (s ∷ (e ∷ (j ∷ rest))) time 0 (omega arith) (ltb-true s time h)) F
    go F false h =
        first_none _ (precedes rest edge.Start time)
        (precedes_inside _ edge.Start time 0 (omega arith) ∙ le-ltb s time (ltb-false s time h))

-- A list from run f on has its runs.
runs_from : (w : List ℕ) (f : ℕ) → runs (drop (3 * f) w) ≡ runs w - f
runs_from w f = omega (arith, length-drop (3 * f) w)

word_from : (w : List ℕ) (f i k : ℕ) → get_or (drop (3 * f) w) (3 * i + k) 0 ≡ get_or w (3 * (f + i) + k) 0
word_from w f i k = get_or-drop (3 * f) w (3 * i + k) 0 ∙ ap (λ (n : ℕ). get_or w n 0) (omega arith)

edge_from : (w : List ℕ) (f : ℕ) (side : Edge) (time i : ℕ)
    → edge_before (drop (3 * f) w) side time i ≡ edge_before w side time (f + i)
unfolding edge_before
edge_from w f edge.Start time i = ap (λ (x : ℕ). ltb x time) (word_from w f i start_word)
edge_from w f edge.End time i = ap (λ (x : ℕ). leb x time) (word_from w f i end_word)

precedes_from : (w : List ℕ) (f : ℕ) (side : Edge) (time i : ℕ)
    → precedes (drop (3 * f) w) side time i ≡ precedes w side time (f + i)
precedes_from w f side time i = go (ltb (f + i) (runs w)) refl
  where
    go : (x : Bool) → ltb (f + i) (runs w) ≡ x → precedes (drop (3 * f) w) side time i ≡ precedes w side time (f + i)
    go true h =
        precedes_inside _ side time i (omega (arith, runs_from w f, ltb-true (f + i) (runs w) h))
        ∙ edge_from w f side time i
        ∙ sym (precedes_inside w side time (f + i) (ltb-true (f + i) (runs w) h))
    go false h =
        precedes_outside _ side time i (omega (arith, runs_from w f, ltb-false (f + i) (runs w) h))
        ∙ sym (precedes_outside w side time (f + i) (ltb-false (f + i) (runs w) h))

pub started_from : (time : ℕ) (w : List ℕ) (f : ℕ)
    → First (precedes w edge.Start time) f (f + started_before time (drop (3 * f) w))
started_from time w f = first_from _ _ f _ (precedes_from w f edge.Start time) (started time (drop (3 * f) w))

-- Of a list in order: every run starts at `last` or later and ends at its start or later, and a later run starts at an
-- earlier one's end or later.
pub record Rising (last : ℕ) (w : List ℕ) : Type 0 where
  pub since : (i : ℕ) → i < runs w → last ≤ start_of w i
  pub ends : (i : ℕ) → i < runs w → start_of w i ≤ end_of w i
  pub later : (i k : ℕ) → i < k → k < runs w → end_of w i ≤ start_of w k

no_rising : (last : ℕ) (w : List ℕ) → length w < 3 → Rising last w
no_rising last w h = record {
  since = λ i l. absurd (omega arith);
  ends = λ i l. absurd (omega arith);
  later = λ i k l m. absurd (omega arith);
}

module _ (last s e j : ℕ) (rest : List ℕ) where
  one_rising : last ≤ s → s ≤ e → Rising e rest → Rising last (s ∷ (e ∷ (j ∷ rest)))
  one_rising a b R = record { since = since; ends = ends; later = later }
    where
      since : (i : ℕ) → i < runs (s ∷ (e ∷ (j ∷ rest))) → last ≤ start_of (s ∷ (e ∷ (j ∷ rest))) i
      since zero l = a
      since (suc i) l =
          rw (start_next s e j rest i) (omega (arith, R.since i (omega (arith, runs_next s e j rest, l))))

      ends : (i : ℕ) → i < runs (s ∷ (e ∷ (j ∷ rest)))
          → start_of (s ∷ (e ∷ (j ∷ rest))) i ≤ end_of (s ∷ (e ∷ (j ∷ rest))) i
      ends zero l = b
      ends (suc i) l =
          rw (start_next s e j rest i, end_next s e j rest i) (R.ends i (omega (arith, runs_next s e j rest, l)))

      later : (i k : ℕ) → i < k → k < runs (s ∷ (e ∷ (j ∷ rest)))
          → end_of (s ∷ (e ∷ (j ∷ rest))) i ≤ start_of (s ∷ (e ∷ (j ∷ rest))) k
      later zero zero l m = absurd (omega arith)
      later zero (suc k) l m = rw (start_next s e j rest k) (R.since k (omega (arith, runs_next s e j rest, m)))
      later (suc i) zero l m = absurd (omega arith)
      later (suc i) (suc k) l m =
          rw (start_next s e j rest k, end_next s e j rest i)
          (R.later i k (omega arith) (omega (arith, runs_next s e j rest, m)))

  next_rising : (in_order_from e rest ≡ true → Rising e rest) → in_order_from last (s ∷ (e ∷ (j ∷ rest))) ≡ true
      → Rising last (s ∷ (e ∷ (j ∷ rest)))
  unfolding in_order_from if_less choose
  next_rising f o = go (ltb s last) refl (ltb e s) refl o
    where
      go : (x : Bool) → ltb s last ≡ x → (y : Bool) → ltb e s ≡ y
          → choose x false (choose y false (in_order_from e rest)) ≡ true → Rising last (s ∷ (e ∷ (j ∷ rest)))
      go true h y k z = never cc
      go false h true k z = never cc
      go false h false k z = one_rising (ltb-false s last h) (ltb-false e s k) (f z)

pub rising : (last : ℕ) (w : List ℕ) → in_order_from last w ≡ true → Rising last w
rising last [] o = no_rising last _ (omega arith)
rising last (s ∷ []) o = no_rising last _ (omega arith)
rising last (s ∷ (e ∷ [])) o = no_rising last _ (omega arith)
rising last (s ∷ (e ∷ (j ∷ rest))) o = next_rising last s e j rest (rising e rest) o

module _ {last : ℕ} {w : List ℕ} (R : Rising last w) where
  pub starts_rise : (i k : ℕ) → i ≤ k → k < runs w → start_of w i ≤ start_of w k
  starts_rise i k l m = go (ltb i k) refl
    where
      go : (x : Bool) → ltb i k ≡ x → start_of w i ≤ start_of w k
      go true h = omega (arith, R.later i k (ltb-true i k h) m, R.ends i (omega (arith, l, m)))
      go false h = let e : i ≡ k = omega (arith, ltb-false i k h, l) in rw e (omega arith)

  pub ends_rise : (i k : ℕ) → i ≤ k → k < runs w → end_of w i ≤ end_of w k
  ends_rise i k l m = go (ltb i k) refl
    where
      go : (x : Bool) → ltb i k ≡ x → end_of w i ≤ end_of w k
      go true h = omega (arith, R.later i k (ltb-true i k h) m, R.ends k m)
      go false h = let e : i ≡ k = omega (arith, ltb-false i k h, l) in rw e (omega arith)

  -- The runs that precede stand before those that do not.
  pub precedes_falls : (side : Edge) (time : ℕ) → Falls (precedes w side time)
  precedes_falls edge.Start time i k l h =
      let m = inside_of w edge.Start time k h in
      of_started w time i (omega (arith, l, m)) (omega (arith, starts_rise i k l m, started_of w time k h))
  precedes_falls edge.End time i k l h =
      let m = inside_of w edge.End time k h in
      of_ended w time i (omega (arith, l, m)) (omega (arith, ends_rise i k l m, ended_of w time k h))
