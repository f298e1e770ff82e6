-- A run more: what an accepted one leaves, and that a list in order stays in order.
use Prim.Native.Nat.{ℕ, zero, suc, ◌+◌, ◌*◌, ◌<◌, ◌≤◌}
use Rattle.std.proofs.Common.{arith, sym, ap, ◌∙◌, length-take-le, take_at}
use Rattle.std.specs.Prelude.{◌≡◌, Bool, true, false, List, [], ◌∷◌, ◌++◌, length, take, drop, ltb}
use Rattle.std.proofs.Math.Path.{refl}
use Rattle.std.proofs.Math.ListN.{length-append, get_or-append}
use Rattle.std.proofs.Math.Seq.{drop_at, get_or-take}
use borrow.Author.Tests.{ltb-true, ltb-false, le-ltb}
use Rattle.refusal.specs.Answer.{bad_table, record_order}
use Rattle.refusal.specs.Cases.{choose, given, if_less}
use Rattle.lift_record.specs.Record.{runs, in_order_from, in_order, end_before, Appended, appended, with_run}
use Rattle.lift_record.specs.Record.{append_left}
use Rattle.lift_record.specs.SearchLaws.{in_order_split}

-- An accepted run: there is room, it stands in order, and the list has its words and all others as they were.
pub record Accepted (w : List ℕ) (k start end thread : ℕ) (v : List ℕ) : Type 0 where
  pub room : k < runs w
  pub ends : start ≤ end
  pub since : end_before 0 w k ≤ start
  pub left : v ≡ take (3 * k) w ++ (start ∷ (end ∷ (thread ∷ []))) ++ drop (3 * suc k) w

abbrev numbered : Appended → ℕ
numbered (appended n w) = n

abbrev words : Appended → List ℕ
words (appended n w) = w

pub accepted : (w : List ℕ) (k start end thread : ℕ) (v : List ℕ)
    → append_left w k start end thread ≡ appended 0 v → Accepted w k start end thread v
unfolding append_left if_less given choose with_run
accepted w k start end thread v h =
    go (ltb k (runs w)) refl (ltb end start) refl (ltb start (end_before 0 w k)) refl h
  where
    go : (x : Bool) → ltb k (runs w) ≡ x → (y : Bool) → ltb end start ≡ y
        → (z : Bool) → ltb start (end_before 0 w k) ≡ z
        → choose x (choose y (appended record_order w)
        (choose z (appended record_order w) (appended 0 (with_run w k start end thread)))) (appended bad_table w)
        ≡ appended 0 v
        → Accepted w k start end thread v
    go false e y f z g m = absurd (omega (arith, ap numbered m))
    go true e true f z g m = absurd (omega (arith, ap numbered m))
    go true e false f true g m = absurd (omega (arith, ap numbered m))
    go true e false f false g m = record {
      room = ltb-true k (runs w) e;
      ends = ltb-false end start f;
      since = ltb-false start (end_before 0 w k) g;
      left = sym (ap words m);
    }

module _ {w : List ℕ} {k start end thread : ℕ} {v : List ℕ} (A : Accepted w k start end thread v) where
  abbrev first : List ℕ
  first = take (3 * k) w

  abbrev run : List ℕ
  run = start ∷ (end ∷ (thread ∷ []))

  long : length first ≡ 3 * k
  long = length-take-le (3 * k) w (omega (arith, A.room))

  -- The runs up to the new one.
  pub with_run_lem : take (3 * suc k) v ≡ first ++ run
  with_run_lem =
      rw A.left
      (take_at (first ++ run) (drop (3 * suc k) w) (3 * suc k) (omega (arith, length-append first run, long)))

  same_end : (n : ℕ) → n ≤ k → end_before 0 (first ++ run) n ≡ end_before 0 w n
  unfolding end_before
  same_end zero l = refl
  same_end (suc n) l =
      get_or-append first run 0 (3 * n + 1) (omega (arith, long, l))
      ∙ get_or-take (3 * k) w (3 * n + 1) 0 (omega arith)

  -- A list whose first k runs are in order has k + 1 in order.
  pub append_in_order : in_order (take (3 * k) w) ≡ true → in_order (take (3 * suc k) v) ≡ true
  unfolding in_order_from if_less choose
  append_in_order o =
      rw with_run_lem
      (in_order_split 0 (first ++ run) k (omega (arith, length-append first run, long))
      ∙ rw (take_at first run (3 * k) long, drop_at first run (3 * k) long, same_end k (omega arith), o)
      (rw (le-ltb start (end_before 0 w k) A.since, le-ltb end start A.ends) refl))
