-- Order from a run on is that of the whole list, where the runs before are in order. That the search which judges it so
-- gives a search's answer is proofs/SearchLaws.antt.
use Prim.Native.Nat.{ℕ, zero, suc, ◌*◌, ◌≤◌, min}
use native.Mathlib.Omega.{arith}
use Rattle.std.specs.Prelude.{◌≡◌, Bool, List, [], ◌∷◌, drop, take, ltb}
use Rattle.std.proofs.Math.Path.{refl, sym}
use Rattle.std.proofs.Common.{◌∙◌}
use Rattle.std.proofs.Math.Bool.{true, false}
use Rattle.refusal.specs.Cases.{choose, given, if_less}
use Rattle.lift_record.specs.Record.{runs, in_order_from, in_order, end_before, place}
use Rattle.lift_record.specs.Halving.{in_order_since}
use Rattle.lift_record.specs.RunsLaws.{end_next}

pub same_place_lem : {f g c d : ℕ} → f ≡ g → c ≡ d → place f c ≡ place g d
same_place_lem e h = λ i. record { first = e i; count = h i }

module _ (last s e j : ℕ) (rest : List ℕ) where
  end_before_next : (k : ℕ) → end_before last (s ∷ (e ∷ (j ∷ rest))) (suc k) ≡ end_before e rest k
  unfolding end_before
  end_before_next zero = refl
  end_before_next (suc k) = end_next s e j rest k

  Split : ℕ → Type 0
  Split k =
      in_order_from last (s ∷ (e ∷ (j ∷ rest)))
      ≡ choose (in_order_from last (take (3 * suc k) (s ∷ (e ∷ (j ∷ rest)))))
      (in_order_from (end_before last (s ∷ (e ∷ (j ∷ rest))) (suc k)) (drop (3 * suc k) (s ∷ (e ∷ (j ∷ rest))))) false

  split_next : (k : ℕ)
      → in_order_from e rest
      ≡ choose (in_order_from e (take (3 * k) rest)) (in_order_from (end_before e rest k) (drop (3 * k) rest)) false
      → Split k
  unfolding Split in_order_from if_less choose
  split_next k h =
      let n : 3 * suc k ≡ suc (suc (suc (3 * k))) = omega arith in
      rw (n, end_before_next k) (go (ltb s last) (ltb e s))
    where
      go : (x y : Bool) → choose x false (choose y false (in_order_from e rest))
          ≡ choose (choose x false (choose y false (in_order_from e (take (3 * k) rest))))
          (in_order_from (end_before e rest k) (drop (3 * k) rest)) false
      go true y = refl
      go false true = refl
      go false false = h

-- Order is that of the first k runs, and of the rest behind them.
pub in_order_split : (last : ℕ) (w : List ℕ) (k : ℕ) → k ≤ runs w
    → in_order_from last w
    ≡ choose (in_order_from last (take (3 * k) w)) (in_order_from (end_before last w k) (drop (3 * k) w)) false
unfolding in_order_from end_before choose Split
in_order_split last w zero h = refl
in_order_split last [] (suc k) h = absurd (omega arith)
in_order_split last (s ∷ []) (suc k) h = absurd (omega arith)
in_order_split last (s ∷ (e ∷ [])) (suc k) h = absurd (omega arith)
in_order_split last (s ∷ (e ∷ (j ∷ rest))) (suc k) h =
    split_next last s e j rest k (in_order_split e rest k (omega arith))

both_hold : (x y : Bool) → choose x y false ≡ true → x ≡ true
unfolding choose
both_hold true y h = refl
both_hold false y h = h

-- A list in order has its first runs in order.
pub in_order_take : (w : List ℕ) (k : ℕ) → k ≤ runs w → in_order w ≡ true → in_order (take (3 * k) w) ≡ true
in_order_take w k h o = both_hold _ _ (sym (in_order_split 0 w k h) ∙ o)

module _ (w : List ℕ) (ordered now width : ℕ) where
  -- Where the first `ordered` runs are in order, the rest decides.
  pub in_order_since_lem : in_order (take (3 * min ordered (runs w)) w) ≡ true → in_order_since w ordered ≡ in_order w
  unfolding in_order_since given choose
  in_order_since_lem h = sym (rw h at (in_order_split 0 w (min ordered (runs w)) (omega arith)))

-- With no run known to be in order it judges the whole list.
module _ (w : List ℕ) where
  pub none_known : in_order (take (3 * min 0 (runs w)) w) ≡ true
  unfolding in_order_from
  none_known = let e : min 0 (runs w) ≡ 0 = omega arith in rw e refl

  pub in_order_since_none : in_order_since w 0 ≡ in_order w
  in_order_since_none = in_order_since_lem w 0 0 0 none_known
