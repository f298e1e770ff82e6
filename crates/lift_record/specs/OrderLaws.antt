-- Laws by which the pass over the runs goes on, and by which a run more keeps the order.
use Prim.Native.Nat.{ℕ, zero, suc, ◌+◌, ◌-◌, ◌*◌, ◌<◌, ◌≤◌, min}
use native.Mathlib.Omega.{arith}
use Rattle.std.specs.Prelude.{◌≡◌, Bool, get_or, drop, leb, ◌/◌, ◌%◌, take, not}
use Rattle.std.proofs.Math.Path.{refl, sym}
use Rattle.std.proofs.Common.{ap, ◌∙◌, length-drop}
use Rattle.std.proofs.lemmas.List.{at_drop_more, at_drop_all, drop-drop, take_rest}
use Rattle.std.proofs.Math.Bool.{true, false}
use mathlib.Core.List.{List, [], ◌∷◌}
use Rattle.std.proofs.Math.ListN.{length}
use Rattle.std.proofs.Math.Dec.{ltb, eqb}
use borrow.Author.Tests.{ltb-true, ltb-false, lt-leb, le-leb, not-true, not-false}
use Rattle.refusal.specs.Cases.{choose, given, if_less}
use Rattle.lift_record.specs.Record.{runs, start_of, end_of, in_order_from, end_before}
use Rattle.lift_record.specs.Halving.{in_order_since}
use Rattle.lift_record.specs.ChunkLaws.{runs_of, chunk_at, word_at}
use Rattle.std.specs.Simd.{first_chunks}

-- The end of the run before, by its word.
module _ (w : List ℕ) (k : ℕ) where
  pub end_before_first : k ≡ 0 → 0 ≡ end_before 0 w k
  unfolding end_before
  end_before_first e = rw e refl

  pub end_before_lem : {rs : List (List ℕ)} → rs ≡ runs_of w → k ≤ runs w → (k ≡ 0 → ⊥)
      → get_or (get_or rs (k - 1) []) 1 0 ≡ end_before 0 w k
  unfolding end_before
  end_before_lem f l n =
      let e : k ≡ suc (k - 1) = omega arith in
      word_at w (k - 1) 1 f (omega arith) (omega arith) ∙ sym (ap (end_before 0 w) e)

pub ruleset ordering = (end_before_first, end_before_lem)

-- A run that starts at a time or later and ends at its start or later.
unfoldable pub follows : List ℕ → ℕ → ℕ → Bool
follows w i last = if_less (start_of w i) last false (leb (start_of w i) (end_of w i))

-- Runs, each by its words: what is behind the first stands behind its end.
unfoldable pub runs_in_order : ℕ → List (List ℕ) → Bool
runs_in_order last [] = true
runs_in_order last (run ∷ rest) = choose (follows run 0 last) (runs_in_order (end_of run 0) rest) false

-- A run by itself has the words that it has in the list.
in_order_by_runs : (last : ℕ) (w : List ℕ)
    → in_order_from last w ≡ choose (eqb (length w % 3) 0) (runs_in_order last (runs_of w)) false
unfolding in_order_from runs_in_order follows if_less choose
in_order_by_runs last [] = refl
in_order_by_runs last (s ∷ []) = refl
in_order_by_runs last (s ∷ (e ∷ [])) = refl
in_order_by_runs last (s ∷ (e ∷ (j ∷ rest))) =
    let n : suc (suc (suc (length rest))) / 3 ≡ suc (length rest / 3) = omega arith in
    let m : suc (suc (suc (length rest))) % 3 ≡ length rest % 3 = omega arith in
    rw (n, m) (go (ltb s last) (ltb e s) refl _ _ _ (in_order_by_runs e rest))
  where
    go : (x y : Bool) → ltb e s ≡ y → (z whole its : Bool) → its ≡ choose z whole false
        → choose x false (choose y false its) ≡ choose z (choose (choose x false (leb s e)) whole false) false
    go true y h true whole its i = refl
    go true y h false whole its i = refl
    go false true h true whole its i = rw (lt-leb s e (ltb-true e s h)) refl
    go false true h false whole its i = refl
    go false false h true whole its i = rw (le-leb s e (ltb-false e s h)) i
    go false false h false whole its i = i

-- What is judged of the next runs, b, decides: where they are out of order it is all, else the rest is left.
module _ {before b x judged : Bool} (rest : Bool) (so_far : before ≡ x) (step : before ≡ choose judged rest false)
    (e : b ≡ judged) where
  out_of_order : not b ≡ true → false ≡ x
  unfolding choose
  out_of_order n = sym (rw (sym e ∙ not-true b n) at step) ∙ so_far

  still_in_order : not b ≡ false → rest ≡ x
  unfolding choose
  still_in_order n = sym (rw (sym e ∙ not-false b n) at step) ∙ so_far

-- The runs before the last of four, and those behind them.
four_first : (last : ℕ) (rs : List (List ℕ)) → 4 ≤ length rs
    → runs_in_order last rs
    ≡ choose (runs_in_order last (take 4 rs)) (runs_in_order (end_of (get_or (take 4 rs) 3 []) 0) (drop 4 rs)) false
unfolding runs_in_order choose
four_first last [] l = absurd (omega arith)
four_first last (a ∷ []) l = absurd (omega arith)
four_first last (a ∷ (b ∷ [])) l = absurd (omega arith)
four_first last (a ∷ (b ∷ (c ∷ []))) l = absurd (omega arith)
four_first last (a ∷ (b ∷ (c ∷ (d ∷ rest)))) l =
    go (follows a 0 last) (follows b 0 (end_of a 0)) (follows c 0 (end_of b 0)) (follows d 0 (end_of c 0))
    (runs_in_order (end_of d 0) rest)
  where
    go : (x y z u whole : Bool)
        → choose x (choose y (choose z (choose u whole false) false) false) false
        ≡ choose (choose x (choose y (choose z (choose u true false) false) false) false) whole false
    go true true true true whole = refl
    go true true true false whole = refl
    go true true false u whole = refl
    go true false z u whole = refl
    go false y z u whole = refl

-- The rest of the pass gives what the whole gives.
module _ (rs : List (List ℕ)) (i last : ℕ) {x : Bool} where
  module _ (so_far : runs_in_order last (drop i rs) ≡ x) where
    module _ {b : Bool} (l : i < length rs) (e : b ≡ follows (get_or rs i []) 0 last) where
      step : runs_in_order last (drop i rs)
          ≡ choose (follows (get_or rs i []) 0 last) (runs_in_order (end_of (get_or rs i []) 0) (drop (i + 1) rs)) false
      unfolding runs_in_order
      step = at_drop_more (runs_in_order last) rs i [] l

      pub one_out : not b ≡ true → false ≡ x
      one_out n = out_of_order _ so_far step e n

      pub one_on : not b ≡ false → runs_in_order (end_of (get_or rs i []) 0) (drop (i + 1) rs) ≡ x
      one_on n = still_in_order _ so_far step e n

    pub none_left : length rs ≤ i → true ≡ x
    unfolding runs_in_order
    none_left l = sym (at_drop_all (runs_in_order last) rs i l) ∙ so_far

  module _ (fs : List (List (List ℕ))) (so_far : runs_in_order last (drop (4 * i) rs) ≡ x)
      (f : fs ≡ first_chunks 4 (length rs / 4) rs) where
    module _ {b : Bool} (l : i < length rs / 4) (e : b ≡ runs_in_order last (get_or fs i [])) where
      its : get_or fs i [] ≡ take 4 (drop (4 * i) rs)
      its = rw f (chunk_at 4 (λ k. omega arith) (length rs / 4) rs i l)

      four_step : runs_in_order last (drop (4 * i) rs)
          ≡ choose (runs_in_order last (get_or fs i []))
          (runs_in_order (end_of (get_or (get_or fs i []) 3 []) 0) (drop (4 * (i + 1)) rs)) false
      four_step =
          let n : 4 * (i + 1) ≡ 4 * i + 4 = omega arith in
          let k : 4 ≤ length (drop (4 * i) rs) = omega (arith, length-drop (4 * i) rs, l) in
          rw (its, n, sym (drop-drop 4 (4 * i) rs)) (four_first last (drop (4 * i) rs) k)

      pub four_out : not b ≡ true → false ≡ x
      four_out n = out_of_order _ so_far four_step e n

      pub four_on : not b ≡ false
          → runs_in_order (end_of (get_or (get_or fs i []) 3 []) 0) (drop (4 * (i + 1)) rs) ≡ x
      four_on n = still_in_order _ so_far four_step e n

    -- Fewer than four are left.
    pub rest_judged : {b : Bool} (r : List (List ℕ)) → length rs / 4 ≤ i → i ≤ length rs / 4
        → r ≡ drop (length rs / 4 * 4) rs → b ≡ runs_in_order last r → b ≡ x
    rest_judged r l m e h =
        let n : length rs / 4 * 4 ≡ 4 * i = omega arith in h ∙ ap (runs_in_order last) (rw n at e) ∙ so_far

pub ruleset passing = (one_out, one_on, none_left, four_out, four_on, rest_judged)

-- From a run on the runs are those of the words from there on.
runs_behind : (k n : ℕ) (w : List ℕ) → k ≤ n → drop k (first_chunks 3 n w) ≡ first_chunks 3 (n - k) (drop (3 * k) w)
runs_behind zero n w l = let e : n - 0 ≡ n = omega arith in rw e refl
runs_behind (suc k) zero w l = absurd (omega arith)
runs_behind (suc k) (suc n) w l =
    let e : 3 * suc k ≡ 3 + 3 * k = omega arith in
    let f : suc n - suc k ≡ n - k = omega arith in
    rw f
    (runs_behind k n (drop 3 w) (omega arith)
    ∙ ap (first_chunks 3 (n - k)) (drop-drop (3 * k) 3 w ∙ ap (λ (j : ℕ). drop j w) (sym e)))

module _ (w : List ℕ) (ordered k last : ℕ) {rs : List (List ℕ)} (left : List ℕ) (f : rs ≡ runs_of w)
    (q : length rs ≡ runs w) (n : k ≡ min ordered (length rs)) (h : last ≡ end_before 0 w k)
    (m : length left ≡ length w % 3) where
  since : in_order_since w ordered ≡ choose (eqb (length left) 0) (runs_in_order last (drop k rs)) false
  unfolding in_order_since given
  since =
      let g : length (drop (3 * k) w) % 3 ≡ length left = omega (arith, length-drop (3 * k) w, m, q, n) in
      let d : length (drop (3 * k) w) / 3 ≡ runs w - k = omega (arith, length-drop (3 * k) w, q, n) in
      let r : drop k (runs_of w) ≡ first_chunks 3 (runs w - k) (drop (3 * k) w) =
      runs_behind k (runs w) w (omega (arith, q, n)) in
      let z : min ordered (runs w) ≡ k = omega (arith, q, n) in
      rw (z, sym h, f, r) (rw (g, d) at (in_order_by_runs last (drop (3 * k) w)))

  module _ {d : Bool} (j : d ≡ runs_in_order last (take (length rs - k) (drop k rs))) where
    judged : d ≡ runs_in_order last (drop k rs)
    judged = rw (take_rest rs k) at j

    pub out_of_order_since : d ≡ false → d ≡ in_order_since w ordered
    unfolding choose
    out_of_order_since z = z ∙ go (eqb (length left) 0) ∙ sym (rw (sym judged ∙ z) at since)
      where
        go : (x : Bool) → false ≡ choose x false false
        go true = refl
        go false = refl

    pub whole_since : {b : Bool} → b ≡ eqb (length left) 0 → d ≡ true → b ≡ in_order_since w ordered
    unfolding choose
    whole_since e z = e ∙ go (eqb (length left) 0) ∙ sym (rw (sym judged ∙ z) at since)
      where
        go : (x : Bool) → x ≡ choose x true false
        go true = refl
        go false = refl
