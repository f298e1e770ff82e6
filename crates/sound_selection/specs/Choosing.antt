-- The least key among the heads: the last pass names one of them, or none where none has a key, and the window is
-- refreshed where there is a head.
use Rattle.std.specs.Prelude.{ℕ, zero, suc, ◌+◌, ◌-◌, ◌≤◌, ◌<◌, ◌≡◌, refl, List, length, get_or, Option, Some, None}
use Rattle.std.specs.Prelude.{Result}
use Rattle.std.proofs.Common.{sym, ap, ◌∙◌, subst, arith}
use Rattle.refusal.specs.Cases.{never, given}
use Rattle.arbitration.specs.declared.CpuWindow.{CpuWindow}
use Rattle.arbitration.specs.declared.Demand.{Demand}
use Rattle.dispatch_keys.specs.declared.DispatchKey.{DispatchKey}
use Rattle.arbitration.specs.declared.DispatchMode.{DispatchMode}
use Rattle.arbitration.specs.Window.{refreshed}
use Rattle.arbitration.specs.Key.{key_of}
use Rattle.thread.specs.declared.ThreadRecord.{ThreadRecord}
use Rattle.thread.specs.Membership.{on_link}
use Rattle.rows.specs.Table.{record_of}
use Rattle.rows.specs.TableCases.{on_record}
use Rattle.rows.specs.TableLaws.{record_within}
use Rattle.selection.specs.declared.ReadyThread.{ReadyThread}
use Rattle.demands.specs.Demands.{candidate_of}
use Rattle.selection.specs.Heads.{on_key_option, lesser_ready, ready_with, Chosen, least_of}
use Rattle.selection.specs.LookLaws.{refreshed_again}
use Rattle.sound_queue.specs.PlaceLaws.{same_or_not}
use Rattle.sound_selection.specs.Within.{pair_parts, Under, Every}
use Rattle.sound_selection.specs.PairLaws.{lesser_old, lesser_new, lesser_every}
use Rattle.queue.specs.RunQueue.{tree_count, last_tree}

-- The thread of a number, as an answer with this key.
abbrev pub ready_thread : List ThreadRecord → ℕ → DispatchKey → ReadyThread
ready_thread t i k = record { id = record { 0 = i }; policy = (record_of t i).parameters.policy; key = k }

-- One head more.
module _ (t : List ThreadRecord) (i : ℕ) (w : CpuWindow) (now : ℕ) (d : Demand) (best : Option ReadyThread)
    (l : i < length t) where
  abbrev its_key : Option (DispatchKey × DispatchMode)
  its_key = key_of w now (candidate_of (record_of t i)) d

  without_key : its_key ≡ None → ready_with t i w now d best ≡ best
  unfolding ready_with on_record given on_key_option
  without_key e = rw (record_within t i l, e)

  with_key : (k : DispatchKey) (m : DispatchMode) → its_key ≡ Some (k, m)
      → ready_with t i w now d best ≡ lesser_ready best (ready_thread t i k)
  unfolding ready_with on_record given on_key_option
  with_key k m e = rw (record_within t i l, e)

  with_old : (n : List ℕ) → Under best n → Under (ready_with t i w now d best) n
  with_old n u = go its_key refl
    where
      go : (x : Option (DispatchKey × DispatchMode)) → its_key ≡ x → Under (ready_with t i w now d best) n
      go None e = rw (without_key e) u
      go (Some (k, m)) e = rw (with_key k m e) (lesser_old best (ready_thread t i k) n u)

  with_new : (k : DispatchKey) (m : DispatchMode) → its_key ≡ Some (k, m)
      → Under (ready_with t i w now d best) (pair_parts k i)
  with_new k m e = rw (with_key k m e) (lesser_new best (ready_thread t i k))

  with_every : (P : ReadyThread → Type 0) → Every P best
      → ((k : DispatchKey) (m : DispatchMode) → its_key ≡ Some (k, m) → P (ready_thread t i k))
      → Every P (ready_with t i w now d best)
  with_every P h f = go its_key refl
    where
      go : (x : Option (DispatchKey × DispatchMode)) → its_key ≡ x → Every P (ready_with t i w now d best)
      go None e = rw (without_key e) h
      go (Some (k, m)) e = rw (with_key k m e) (lesser_every P best (ready_thread t i k) h (f k m e))

-- All heads of the last so many trees, under the window W that w is refreshed to.
module _ (t : List ThreadRecord) (heads : List (Option ℕ)) (now : ℕ) (d : Demand) (W : CpuWindow) where
  -- A head of those trees, in the table, with this key.
  pub record HeadKey (left i : ℕ) (k : DispatchKey) : Type 0 where
    pub tree : ℕ
    pub low : tree < tree_count
    pub late : tree_count ≤ tree + left
    pub is : get_or heads tree None ≡ Some i
    pub inside : i < length t
    pub mode : DispatchMode
    pub has_key : key_of W now (candidate_of (record_of t i)) d ≡ Some (k, mode)

  abbrev pub Inside : ℕ → Type 0
  Inside left = (k i : ℕ) → k < tree_count → tree_count ≤ k + left → get_or heads k None ≡ Some i
      → i < length t

  later_trees : (left i : ℕ) (k : DispatchKey) → HeadKey left i k → HeadKey (suc left) i k
  later_trees left i k h =
      record {
        tree = h.tree;
        low = h.low;
        late = omega (arith, h.late);
        is = h.is;
        inside = h.inside;
        mode = h.mode;
        has_key = h.has_key;
      }

  -- It is the head of tree 11 - left, or of a later one.
  earlier_trees : {A : Type 0} (left i : ℕ) (k : DispatchKey) → left < tree_count → HeadKey (suc left) i k
      → (get_or heads (last_tree - left) None ≡ Some i → A) → (HeadKey left i k → A) → A
  earlier_trees left i k low h f g = same_or_not h.tree (last_tree - left)
      (λ z. f (subst (λ n. get_or heads n None ≡ Some i) z h.is))
      (λ z. g (record {
        tree = h.tree;
        low = h.low;
        late = omega (arith, h.late, h.low);
        is = h.is;
        inside = h.inside;
        mode = h.mode;
        has_key = h.has_key;
      }))

  -- P is what is known of the one that is named.
  module _ (P : ReadyThread → Type 0) where
    pub record Least (left : ℕ) (w : CpuWindow) (best : Option ReadyThread) (c : Chosen) : Type 0 where
      pub old : (n : List ℕ) → Under best n → Under c.ready n
      pub all : (i : ℕ) (k : DispatchKey) → HeadKey left i k → Under c.ready (pair_parts k i)
      pub every : Every P best → ((i : ℕ) (k : DispatchKey) → HeadKey left i k → P (ready_thread t i k))
          → Every P c.ready
      pub fresh : (k i : ℕ) → k < tree_count → tree_count ≤ k + left → get_or heads k None ≡ Some i
          → c.window ≡ W
      pub stale : ((k : ℕ) → k < tree_count → tree_count ≤ k + left → get_or heads k None ≡ None)
          → c.window ≡ w
      pub kept : w ≡ W → c.window ≡ W

    abbrev pub LeastAll : ℕ → Type 0
    LeastAll left =
        (w : CpuWindow) (best : Option ReadyThread) → refreshed w now ≡ W → Inside left
        → Least left w best (least_of left t heads now d w best)

    least_zero : LeastAll zero
    unfolding least_of
    least_zero w best e f = record {
      old = λ n u. u;
      all = λ i k h. absurd (omega (arith, h.low, h.late));
      every = λ h g. h;
      fresh = λ k i l m g. absurd (omega arith);
      stale = λ g. refl;
      kept = λ g. g;
    }

    module _ (left : ℕ) (low : left < tree_count) (ih : LeastAll left) (w : CpuWindow) (best : Option ReadyThread)
        (e : refreshed w now ≡ W) (f : Inside (suc left)) where
      inside_later : Inside left
      inside_later k i l m g = f k i l (omega arith) g

      clash : {A : Type 0} {i : ℕ} → None ≡ Some i → A
      clash z = never cc

      not_here : get_or heads (last_tree - left) None ≡ None → (c : Chosen) → Least left w best c
          → Least (suc left) w best c
      not_here z c L = record {
        old = L.old;
        all = λ i k h. earlier_trees left i k low h (λ y. clash (sym z ∙ y)) (L.all i k);
        every = λ h g. L.every h (λ i k x. g i k (later_trees left i k x));
        fresh =
            λ k i l m g. same_or_not k (last_tree - left)
            (λ y. clash (sym z ∙ ap (λ n. get_or heads n None) (sym y) ∙ g))
            (λ y. L.fresh k i l (omega arith) g);
        stale = λ g. L.stale (λ k l m. g k l (omega arith));
        kept = L.kept;
      }

      skips : get_or heads (last_tree - left) None ≡ None
          → least_of (suc left) t heads now d w best ≡ least_of left t heads now d w best
      unfolding least_of given on_link
      skips z = rw z

      module _ (i : ℕ) (z : get_or heads (last_tree - left) None ≡ Some i) where
        inside : i < length t
        inside = f (last_tree - left) i (omega arith) (omega arith) z

        takes : least_of (suc left) t heads now d w best ≡ least_of left t heads now d W (ready_with t i W now d best)
        unfolding least_of given on_link
        takes = rw (z, e)

        still_fresh : refreshed W now ≡ W
        still_fresh = ap (λ (x : CpuWindow). refreshed x now) (sym e) ∙ refreshed_again w now ∙ e

        key_of_head : (j : ℕ) (k : DispatchKey) → HeadKey (suc left) j k
            → get_or heads (last_tree - left) None ≡ Some j
            → Under (ready_with t i W now d best) (pair_parts k j)
        key_of_head j k h y =
            let q : i ≡ j = cc in
            subst (λ n. Under (ready_with t i W now d best) (pair_parts k n)) q
            (with_new t i W now d best inside k h.mode
            (subst (λ n. key_of W now (candidate_of (record_of t n)) d ≡ Some (k, h.mode)) (sym q) h.has_key))

        one_here : (c : Chosen) → Least left W (ready_with t i W now d best) c → Least (suc left) w best c
        one_here c L = record {
          old = λ n u. L.old n (with_old t i W now d best inside n u);
          all = λ j k h. earlier_trees left j k low h (λ y. L.old (pair_parts k j) (key_of_head j k h y)) (L.all j k);
          every = λ h g. L.every
              (with_every t i W now d best inside P h
              (λ k m y. g i k (record {
                tree = last_tree - left;
                low = omega arith;
                late = omega arith;
                is = z;
                inside = inside;
                mode = m;
                has_key = y;
              })))
              (λ j k x. g j k (later_trees left j k x));
          fresh = λ k j l m g. L.kept refl;
          stale = λ g. clash (sym (g (last_tree - left) (omega arith) (omega arith)) ∙ z);
          kept = λ g. L.kept refl;
        }

      least_by : (x : Option ℕ) → get_or heads (last_tree - left) None ≡ x
          → Least (suc left) w best (least_of (suc left) t heads now d w best)
      least_by None z =
          subst (Least (suc left) w best) (sym (skips z))
          (not_here z (least_of left t heads now d w best) (ih w best e inside_later))
      least_by (Some i) z =
          let next = ready_with t i W now d best in
          subst (Least (suc left) w best) (sym (takes i z))
          (one_here i z (least_of left t heads now d W next) (ih W next (still_fresh i z) inside_later))

    -- Of all heads, and of any number of the last ones.
    pub least : (left : ℕ) → left ≤ tree_count → LeastAll left
    least zero l = least_zero
    least (suc left) l =
        λ w best e f. least_by left (omega arith) (least left (omega arith)) w best e f
        (get_or heads (last_tree - left) None) refl
