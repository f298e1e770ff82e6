-- The exhausted tree of one role emptied, on a sound queue: as many moves as there are records are enough, and the
-- queue is sound after them.
use Prim.Native.Nat.{ℕ, zero, suc, ◌+◌, ◌≤◌, ◌<◌}
use Rattle.std.specs.Prelude.{◌≡◌, refl, Bool, true, false, ◌≢◌, length, get_or, ltb, Option, Some, None}
use Rattle.std.proofs.Math.Path.{sym, ap}
use Rattle.std.proofs.Common.{◌∙◌, arith, get_or-set_other, lt-ltb, le-ltb}
use mathlib.Core.List.{List}
use Rattle.std.proofs.Math.ListN.{set, length-set}
use Rattle.std.proofs.Math.Seq.{get_or-set_same, set-get_or, set-set}
use Rattle.std.proofs.lemmas.List.{set_comm}
use Rattle.refusal.specs.Answer.{value, refused, damaged}
use Rattle.refusal.specs.Cases.{choose}
use Rattle.thread.specs.declared.ThreadRecord.{ThreadRecord}
use Rattle.thread.specs.Membership.{on_link}
use Rattle.rows.specs.Table.{Out, out}
use Rattle.lists.specs.Lists.{on_answer, on_out}
use Rattle.queue.specs.declared.Root.{Root}
use Rattle.queue.specs.RunQueue.{CpuRunQueue, tree_count}
use Rattle.queue.specs.Queue.{empty_root, root_of}
use Rattle.renewal.specs.declared.BudgetTrees.{BudgetTrees}
use Rattle.renewal.specs.Leaves.{Leaves, leaves, on_leaves}
use Rattle.renewal.specs.Renewal.{budget_trees, move_one, move_all, with_trees}
use Rattle.sound_queue.specs.Count.{count}
use Rattle.sound_queue.specs.CountLaws.{count_one}
use Rattle.sound_queue.specs.Forest.{placed}
use Rattle.sound_queue.specs.ForestLaws.{placed_inside}
use Rattle.sound_queue.specs.PlaceLaws.{placed_same, placed_other}
use Rattle.sound_queue.specs.Sound.{Sound}
use Rattle.sound_selection.specs.Changes.{Renewed, Head, nobody_there, first_of_list, stays}
use Rattle.sound_selection.specs.ChangeLaws.{shift_trans, head_is}
use Rattle.sound_selection.specs.OneMove.{OneMoved, one_moved}
use Rattle.thread.specs.Filing.{budget_exhausted, budget_ready}

-- Nothing done, and one after the other.
unfoldable pub nothing_renewed : {queued : ℕ → Bool} {q : CpuRunQueue} {t : List ThreadRecord}
    (S : Sound queued q t) (now : ℕ) → Renewed S now q t
nothing_renewed S now = record {
  sound = S;
  beside = record { realtime = refl; total = refl; fair = refl; epoch = refl; budgets = refl; halted = refl };
  len = refl;
  shift = λ j. stays refl refl;
  others = λ j e. refl;
}

unfoldable pub both_renewed : {queued : ℕ → Bool} {q r u : CpuRunQueue} {t s v : List ThreadRecord}
    {now : ℕ} (S : Sound queued q t)
    (A : Renewed S now r s) → Renewed A.sound now u v → Renewed S now u v
both_renewed S A B = record {
  sound = B.sound;
  beside = record {
    realtime = B.beside.realtime ∙ A.beside.realtime;
    total = B.beside.total ∙ A.beside.total;
    fair = B.beside.fair ∙ A.beside.fair;
    epoch = B.beside.epoch ∙ A.beside.epoch;
    budgets = B.beside.budgets ∙ A.beside.budgets;
    halted = B.beside.halted ∙ A.beside.halted;
  };
  len = B.len ∙ A.len;
  shift = λ j. shift_trans (A.shift j) (B.shift j);
  others = λ j e. B.others j e ∙ A.others j e;
}

-- The roots of a role's trees, stored back.
module _ (l : List Root) (role : ℕ) (twelve : length l ≡ tree_count) (b : role < 3) where
  pub stored_exhausted : (x : BudgetTrees) → (get_or (with_trees l role x) (budget_exhausted + role) empty_root).root
      ≡ x.exhausted
  unfolding with_trees
  stored_exhausted x =
      ap (λ (r : Root). r.root)
      (get_or-set_other (set l (budget_exhausted + role) (record { root = x.exhausted })) (budget_ready + role)
      (budget_exhausted + role) (record { root = x.ready }) empty_root (λ z. omega arith)
      ∙ get_or-set_same l (budget_exhausted + role) (record { root = x.exhausted }) empty_root (omega arith))

  pub stored_ready : (x : BudgetTrees) → (get_or (with_trees l role x) (budget_ready + role) empty_root).root ≡ x.ready
  unfolding with_trees
  stored_ready x =
      ap (λ (r : Root). r.root)
      (get_or-set_same (set l (budget_exhausted + role) (record { root = x.exhausted })) (budget_ready + role)
      (record { root = x.ready }) empty_root
      (omega (arith, length-set l (budget_exhausted + role) (record { root = x.exhausted }))))

  -- As they were.
  pub stored_own : (moves : ℕ) → l
      ≡ with_trees l role
      (budget_trees (get_or l (budget_exhausted + role) empty_root).root
      (get_or l (budget_ready + role) empty_root).root moves)
  unfolding with_trees
  stored_own moves =
      sym (ap (λ (m : List Root). set m (budget_ready + role) (get_or l (budget_ready + role) empty_root))
      (set-get_or l (budget_exhausted + role) empty_root)
      ∙ set-get_or l (budget_ready + role) empty_root)

  -- Twice.
  pub stored_twice : (x y : BudgetTrees) → with_trees (with_trees l role x) role y ≡ with_trees l role y
  unfolding with_trees
  stored_twice x y =
      ap (λ (m : List Root). set m (budget_ready + role) (record { root = y.ready }))
      (set_comm (set l (budget_exhausted + role) (record { root = x.exhausted })) (budget_ready + role)
      (budget_exhausted + role) (record { root = x.ready })
      (record { root = y.exhausted }) (λ z. omega arith)
      ∙ ap (λ (m : List Root). set m (budget_ready + role) (record { root = x.ready }))
      (set-set l (budget_exhausted + role) (record { root = x.exhausted }) (record { root = y.exhausted })))
      ∙ set-set (set l (budget_exhausted + role) (record { root = y.exhausted })) (budget_ready + role)
      (record { root = x.ready })
      (record { root = y.ready })

-- Whether a thread stands in an exhausted tree.
unfoldable pub spent : (ℕ → ℕ) → ℕ → Bool
spent place j = choose (ltb (place j) budget_exhausted) false (ltb (place j) tree_count)

spent_yes : (place : ℕ → ℕ) (j : ℕ) → budget_exhausted ≤ place j → place j < tree_count → spent place j ≡ true
unfolding spent choose
spent_yes place j a b = rw (le-ltb (place j) budget_exhausted a) (lt-ltb (place j) tree_count b)

spent_no : (place : ℕ → ℕ) (j : ℕ) → place j < budget_exhausted → spent place j ≡ false
unfolding spent choose
spent_no place j a = rw (lt-ltb (place j) budget_exhausted a)

spent_by : (f g : ℕ → ℕ) (j : ℕ) → g j ≡ f j → spent g j ≡ spent f j
unfolding spent
spent_by f g j e = rw e

-- One that moves out is one less.
pub count_moved : (n i k : ℕ) (before after : ℕ → ℕ) → i < n → budget_exhausted ≤ before i → before i < tree_count
    → k < budget_exhausted
    → ((j : ℕ) → after j ≡ placed i k before j)
    → count n (spent before) ≡ suc (count n (spent after))
unfolding choose
count_moved n i k before after l a b c h =
    count_one n i (spent after) (spent before) l
    (λ j d. spent_by after before j (sym (h j ∙ placed_other i k before j d)))
    (spent_no after i (omega (arith, h i, placed_same i k before)))
    ∙ rw (spent_yes before i a b)

-- The exhausted tree of a role is empty; what emptying it leaves.
pub record Drained {queued : ℕ → Bool} {q : CpuRunQueue} {t : List ThreadRecord}
    (S : Sound queued q t) (now role : ℕ) (o : Out (Leaves (Unit {0}) BudgetTrees)) : Type 0 where
  pub trees : BudgetTrees
  pub queue : CpuRunQueue
  pub table : List ThreadRecord
  pub is : o ≡ out (leaves (value tt) trees) table
  pub indices : queue.indices ≡ with_trees q.indices role trees
  pub renewed : Renewed S now queue table
  pub enough : count (length table) (spent renewed.sound.place) ≤ trees.moves
  pub none_left : (j : ℕ) → renewed.sound.place j ≢ budget_exhausted + role

module _ (queued : ℕ → Bool) (now role : ℕ) (b : role < 3) where
  abbrev pub Drains : ℕ → Type 0
  Drains moves =
      (q : CpuRunQueue) (t : List ThreadRecord) (S : Sound queued q t) → count (length t) (spent S.place) ≤ moves
      → Drained S now role (move_all moves t (root_of q (budget_exhausted + role))
      (root_of q (budget_ready + role)) now)

  module _ (q : CpuRunQueue) (t : List ThreadRecord) (S : Sound queued q t) where
    abbrev own : ℕ → BudgetTrees
    own moves = budget_trees (root_of q (budget_exhausted + role)) (root_of q (budget_ready + role)) moves

    drained_now : (moves : ℕ) → count (length t) (spent S.place) ≤ moves →
        ((j : ℕ) → S.place j ≢ budget_exhausted + role)
        → Drained S now role (out (leaves (value tt) (own moves)) t)
    unfolding nothing_renewed
    drained_now moves c n = record {
      trees = own moves;
      queue = q;
      table = t;
      is = refl;
      indices = stored_own q.indices role S.forest.twelve b moves;
      renewed = nothing_renewed S now;
      enough = c;
      none_left = n;
    }

    inside : (i : ℕ) → S.place i ≡ budget_exhausted + role → i < length t
    inside i e = placed_inside S.forest i (omega arith)

    -- A move, and then the rest.
    module _ (n i : ℕ) (M : OneMoved S now role i n) (e : S.place i ≡ budget_exhausted + role)
        (c : count (length t) (spent S.place) ≤ suc n) where
      fewer : count (length M.table) (spent M.renewed.sound.place) ≤ n
      fewer =
          let w = count_moved (length t) i (budget_ready + role) S.place M.renewed.sound.place (inside i e)
          (omega arith)
          (omega arith) (omega arith) M.places in
          rw M.renewed.len (omega arith)

      module _ (D : Drained M.renewed.sound now role
          (move_all n M.table (root_of M.queue (budget_exhausted + role))
          (root_of M.queue (budget_ready + role)) now)) where
        exhausted_root : root_of M.queue (budget_exhausted + role) ≡ M.trees.exhausted
        exhausted_root = rw M.indices (stored_exhausted q.indices role S.forest.twelve b M.trees)

        ready_root : root_of M.queue (budget_ready + role) ≡ M.trees.ready
        ready_root = rw M.indices (stored_ready q.indices role S.forest.twelve b M.trees)

        goes_on_lem : move_all n M.table M.trees.exhausted M.trees.ready now
            ≡ out (leaves (value tt) D.trees) D.table
        goes_on_lem =
            ap (λ (x : Option ℕ). move_all n M.table x M.trees.ready now) (sym exhausted_root)
            ∙ ap (λ (x : Option ℕ). move_all n M.table (root_of M.queue (budget_exhausted + role)) x now)
            (sym ready_root) ∙ D.is

        drained_then : Drained S now role (on_out (move_one t (own n) i now)
            (λ s t₁. on_leaves s (λ k x. out (leaves (refused k) x) t₁)
            (λ u x. move_all n t₁ x.exhausted x.ready now)))
        unfolding on_out on_leaves both_renewed
        drained_then = record {
          trees = D.trees;
          queue = D.queue;
          table = D.table;
          is = rw M.is goes_on_lem;
          indices = D.indices ∙ ap (λ (l : List Root). with_trees l role D.trees) M.indices
              ∙ stored_twice q.indices role S.forest.twelve b M.trees D.trees;
          renewed = both_renewed S M.renewed D.renewed;
          enough = D.enough;
          none_left = D.none_left;
        }

    by_head : (moves : ℕ) (rest : ℕ → Out (Leaves (Unit {0}) BudgetTrees)) → count (length t) (spent S.place) ≤ moves
        → ((i : ℕ) → S.place i ≡ budget_exhausted + role → Drained S now role (rest i)) → (x : Option ℕ) → Head t
        S.place (budget_exhausted + role) x
        → Drained S now role (on_link x (out (leaves (value tt) (own moves)) t) rest)
    unfolding on_link
    by_head moves rest c f None (nobody_there n) = drained_now moves c n
    by_head moves rest c f (Some i) (first_of_list j e h) = f j e

    -- No moves are left only where no thread is.
    none_spent : count (length t) (spent S.place) ≤ 0 → (i : ℕ) → S.place i ≡ budget_exhausted + role → ⊥
    none_spent c i e =
        let w = count_moved (length t) i 0 S.place (placed i 0 S.place) (inside i e) (omega arith) (omega arith)
        (omega arith) (λ j. refl) in
        omega arith

  drains_zero : Drains zero
  unfolding move_all on_answer
  drains_zero q t S c =
      let h = head_is S.forest (budget_exhausted + role) (omega arith) in
      rw h.1 (by_head q t S zero (λ id. out (leaves (refused damaged) (own q t S 0)) t) c
      (λ i e. absurd (none_spent q t S c i e)) h.0 h.2)

  drains_suc : (n : ℕ) → Drains n → Drains (suc n)
  unfolding move_all on_answer
  drains_suc n ih q t S c =
      let h = head_is S.forest (budget_exhausted + role) (omega arith) in
      rw h.1 (by_head q t S (suc n) _ c
      (λ i e. let M = one_moved S now role i n b e in
      drained_then q t S n i M e c (ih M.queue M.table M.renewed.sound (fewer q t S n i M e c))) h.0
      h.2)

  -- In as many moves as there are threads in exhausted trees, and more.
  pub drains : (moves : ℕ) → Drains moves
  drains zero = drains_zero
  drains (suc n) = drains_suc n (drains n)
