-- A new queue, and changes to records that are not queued.
use Rattle.std.specs.Prelude.{◌≡◌, Bool, ◌&&◌, List, [], ℕ, zero, suc, ◌≤◌, ◌<◌, Ok}
use Rattle.std.proofs.Math.Path.{refl}
use Rattle.std.proofs.Common.{sym, ap, ◌∙◌, subst, arith, lt-ltb, ne_eqb}
use Rattle.std.proofs.Math.Bool.{true, false}
use Rattle.std.proofs.Math.ListN.{length}
use Rattle.std.proofs.lemmas.List.{length-replicate, get_or-replicate}
use Rattle.refusal.specs.Cases.{never, choose}
use Rattle.policy.specs.declared.SchedulingPolicy.{SchedulingPolicy}
use Rattle.thread.specs.declared.ThreadRecord.{ThreadRecord}
use Rattle.thread.specs.Membership.{empty_queue}
use Rattle.rows.specs.Table.{record_of, record_at, queue_links_at, max_records}
use Rattle.rows.specs.TableLaws.{record_within, record_got_within, queue_links_within}
use Rattle.avl.specs.Tree.{leaf, in_order}
use Rattle.sound_index.specs.TableLaws.{record_links, record_key}
use Rattle.sound_index.proofs.Soundness.{holds_empty}
use Rattle.sound_lists.specs.Frame.{empty_holds}
use Rattle.queue.specs.declared.Root.{Root}
use Rattle.queue.specs.RunQueue.{CpuRunQueue, tree_count}
use Rattle.queue.specs.Queue.{empty_root, new_queue, is_fifo, is_budget}
use Rattle.sound_queue.specs.ForestLaws.{forest_still, placed_inside}
use Rattle.sound_queue.specs.Count.{count}
use Rattle.sound_queue.specs.CountLaws.{count_same, count_bounds, count_none}
use Rattle.sound_queue.specs.Lists.{list_at, membership_at, list_for, row_of, list_count}
use Rattle.sound_queue.specs.ListsLaws.{lists_still, lists_same}
use Rattle.sound_queue.specs.Sound.{Queued, queued_of, Sound, nobody}
use Rattle.sound_queue.specs.SoundLaws.{row_not_queued, queued_inside, queued_if_listed}

new_list : (n : ℕ) → n < list_count → list_at new_queue n ≡ empty_queue
unfolding list_at
new_list zero b = refl
new_list (suc p) b = get_or-replicate 256 p empty_queue empty_queue (omega arith)

-- A new queue over any table of up to 4,096 records is sound, with nobody queued.
pub new_sound : (t : List ThreadRecord) → length t ≤ max_records → Sound nobody new_queue t
unfolding in_order queued_of
new_sound t n = record {
  cpus = λ m. record { 0 = 0 };
  place = λ j. tree_count;
  forest = record {
    trees = λ k. leaf;
    small = n;
    twelve = length-replicate tree_count empty_root;
    rooted = λ k b. ap (λ (r : Root). r.root) (get_or-replicate tree_count k empty_root empty_root b);
    holds = λ k b. holds_empty t;
    balanced = λ k b. tt;
    exact = λ j k b. sym (ne_eqb tree_count k (λ z. omega arith));
  };
  stands = λ j. refl;
  threads = λ j e. never cc;
  priorities = length-replicate 256 empty_queue;
  lists = record {
    members = λ m. [];
    holds = λ m b. rw (new_list m b) (empty_holds t (membership_at (record { 0 = 0 }) m));
    exact = λ j m b. sym (ne_eqb (row_of nobody t j) m (λ z. let a = row_not_queued nobody t j refl in omega arith));
  };
  total = sym (count_none (length t) (queued_of is_fifo nobody t) (λ j l. refl));
  budgets = sym (count_none (length t) (queued_of is_budget nobody t) (λ j l. refl));
  running = refl;
}

-- The records of the queued threads, where those threads' records are kept.
module _ (t s : List ThreadRecord) (j : ℕ) (b : j < length t) (e : record_at s j ≡ record_at t j) where
  kept_inside : j < length s
  kept_inside = record_got_within s j (e ∙ record_within t j b)

  kept_record : record_of s j ≡ record_of t j
  kept_record =
      let k : Ok (record_of s j) ≡ Ok (record_of t j) = sym (record_within s j kept_inside) ∙ e
      ∙ record_within t j b in cc

  kept_queue_links : queue_links_at s j ≡ queue_links_at t j
  kept_queue_links =
      queue_links_within s j kept_inside ∙ ap (λ (r : ThreadRecord). Ok r.queue_links) kept_record
      ∙ sym (queue_links_within t j b)

module _ {queued : ℕ → Bool} {q : CpuRunQueue} {t : List ThreadRecord} (S : Sound queued q t)
    (s : List ThreadRecord)
    (small : length s ≤ max_records) (h : (j : ℕ) → queued j ≡ true → record_at s j ≡ record_at t j) where
  pub same_record : (j : ℕ) → queued j ≡ true → record_of s j ≡ record_of t j
  same_record j e = kept_record t s j (queued_inside S j e) (h j e)

  row_kept : (j : ℕ) → row_of queued t j ≡ row_of queued s j
  unfolding row_of choose
  row_kept j = go (queued j) refl
    where
      go : (x : Bool) → queued j ≡ x
          → choose x (list_for (record_of t j).parameters.policy) list_count
          ≡ choose x (list_for (record_of s j).parameters.policy) list_count
      go true e = rw (same_record j e)
      go false e = refl

  of_kept : (p : SchedulingPolicy → Bool) (j : ℕ) → queued_of p queued t j ≡ queued_of p queued s j
  unfolding queued_of
  of_kept p j = go (queued j) refl
    where
      go : (x : Bool) → queued j ≡ x
          → x && p (record_of t j).parameters.policy ≡ x && p (record_of s j).parameters.policy
      go true e = rw (same_record j e)
      go false e = refl

  -- A queued thread is in both tables, so that a count of queued threads is the same in both.
  in_both : (p : SchedulingPolicy → Bool) (j : ℕ) → queued_of p queued s j ≡ true → (j < length t) × (j < length s)
  unfolding queued_of
  in_both p j = go (queued j) refl
    where
      go : (x : Bool) → queued j ≡ x → x && p (record_of s j).parameters.policy ≡ true
          → (j < length t) × (j < length s)
      go true e z = let b = queued_inside S j e in (b, kept_inside t s j b (h j e))
      go false e z = never cc

  counts_kept : (p : SchedulingPolicy → Bool)
      → count (length t) (queued_of p queued t) ≡ count (length s) (queued_of p queued s)
  counts_kept p =
      count_same (length t) (queued_of p queued s) (queued_of p queued t) (λ j m. of_kept p j)
      ∙ count_bounds (length t) (length s) (queued_of p queued s) (in_both p)

  queued_if_placed : (j : ℕ) → S.place j < tree_count → queued j ≡ true
  queued_if_placed j b = sym (S.stands j) ∙ lt-ltb (S.place j) tree_count b

  -- Records that are not queued may change in any way, their links and membership too; records may be added or dropped.
  pub changes_sound : Sound queued q s
  changes_sound = record {
    cpus = S.cpus;
    place = S.place;
    forest = forest_still s small
        (λ j b. (
          record_links t s j (placed_inside S.forest j b) (h j (queued_if_placed j b)),
          record_key t s j (placed_inside S.forest j b) (h j (queued_if_placed j b)),
        )) S.forest;
    stands = S.stands;
    threads =
        λ j e. subst (λ (r : ThreadRecord). Queued S.cpus r (S.place j)) (sym (same_record j e)) (S.threads j e);
    priorities = S.priorities;
    lists = lists_same (row_of queued s) row_kept
        (lists_still s (λ j b. kept_queue_links t s j (queued_inside S j (queued_if_listed S j b))
        (h j (queued_if_listed S j b))) S.lists);
    total = S.total ∙ counts_kept is_fifo;
    budgets = S.budgets ∙ counts_kept is_budget;
    running = S.running;
  }
