-- What is known of a sound queue's threads, and how a queue is shown to be sound after a call.
use Rattle.std.specs.Prelude.{◌≡◌, refl, Bool, true, false, ◌≢◌, List, ℕ, suc, ◌≤◌, ◌<◌, length, ltb, Some, Ok}
use Rattle.std.proofs.Common.{sym, ap, ◌∙◌, arith, ltb-true, ltb-false, eq-eqb, ne_eqb}
use Rattle.refusal.specs.Cases.{choose}
use Rattle.policy.specs.declared.SchedulingPolicy.{SchedulingPolicy}
use Rattle.thread.specs.declared.CpuIndex.{CpuIndex}
use Rattle.thread.specs.declared.QueueLinks.{QueueLinks}
use Rattle.thread.specs.declared.ThreadRecord.{ThreadRecord}
use Rattle.thread.specs.Filing.{index_for, on_index}
use Rattle.rows.specs.Table.{record_of}
use Rattle.rows.specs.TableLaws.{queue_links_within}
use Rattle.lists.specs.Checks.{max_length}
use Rattle.sound_lists.specs.Frame.{member_of}
use Rattle.queue.specs.RunQueue.{CpuRunQueue, tree_count}
use Rattle.queue.specs.Queue.{is_fifo, is_budget}
use Rattle.sound_queue.specs.Forest.{Forest, placed}
use Rattle.sound_queue.specs.PlaceLaws.{placed_same, placed_other, same_or_not}
use Rattle.sound_queue.specs.ForestLaws.{placed_inside}
use Rattle.sound_queue.specs.Count.{count}
use Rattle.sound_queue.specs.CountLaws.{count_same, count_one, count_most}
use Rattle.sound_queue.specs.Lists.{list_at, membership_at, list_for, row_of, Lists, list_count}
use Rattle.sound_queue.specs.ListsLaws.{lists_same}
use Rattle.sound_queue.specs.Sound.{Queued, queued_of, Sound, including, excluding, without_links, tree_for}
use Rattle.sound_queue.specs.LinksLaws.{same_length, same_parameters, same_runtime, same_cpu, queued_still}

-- The tree of a record's filing, by its name.
pub tree_for_lem : (r : ThreadRecord) (k : ℕ) → index_for r.parameters r.runtime ≡ Some k → tree_for r ≡ k
unfolding tree_for on_index
tree_for_lem r k e = rw e

-- Who is queued with one thread more, and with one less.
module _ (i : ℕ) (queued : ℕ → Bool) where
  pub included : including i queued i ≡ true
  unfolding including choose
  included = rw (eq-eqb i i refl)

  pub included_other : (j : ℕ) → j ≢ i → including i queued j ≡ queued j
  unfolding including choose
  included_other j h = rw (ne_eqb j i h)

  pub excluded : excluding i queued i ≡ false
  unfolding excluding choose
  excluded = rw (eq-eqb i i refl)

  pub excluded_other : (j : ℕ) → j ≢ i → excluding i queued j ≡ queued j
  unfolding excluding choose
  excluded_other j h = rw (ne_eqb j i h)

-- A thread's row, queued or not.
module _ (queued : ℕ → Bool) (t : List ThreadRecord) (j : ℕ) where
  pub row_queued : queued j ≡ true → row_of queued t j ≡ list_for (record_of t j).parameters.policy
  unfolding row_of choose
  row_queued e = rw e

  pub row_not_queued : queued j ≡ false → row_of queued t j ≡ list_count
  unfolding row_of choose
  row_not_queued e = rw e

-- A thread's row by whether it is queued.
pub row_by : (f g : ℕ → Bool) (t : List ThreadRecord) (j : ℕ) → f j ≡ g j → row_of f t j ≡ row_of g t j
unfolding row_of
row_by f g t j e = rw e

-- The rows once a thread is queued, and once it is no more.
pub row_included : (i : ℕ) (queued : ℕ → Bool) (t : List ThreadRecord) (j : ℕ)
    → placed i (list_for (record_of t i).parameters.policy) (row_of queued t) j ≡ row_of (including i queued) t j
row_included i queued t j = same_or_not j i
    (λ e. rw (e, placed_same i (list_for (record_of t i).parameters.policy) (row_of queued t))
    (sym (row_queued (including i queued) t i (included i queued))))
    (λ e. placed_other i (list_for (record_of t i).parameters.policy) (row_of queued t) j e
    ∙ row_by queued (including i queued) t j (sym (included_other i queued j e)))

pub row_excluded : (i : ℕ) (queued : ℕ → Bool) (t : List ThreadRecord) (j : ℕ)
    → placed i list_count (row_of queued t) j ≡ row_of (excluding i queued) t j
row_excluded i queued t j = same_or_not j i
    (λ e. rw (e, placed_same i list_count (row_of queued t))
    (sym (row_not_queued (excluding i queued) t i (excluded i queued))))
    (λ e. placed_other i list_count (row_of queued t) j e
    ∙ row_by queued (excluding i queued) t j (sym (excluded_other i queued j e)))

-- The counts, with a thread that is queued in g and not in f, all others alike.
module _ (p : SchedulingPolicy → Bool) (f g : ℕ → Bool) (t : List ThreadRecord) where
  of_same : (j : ℕ) → g j ≡ f j → queued_of p g t j ≡ queued_of p f t j
  unfolding queued_of
  of_same j e = rw e

  of_none : (j : ℕ) → f j ≡ false → queued_of p f t j ≡ false
  unfolding queued_of
  of_none j e = rw e

  of_one : (j : ℕ) → g j ≡ true → queued_of p g t j ≡ p (record_of t j).parameters.policy
  unfolding queued_of
  of_one j e = rw e

  pub counted : (i : ℕ) → i < length t → ((j : ℕ) → j ≢ i → g j ≡ f j) → f i ≡ false → g i ≡ true
      → count (length t) (queued_of p g t)
      ≡ choose (p (record_of t i).parameters.policy) (suc (count (length t) (queued_of p f t)))
      (count (length t) (queued_of p f t))
  counted i l h e k =
      count_one (length t) i (queued_of p f t) (queued_of p g t) l (λ j z. of_same j (h j z)) (of_none i e)
      ∙ ap (λ x. choose x (suc (count (length t) (queued_of p f t))) (count (length t) (queued_of p f t))) (of_one i k)

-- A table alike but for links: rows and counts are the same.
module _ (t s : List ThreadRecord) (e : without_links s ≡ without_links t) (queued : ℕ → Bool) where
  pub row_still : (j : ℕ) → row_of queued s j ≡ row_of queued t j
  unfolding row_of
  row_still j = rw (same_parameters t s e j)

  pub count_still : (p : SchedulingPolicy → Bool)
      → count (length s) (queued_of p queued s) ≡ count (length t) (queued_of p queued t)
  unfolding queued_of
  count_still p =
      rw (same_length t s e) (count_same (length t) (queued_of p queued t) (queued_of p queued s)
      (λ j l. rw (same_parameters t s e j)))

  -- So soundness may be shown by the earlier table, but for trees and lists.
  unfoldable pub sound_by : (cpus : ℕ → CpuIndex) (q : CpuRunQueue) (place : ℕ → ℕ) → Forest q.indices s place
      → ((j : ℕ) → ltb (place j) tree_count ≡ queued j)
      → ((j : ℕ) → queued j ≡ true → Queued cpus (record_of t j) (place j)) → length q.realtime ≡ 256
      → Lists (list_at q) cpus s (row_of queued t)
      → q.realtime_len ≡ count (length t) (queued_of is_fifo queued t)
      → q.budget_threads ≡ count (length t) (queued_of is_budget queued t) → q.halted ≡ false
      → Sound queued q s
  sound_by cpus q place F stands threads priorities L total budgets running = record {
    cpus = cpus;
    place = place;
    forest = F;
    stands = stands;
    threads =
        λ j h. queued_still cpus (record_of t j) (record_of s j) (place j) (same_parameters t s e j)
        (same_runtime t s e j) (same_cpu t s e j) (threads j h);
    priorities = priorities;
    lists = lists_same (row_of queued s) (λ j. sym (row_still j)) L;
    total = total ∙ sym (count_still is_fifo);
    budgets = budgets ∙ sym (count_still is_budget);
    running = running;
  }

module _ {queued : ℕ → Bool} {q : CpuRunQueue} {t : List ThreadRecord} (S : Sound queued q t) where
  -- A count of threads is far below the greatest length.
  pub few : (f : ℕ → Bool) (n : ℕ) → n ≡ count (length t) f → n < max_length
  few f n e = let a = count_most (length t) f in let b = S.forest.small in omega arith

module _ {queued : ℕ → Bool} {q : CpuRunQueue} {t : List ThreadRecord} (S : Sound queued q t) (j : ℕ) where
  -- Where a thread stands.
  pub queued_placed : queued j ≡ true → S.place j < tree_count
  queued_placed e = ltb-true (S.place j) tree_count (S.stands j ∙ e)

  pub not_queued_placed : queued j ≡ false → tree_count ≤ S.place j
  not_queued_placed e = ltb-false (S.place j) tree_count (S.stands j ∙ e)

  -- A queued thread is in the table,
  pub queued_inside : queued j ≡ true → j < length t
  queued_inside e = placed_inside S.forest j (queued_placed e)

  -- and its membership is that of its list.
  pub queued_membership : queued j ≡ true
      → (record_of t j).queue_links.membership
      ≡ membership_at (S.cpus (list_for (record_of t j).parameters.policy)) (list_for (record_of t j).parameters.policy)
  queued_membership e =
      let n = list_for (record_of t j).parameters.policy in
      let r = row_queued queued t j e in
      let b = (S.threads j e).listed in
      let m = member_of (S.lists.holds n b) j (S.lists.exact j n b ∙ eq-eqb (row_of queued t j) n r) in
      let z : Ok (record_of t j).queue_links
      ≡ Ok (record { previous = m.0; next = m.1; membership = membership_at (S.cpus n) n }) =
      sym (queue_links_within t j (queued_inside e)) ∙ m.2 in
      let y : (record_of t j).queue_links
      ≡ record { previous = m.0; next = m.1; membership = membership_at (S.cpus n) n } = cc in
      ap (λ (l : QueueLinks). l.membership) y

  -- Whoever stands in a list is queued.
  pub queued_if_listed : row_of queued t j < list_count → queued j ≡ true
  queued_if_listed b = go (queued j) refl
    where
      go : (x : Bool) → queued j ≡ x → queued j ≡ true
      go true e = e
      go false e = let a = row_not_queued queued t j e in absurd (omega arith)
