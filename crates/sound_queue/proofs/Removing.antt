-- A removal on a sound queue.
use Rattle.std.specs.Prelude.{◌≡◌, Bool, true, false, ◌≢◌, List, length, get_or, ltb, Some, Ok}
use Rattle.std.proofs.Math.Path.{refl}
use Rattle.std.proofs.Common.{sym, ap, ◌∙◌, arith}
use Prim.Native.Nat.{ℕ, zero, suc, ◌<◌}
use borrow.Author.Tests.{eq-eqb, ne_eqb, lt-ltb}
use Rattle.refusal.specs.Answer.{value, refused, damaged}
use Rattle.refusal.specs.Cases.{never, choose, if_equal, given}
use Rattle.policy.specs.declared.SchedulingPolicy.{SchedulingPolicy}
use Rattle.thread.specs.declared.CpuIndex.{CpuIndex}
use Rattle.thread.specs.declared.ThreadRecord.{ThreadRecord}
use Rattle.thread.specs.Membership.{on_membership}
use Rattle.thread.specs.Filing.{index_for}
use Rattle.rows.specs.Table.{out, after, record_of, record_at}
use Rattle.lists.specs.Lists.{on_answer}
use Rattle.lists.specs.Lists as lists·
use Rattle.ready_index.specs.Index.{contains, remove}
use Rattle.sound_lists.specs.Members.{without}
use Rattle.sound_lists.specs.Sound as list
use Rattle.sound_lists.proofs.Removal.{remove_holds}
use Rattle.queue.specs.RunQueue.{CpuRunQueue, tree_count}
use Rattle.queue_work.specs.declared.Parts.{Parts}
use Rattle.queue_work.specs.Work.{remove_work}
use Rattle.queue.specs.Queue.{step, empty_root, root_of, parts_of, with_parts, worked, is_fifo, is_budget, partner}
use Rattle.queue.specs.Queue.{on_contained, tree_with, remove_ready, remove_from, remove_call}
use Rattle.sound_queue.specs.Forest.{Forest, placed, Replanted}
use Rattle.sound_queue.specs.PlaceLaws.{placed_same, placed_other, placed_kept, same_or_not}
use Rattle.sound_queue.specs.ForestLaws.{forest_still, contains_placed, uprooted}
use Rattle.sound_queue.specs.Count.{count}
use Rattle.sound_queue.specs.Lists.{list_at, membership_at, list_for, row_of, Lists, list_count, relisted}
use Rattle.sound_queue.specs.ListsLaws.{lists_still, lists_assigned, lists_same, list_left, lists_after}
use Rattle.sound_queue.specs.ListsLaws.{without_same, without_here}
use Rattle.sound_queue.specs.Sound.{Filed, by_filing, in_partner, Queued, queued_of, Sound, excluding, removing}
use Rattle.sound_queue.specs.Sound.{Accepted}
use Rattle.sound_queue.specs.LinksLaws.{besides_queue_links, list_stores_links, list_stores_key}
use Rattle.sound_queue.specs.LinksLaws.{list_stores_length, both_stores}
use Rattle.sound_queue.specs.PartsLaws.{list_of_lem, list_fifo, list_stored_lem, list_stored_other, priorities_stored}
use Rattle.sound_queue.specs.PartsLaws.{rest_stored, budget_tree, partner_tree, total_out_lem, counted_out_lem}
use Rattle.sound_queue.specs.PartsLaws.{remove_work_lem}
use Rattle.sound_queue.specs.SoundLaws.{excluded, excluded_other, row_queued, row_not_queued, row_excluded}
use Rattle.sound_queue.specs.SoundLaws.{counted, sound_by, queued_placed, not_queued_placed, queued_inside}
use Rattle.sound_queue.specs.SoundLaws.{queued_membership}
use Rattle.sound_queue.proofs.Enqueueing.{judged_passes, out_is}

-- Once the tree is known, for a thread in a list of processor d:
module _ (t : List ThreadRecord) (q : CpuRunQueue) (i : ℕ) (cpu d : CpuIndex) (r : ThreadRecord) (k : ℕ) where
  -- what is left to be done if that is the call's processor,
  remove_ready_lem : (n : ℕ) → r.queue_links.membership ≡ membership_at d n → d.0 ≡ cpu.0
      → remove_from t q i cpu r k ≡ worked q (membership_at d n) k
      (remove_work (ltb 0 n) (is_budget r.parameters.policy) t (parts_of q (membership_at d n) k) i
      (membership_at d n))
  unfolding remove_from remove_ready given on_membership membership_at if_equal choose
  remove_ready_lem zero e c = rw (e, eq-eqb d.0 cpu.0 c)
  remove_ready_lem (suc p) e c = rw (e, eq-eqb d.0 cpu.0 c, lt-ltb 0 (suc p) (omega arith))

  -- and Damaged if it is not.
  remove_elsewhere : (n : ℕ) → r.queue_links.membership ≡ membership_at d n → d.0 ≢ cpu.0
      → remove_from t q i cpu r k ≡ out (step (refused damaged) q) t
  unfolding remove_from remove_ready given on_membership membership_at if_equal choose
  remove_elsewhere zero e c = rw (e, ne_eqb d.0 cpu.0 c)
  remove_elsewhere (suc p) e c = rw (e, ne_eqb d.0 cpu.0 c)

-- The tree with a thread, by where it stands: in the tree of its filing, in a budget's other tree, or in none.
module _ (t : List ThreadRecord) (q : CpuRunQueue) (i : ℕ) where
  found_as_filed : (x : Bool) (f : ℕ) → contains t (root_of q f) i ≡ (Ok true) → tree_with t q i x f ≡ value f
  unfolding tree_with on_contained
  found_as_filed x f e = rw e

  found_in_partner : (f : ℕ) → contains t (root_of q f) i ≡ (Ok false)
      → contains t (root_of q (partner f)) i ≡ (Ok true) → tree_with t q i true f ≡ value (partner f)
  unfolding tree_with on_contained choose
  found_in_partner f e g = rw (e, g)

  found_nowhere : (f : ℕ) → contains t (root_of q f) i ≡ (Ok false)
      → contains t (root_of q (partner f)) i ≡ (Ok false) → tree_with t q i true f ≡ refused damaged
  unfolding tree_with on_contained choose
  found_nowhere f e g = rw (e, g)

  found_not_as_filed : (f : ℕ) → contains t (root_of q f) i ≡ (Ok false) → tree_with t q i false f ≡ refused damaged
  unfolding tree_with on_contained choose
  found_not_as_filed f e = rw e

module _ {queued : ℕ → Bool} {q : CpuRunQueue} {t : List ThreadRecord} (S : Sound queued q t) (i : ℕ) where
  stands_in : (k : ℕ) → k < tree_count → i < length t → S.place i ≡ k → contains t (root_of q k) i ≡ (Ok true)
  unfolding choose
  stands_in k b l e = contains_placed S.forest i k b l ∙ rw (eq-eqb (S.place i) k e)

  stands_not_in : (k : ℕ) → k < tree_count → i < length t → S.place i ≢ k → contains t (root_of q k) i ≡ (Ok false)
  unfolding choose
  stands_not_in k b l e = contains_placed S.forest i k b l ∙ rw (ne_eqb (S.place i) k e)

  module _ (e : queued i ≡ true) where
    abbrev row : ℕ
    row = list_for (record_of t i).parameters.policy

    row_low : row < list_count
    row_low = (S.threads i e).listed

    row_is : row_of queued t i ≡ row
    row_is = row_queued queued t i e

    -- The processor of its list, which is its own.
    abbrev own : CpuIndex
    own = S.cpus row

    -- The tree of the record's filing, and the tree that holds it.
    pub record Found : Type 0 where
      pub filed : ℕ
      pub is : index_for (record_of t i).parameters (record_of t i).runtime ≡ Some filed
      pub tree : tree_with t q i (is_budget (record_of t i).parameters.policy) filed ≡ value (S.place i)

    found_by : Filed (record_of t i) (S.place i) → Found
    found_by (by_filing x) = record {
      filed = S.place i;
      is = x;
      tree =
          found_as_filed t q i _ (S.place i) (stands_in (S.place i) (queued_placed S i e) (queued_inside S i e) refl);
    }
    found_by (in_partner f b x y) =
        let c = budget_tree (record_of t i).parameters (record_of t i).runtime f b x in
        let d = partner_tree f c.0 c.1 in
        record {
          filed = f;
          is = x;
          tree = rw b (found_in_partner t q i f (stands_not_in f c.1 (queued_inside S i e) (λ z. d.1 (y ∙ z)))
              (stands_in (partner f) d.0 (queued_inside S i e) (sym y)) ∙ ap value y);
        }

    -- The call goes as far as the thread's list.
    call_goes : (cpu : CpuIndex) → remove_call t q i cpu ≡ remove_from t q i cpu (record_of t i) (S.place i)
    unfolding remove_call on_answer
    call_goes cpu =
        let G = found_by (S.threads i e).filed in
        judged_passes t q i G.filed _ S.forest.small S.running (queued_inside S i e) (S.threads i e).judged
        G.is ∙ rw G.tree

    -- For another processor than the thread's own it is Damaged, with nothing changed.
    pub removed_elsewhere : (cpu : CpuIndex) → (record_of t i).cpu.0 ≢ cpu.0
        → remove_call t q i cpu ≡ out (step (refused damaged) q) t
    removed_elsewhere cpu d =
        call_goes cpu ∙ remove_elsewhere t q i cpu own (record_of t i) (S.place i) row (queued_membership S i e)
        (λ z. d ((S.threads i e).assigned ∙ z))

    abbrev Left : Type 0
    Left = list.Accepted t (lists·.remove t (list_at q row) i (membership_at own row)) (S.lists.members row) i
        (without i (S.lists.members row)) (membership_at own row)

    module _ (A : Left) where
      abbrev listed : List ThreadRecord
      listed = after (lists·.remove t (list_at q row) i (membership_at own row))

      listed_forest : Forest q.indices listed S.place
      listed_forest = forest_still listed (omega (arith, S.forest.small, list_stores_length t listed A.rest))
          (λ j b. (list_stores_links t listed j A.rest, list_stores_key t listed j A.rest)) S.forest

      abbrev Uprooted : Type 0
      Uprooted = Replanted q.indices listed (S.place i) i S.place (placed i tree_count S.place)
          (remove listed (get_or q.indices (S.place i) empty_root).root i)

      is_uprooted : Uprooted
      is_uprooted = uprooted listed_forest (S.place i) (queued_placed S i e) i refl

      abbrev total : ℕ
      total = count (length t) (queued_of is_fifo (excluding i queued) t)

      abbrev budgets : ℕ
      budgets = count (length t) (queued_of is_budget (excluding i queued) t)

      total_was : (p : SchedulingPolicy → Bool) (n : ℕ) → n ≡ count (length t) (queued_of p queued t)
          → n ≡ choose (p (record_of t i).parameters.policy)
          (suc (count (length t) (queued_of p (excluding i queued) t)))
          (count (length t) (queued_of p (excluding i queued) t))
      total_was p n h =
          h ∙ counted p (excluding i queued) queued t i (queued_inside S i e) (λ j d. sym (excluded_other i queued j d))
          (excluded i queued) e

      module _ (R : Uprooted) where
        abbrev parts : Parts
        parts = record { list = A.list; realtime_len = total; root = R.link; budget_threads = budgets }

        abbrev queue : CpuRunQueue
        queue = with_parts q (membership_at own row) (S.place i) parts

        unfoldable new_lists : Lists (list_at queue) S.cpus R.table (row_of (excluding i queued) t)
        new_lists =
            lists_same (row_of (excluding i queued) t) (row_excluded i queued t)
            (lists_assigned S.cpus (placed_kept row S.cpus)
            (lists_still R.table (λ j b. besides_queue_links listed R.table j R.besides)
            (list_left S.lists row row_low i (without i) own A (list_at queue)
            (list_stored_lem q own (S.place i) parts row row_low S.priorities)
            (λ m c d. list_stored_other q own (S.place i) parts row m d) (without_same i (S.lists.members row))
            row_is (without_here i (S.lists.members row)))))

        new_stands : (j : ℕ) → ltb (placed i tree_count S.place j) tree_count ≡ excluding i queued j
        new_stands j = same_or_not j i
            (λ z. rw (z, placed_same i tree_count S.place) (sym (excluded i queued)))
            (λ z. rw (placed_other i tree_count S.place j z) (S.stands j ∙ sym (excluded_other i queued j z)))

        new_threads : (j : ℕ) → excluding i queued j ≡ true
            → Queued S.cpus (record_of t j) (placed i tree_count S.place j)
        new_threads j h = same_or_not j i
            (λ z.
            let y : false ≡ true = sym (excluded i queued) ∙ ap (excluding i queued) (sym z) ∙ h in
            never cc)
            (λ z. rw (placed_other i tree_count S.place j z) (S.threads j (sym (excluded_other i queued j z) ∙ h)))

        unfoldable new_sound : Sound (excluding i queued) queue R.table
        new_sound =
            let s = rest_stored q own (S.place i) parts row in
            sound_by t R.table (both_stores t listed R.table A.rest R.besides)
            (excluding i queued) S.cpus queue (placed i tree_count S.place)
            (rw s.0 R.forest) new_stands new_threads
            (priorities_stored q own (S.place i) parts row ∙ S.priorities) new_lists s.1 s.2 (s.3 ∙ S.running)

        new_places : (j : ℕ) → new_sound.place j ≡ placed i tree_count S.place j
        unfolding new_sound sound_by
        new_places j = refl

        new_members : (n : ℕ) → new_sound.lists.members n ≡ relisted row (without i) S.lists.members n
        unfolding new_sound sound_by new_lists lists_same lists_assigned lists_still list_left lists_after
        new_members n = refl

        new_others : (j : ℕ) → queued j ≡ false → j ≢ i → record_at R.table j ≡ record_at t j
        new_others j h d =
            R.others j (not_queued_placed S j h) d
            ∙ (A.others j (S.lists.exact j row row_low ∙ ne_eqb (row_of queued t j) row
            (λ z. let a = row_not_queued queued t j h in let b = row_low in omega arith)) d).0

        work_is : worked q (membership_at own row) (S.place i)
            (remove_work (ltb 0 row) (is_budget (record_of t i).parameters.policy) t
            (parts_of q (membership_at own row) (S.place i)) i (membership_at own row))
            ≡ out (step (value tt) queue) R.table
        unfolding worked parts_of
        work_is =
            rw (remove_work_lem (ltb 0 row) (is_budget (record_of t i).parameters.policy) t listed R.table
            (parts_of q (membership_at own row) (S.place i)) parts i
            (membership_at own row) total A.list R.link
            (total_out_lem (ltb 0 row) q.realtime_len total
            (rw (list_fifo (record_of t i).parameters.policy row refl row_low) at
            (total_was is_fifo q.realtime_len S.total)))
            (rw (list_of_lem q own row) (out_is (lists·.remove t (list_at q row) i (membership_at own row))
            (value A.list)
            A.accepted))
            R.is
            (counted_out_lem (is_budget (record_of t i).parameters.policy) _ budgets
            (total_was is_budget q.budget_threads S.budgets)))

        call_is : (cpu : CpuIndex) → (record_of t i).cpu.0 ≡ cpu.0
            → remove_call t q i cpu ≡ out (step (value tt) queue) R.table
        call_is cpu c =
            call_goes cpu ∙ remove_ready_lem t q i cpu own (record_of t i) (S.place i) row (queued_membership S i e)
            (sym (S.threads i e).assigned ∙ c) ∙ work_is

        removed_by : (cpu : CpuIndex) → (record_of t i).cpu.0 ≡ cpu.0
            → Accepted S (removing i) (remove_call t q i cpu)
        removed_by cpu c = record {
          queue = queue;
          table = R.table;
          is = call_is cpu c;
          kept =
              record {
                sound = new_sound;
                places = new_places;
                members = new_members;
                besides = both_stores t listed R.table A.rest R.besides;
                others = new_others;
              };
        }

    -- The removal of a queued thread by its processor is accepted, also where a budget thread stands in the partner
    -- tree.
    pub removed : (cpu : CpuIndex) → (record_of t i).cpu.0 ≡ cpu.0
        → Accepted S (removing i) (remove_call t q i cpu)
    removed cpu c =
        let A = (remove_holds i (S.lists.holds row row_low)
        (S.lists.exact i row row_low ∙ eq-eqb (row_of queued t i) row row_is)).0 in
        removed_by A (is_uprooted A) cpu c

  -- A thread of the table that is not queued is in no tree.
  pub in_no_tree : queued i ≡ false → i < length t → (f : ℕ)
      → index_for (record_of t i).parameters (record_of t i).runtime ≡ Some f → f < tree_count
      → tree_with t q i (is_budget (record_of t i).parameters.policy) f ≡ refused damaged
  in_no_tree e l f x b = go (is_budget (record_of t i).parameters.policy) refl
    where
      absent : (k : ℕ) → k < tree_count → contains t (root_of q k) i ≡ (Ok false)
      absent k c = stands_not_in k c l (λ z. let a = not_queued_placed S i e in omega arith)

      go : (y : Bool) → is_budget (record_of t i).parameters.policy ≡ y → tree_with t q i y f ≡ refused damaged
      go true z =
          let c = budget_tree (record_of t i).parameters (record_of t i).runtime f z x in
          found_nowhere t q i f (absent f b) (absent (partner f) (partner_tree f c.0 c.1).0)
      go false z = found_not_as_filed t q i f (absent f b)
