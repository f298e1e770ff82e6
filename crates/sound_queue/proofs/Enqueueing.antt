-- An enqueue, at either end, on a sound queue.
use Rattle.std.specs.Prelude.{◌≡◌, Bool, ◌≢◌, List, [], ◌∷◌, ℕ, suc, ◌≤◌, ◌<◌, length, get_or, ltb, eqb, Some}
use Rattle.std.proofs.Math.Path.{refl, sym, ap}
use Rattle.std.proofs.Common.{◌∙◌, subst, arith}
use Rattle.std.proofs.Math.Bool.{true, false}
use borrow.Author.Tests.{eq-eqb, eqb-true, ne_eqb, le-ltb, lt-ltb}
use Rattle.refusal.specs.Answer.{value}
use Rattle.refusal.specs.Cases.{never, choose, if_less, if_equal, given}
use Rattle.policy.specs.declared.SchedulingPolicy.{SchedulingPolicy}
use Rattle.thread.specs.declared.CpuIndex.{CpuIndex}
use Rattle.thread.specs.declared.QueueMembership.{QueueMembership}
use Rattle.thread.specs.declared.QueueMembership.TheVariants as membership
use Rattle.thread.specs.declared.ThreadQueue.{ThreadQueue}
use Rattle.thread.specs.declared.ThreadRecord.{ThreadRecord}
use Rattle.thread.specs.Membership.{on_membership, is_unqueued}
use Rattle.thread.specs.Judgement.{is_bad_record}
use Rattle.thread.specs.Filing.{index_for, on_index}
use Rattle.rows.specs.Table.{Out, out, answer, after, record_of, record_at, max_records}
use Rattle.rows.specs.TableCases.{on_record}
use Rattle.rows.specs.TableLaws.{record_within}
use Rattle.ready_index.specs.Index.{insert}
use Rattle.sound_lists.specs.Members.{has}
use Rattle.sound_lists.specs.MembersLaws.{has_first}
use Rattle.sound_lists.specs.Sound.{HoldsList, MayJoin}
use Rattle.sound_lists.specs.Sound as list
use Rattle.sound_lists.proofs.Insertion.{push_holds, push_front_holds}
use Rattle.queue.specs.RunQueue.{CpuRunQueue, tree_count}
use Rattle.queue_work.specs.declared.Parts.{Parts}
use Rattle.queue_work.specs.Work.{push_at, insert_work}
use Rattle.queue.specs.Queue.{Step, step, empty_root, parts_of, with_parts, worked, is_fifo, is_budget, judged}
use Rattle.queue.specs.Queue.{enqueue_call}
use Rattle.sound_queue.specs.Forest.{Forest, placed, Replanted}
use Rattle.sound_queue.specs.PlaceLaws.{placed_same, placed_other, same_or_not}
use Rattle.sound_queue.specs.ForestLaws.{forest_still, planted}
use Rattle.sound_queue.specs.Count.{count}
use Rattle.sound_queue.specs.Lists.{list_at, membership_at, list_for, row_of, Lists, list_count, joined, relisted}
use Rattle.sound_queue.specs.ListsLaws.{lists_still, lists_same, list_counts, list_joined, back_same, back_here}
use Rattle.sound_queue.specs.ListsLaws.{front_same, lists_after}
use Rattle.sound_queue.specs.Sound.{by_filing, Queued, queued_of, Sound, including, tree_for, enqueuing, Accepted}
use Rattle.sound_queue.specs.Sound.{MayEnqueue}
use Rattle.sound_queue.specs.LinksLaws.{besides_queue_links, list_stores_links, list_stores_key}
use Rattle.sound_queue.specs.LinksLaws.{list_stores_length, both_stores}
use Rattle.sound_queue.specs.PartsLaws.{list_of_lem, membership_for_lem, list_for_lem, assigned_to_lem, in_a_list}
use Rattle.sound_queue.specs.PartsLaws.{list_stored_lem}
use Rattle.sound_queue.specs.PartsLaws.{list_stored_other, priorities_stored, rest_stored, filing, total_in_lem}
use Rattle.sound_queue.specs.PartsLaws.{counted_in_lem, insert_work_lem, cpu_by}
use Rattle.sound_queue.specs.SoundLaws.{included, included_other, row_queued, row_not_queued, row_included}
use Rattle.sound_queue.specs.SoundLaws.{counted, sound_by, not_queued_placed, queued_membership, tree_for_lem}
use Rattle.sound_queue.specs.SoundLaws.{queued_if_listed, few}

-- The checks before a call's work, where none of them refuses.
pub judged_passes : {A : Type 0} (t : List ThreadRecord) (q : CpuRunQueue) (i k : ℕ)
    (f : ThreadRecord → ℕ → Out (Step A)) → length t ≤ max_records → q.halted ≡ false → i < length t
    → is_bad_record (record_of t i) ≡ false
    → index_for (record_of t i).parameters (record_of t i).runtime ≡ Some k
    → judged t q i f ≡ f (record_of t i) k
unfolding judged if_less choose on_record on_index
judged_passes t q i k f n h l b e = rw (le-ltb max_records (length t) n, h, record_within t i l, b, e)

-- An answer and the table beside it.
pub out_is : {A : Type 0} (x : Out A) (a : A) → answer x ≡ a → x ≡ out a (after x)
out_is (out b t) a e = ap (λ y. out y t) e

-- A list with one thread more, at either end.
pub record Joins (front : Bool) (t : List ThreadRecord) (q : ThreadQueue) (members : List ℕ) (i : ℕ)
    (m : QueueMembership) : Type 0 where
  pub accepted : list.Accepted t (push_at front t q i m) members i (joined front i members) m
  pub here : has i (joined front i members) ≡ true
  pub same : (j : ℕ) → j ≢ i → has j (joined front i members) ≡ has j members

joins : (front : Bool) (t : List ThreadRecord) (q : ThreadQueue) (members : List ℕ) (i : ℕ) (m : QueueMembership)
    → HoldsList t q members m → MayJoin t q members i m → Joins front t q members i m
unfolding push_at joined choose
joins true t q members i m L J =
    record { accepted = push_front_holds i L J; here = has_first i members; same = front_same i members }
joins false t q members i m L J =
    record { accepted = push_holds i L J; here = back_here i members; same = back_same i members }

module _ {queued : ℕ → Bool} {q : CpuRunQueue} {t : List ThreadRecord} (S : Sound queued q t) (cpu : CpuIndex) (i : ℕ)
    (M : MayEnqueue cpu queued t i) where
  -- A thread in no list is not queued.
  pub unqueued_not_queued : queued i ≡ false
  unfolding is_unqueued on_membership
  unqueued_not_queued = go (queued i) refl
    where
      go : (x : Bool) → queued i ≡ x → queued i ≡ false
      go false e = e
      go true e =
          let n = list_for (record_of t i).parameters.policy in
          let z : membership.None ≡ membership_at (S.cpus n) n = sym M.unqueued ∙ queued_membership S i e in
          let y : true ≡ false = ap is_unqueued z ∙ in_a_list (S.cpus n) n in
          never cc

  abbrev row : ℕ
  row = list_for (record_of t i).parameters.policy

  row_low : row < list_count
  row_low = list_for_lem (record_of t i).parameters.policy M.not_idle M.fits

  -- Its list is one of this processor's, or empty and so anybody's.
  list_ours : HoldsList t (list_at q row) (S.lists.members row) (membership_at cpu row)
  list_ours = go (S.lists.members row) refl (S.lists.holds row row_low)
    where
      go : (l : List ℕ) → S.lists.members row ≡ l → HoldsList t (list_at q row) l (membership_at (S.cpus row) row)
          → HoldsList t (list_at q row) l (membership_at cpu row)
      go [] z H = record { head = H.head; tail = H.tail; len = H.len; linked = tt; distinct = tt }
      go (j ∷ l) z H =
          let h = S.lists.exact j row row_low in
          let b : row_of queued t j ≡ row = eqb-true (row_of queued t j) row
          (sym h ∙ ap (has j) z ∙ has_first j l) in
          let f = queued_if_listed S j (omega (arith, b, row_low)) in
          let g : list_for (record_of t j).parameters.policy ≡ row = sym (row_queued queued t j f) ∙ b in
          let c : S.cpus row ≡ cpu = cpu_by (S.cpus row) cpu
          (ap (λ m. (S.cpus m).0) (sym g) ∙ sym (S.threads j f).assigned ∙ M.ours j f g) in
          subst (λ (d : CpuIndex). HoldsList t (list_at q row) (j ∷ l) (membership_at d row)) c H

  may_join : MayJoin t (list_at q row) (S.lists.members row) i (membership_at cpu row)
  may_join = record {
    below = M.below;
    outside = S.lists.exact i row row_low ∙ ne_eqb (row_of queued t i) row
        (λ z. let a = row_not_queued queued t i unqueued_not_queued in let b = row_low in omega arith);
    unqueued = M.unqueued;
    assigned = assigned_to_lem cpu (record_of t i).cpu row M.assigned;
    room = few S (λ j. eqb (row_of queued t j) row) (list_at q row).len (list_counts S.lists row row_low);
  }

  module _ (front : Bool) (J : Joins front t (list_at q row) (S.lists.members row) i (membership_at cpu row)) (k : ℕ)
      (low : k < tree_count)
      (filed : index_for (record_of t i).parameters (record_of t i).runtime ≡ Some k) where
    abbrev listed : List ThreadRecord
    listed = after (push_at front t (list_at q row) i (membership_at cpu row))

    listed_length : length listed ≡ length t
    listed_length = list_stores_length t listed J.accepted.rest

    listed_forest : Forest q.indices listed S.place
    listed_forest = forest_still listed (omega (arith, S.forest.small, listed_length))
        (λ j b. (list_stores_links t listed j J.accepted.rest, list_stores_key t listed j J.accepted.rest))
        S.forest

    abbrev Planted : Type 0
    Planted =
        Replanted q.indices listed k i S.place (placed i k S.place)
        (insert listed (get_or q.indices k empty_root).root i)

    is_planted : Planted
    is_planted =
        planted listed_forest k low i (not_queued_placed S i unqueued_not_queued)
        (omega (arith, listed_length, M.below))

    abbrev total : ℕ
    total = count (length t) (queued_of is_fifo (including i queued) t)

    abbrev budgets : ℕ
    budgets = count (length t) (queued_of is_budget (including i queued) t)

    total_is : (p : SchedulingPolicy → Bool) (n : ℕ) → n ≡ count (length t) (queued_of p queued t)
        → count (length t) (queued_of p (including i queued) t) ≡ choose (p (record_of t i).parameters.policy) (suc n) n
    total_is p n e =
        rw e (counted p queued (including i queued) t i M.below (included_other i queued) unqueued_not_queued
        (included i queued))

    module _ (R : Planted) where
      abbrev parts : Parts
      parts = record { list = J.accepted.list; realtime_len = total; root = R.link; budget_threads = budgets }

      abbrev queue : CpuRunQueue
      queue = with_parts q (membership_at cpu row) k parts

      unfoldable new_lists : Lists (list_at queue) (placed row cpu S.cpus) R.table (row_of (including i queued) t)
      new_lists =
          lists_same (row_of (including i queued) t) (row_included i queued t)
          (lists_still R.table (λ j b. besides_queue_links listed R.table j R.besides)
          (list_joined S.lists row row_low i (joined front i) cpu J.accepted (list_at queue)
          (list_stored_lem q cpu k parts row row_low S.priorities)
          (λ m c d. list_stored_other q cpu k parts row m d) J.same
          (omega (arith, row_not_queued queued t i unqueued_not_queued)) J.here))

      new_stands : (j : ℕ) → ltb (placed i k S.place j) tree_count ≡ including i queued j
      new_stands j = same_or_not j i
          (λ e. rw (e, placed_same i k S.place) (lt-ltb k tree_count low ∙ sym (included i queued)))
          (λ e. rw (placed_other i k S.place j e) (S.stands j ∙ sym (included_other i queued j e)))

      abbrev cpus : ℕ → CpuIndex
      cpus = placed row cpu S.cpus

      still_assigned : (j : ℕ) → queued j ≡ true
          → (record_of t j).cpu.0 ≡ (cpus (list_for (record_of t j).parameters.policy)).0
      still_assigned j h = same_or_not (list_for (record_of t j).parameters.policy) row
          (λ e. rw (e, placed_same row cpu S.cpus) (M.ours j h e))
          (λ e. rw (placed_other row cpu S.cpus (list_for (record_of t j).parameters.policy) e)
          (S.threads j h).assigned)

      still_queued : (j : ℕ) → queued j ≡ true → Queued cpus (record_of t j) (S.place j)
      still_queued j h =
          let Q = S.threads j h in
          record { judged = Q.judged; assigned = still_assigned j h; listed = Q.listed; filed = Q.filed }

      new_threads : (j : ℕ) → including i queued j ≡ true → Queued cpus (record_of t j) (placed i k S.place j)
      new_threads j h = same_or_not j i
          (λ e. rw (e, placed_same i k S.place)
          (record {
            judged = M.judged;
            assigned = rw (placed_same row cpu S.cpus) M.assigned;
            listed = row_low;
            filed = by_filing filed;
          }))
          (λ e. rw (placed_other i k S.place j e) (still_queued j (sym (included_other i queued j e) ∙ h)))

      unfoldable new_sound : Sound (including i queued) queue R.table
      new_sound =
          let s = rest_stored q cpu k parts row in
          sound_by t R.table (both_stores t listed R.table J.accepted.rest R.besides)
          (including i queued) cpus queue (placed i k S.place)
          (rw s.0 R.forest) new_stands new_threads (priorities_stored q cpu k parts row ∙ S.priorities) new_lists
          s.1 s.2 (s.3 ∙ S.running)

      new_places : (j : ℕ) → new_sound.place j ≡ placed i (tree_for (record_of t i)) S.place j
      unfolding new_sound sound_by
      new_places j = ap (λ m. placed i m S.place j) (sym (tree_for_lem (record_of t i) k filed))

      new_members : (n : ℕ) → new_sound.lists.members n ≡ relisted row (joined front i) S.lists.members n
      unfolding new_sound sound_by new_lists lists_same lists_still list_joined lists_after
      new_members n = refl

      new_others : (j : ℕ) → queued j ≡ false → j ≢ i → record_at R.table j ≡ record_at t j
      new_others j e d =
          R.others j (not_queued_placed S j e) d
          ∙ (J.accepted.others j (S.lists.exact j row row_low ∙ ne_eqb (row_of queued t j) row
          (λ z. let a = row_not_queued queued t j e in let b = row_low in omega arith)) d).0

      work_is : worked q (membership_at cpu row) k
          (insert_work front (is_fifo (record_of t i).parameters.policy) (is_budget (record_of t i).parameters.policy) t
          (parts_of q (membership_at cpu row) k) i (membership_at cpu row))
          ≡ out (step (value tt) queue) R.table
      unfolding worked parts_of
      work_is =
          rw (insert_work_lem (is_fifo (record_of t i).parameters.policy)
          (is_budget (record_of t i).parameters.policy) t listed R.table (parts_of q (membership_at cpu row) k) parts i
          (membership_at cpu row) total J.accepted.list R.link front
          (total_in_lem (is_fifo (record_of t i).parameters.policy) q.realtime_len total
          (few S (queued_of is_fifo queued t) q.realtime_len S.total)
          (total_is is_fifo q.realtime_len S.total))
          (rw (list_of_lem q cpu row) (out_is (push_at front t (list_at q row) i (membership_at cpu row))
          (value J.accepted.list) J.accepted.accepted))
          R.is
          (counted_in_lem (is_budget (record_of t i).parameters.policy) _ budgets
          (few S (queued_of is_budget queued t) q.budget_threads S.budgets)
          (total_is is_budget q.budget_threads S.budgets)))

      call_is : enqueue_call front t q i cpu ≡ out (step (value tt) queue) R.table
      unfolding enqueue_call choose if_equal given is_unqueued on_membership
      call_is =
          judged_passes t q i k _ S.forest.small S.running M.below M.judged filed
          ∙ rw (
            M.unqueued,
            eq-eqb (record_of t i).cpu.0 cpu.0 M.assigned,
            membership_for_lem (record_of t i).parameters.policy cpu M.not_idle,
          ) work_is

      enqueued_by : Accepted S (enqueuing front t i) (enqueue_call front t q i cpu)
      enqueued_by = record {
        queue = queue;
        table = R.table;
        is = call_is;
        kept =
            record {
              sound = new_sound;
              places = new_places;
              members = new_members;
              besides = both_stores t listed R.table J.accepted.rest R.besides;
              others = new_others;
            };
      }

  -- An enqueue that no rule of document 01 refuses is accepted, at either end.
  pub enqueued : (front : Bool) → Accepted S (enqueuing front t i) (enqueue_call front t q i cpu)
  enqueued front =
      let J = joins front t (list_at q row) (S.lists.members row) i (membership_at cpu row)
      list_ours may_join in
      let F = filing (record_of t i).parameters (record_of t i).runtime M.not_idle in
      enqueued_by front J F.tree F.low F.is (is_planted front J F.tree F.low F.is)
