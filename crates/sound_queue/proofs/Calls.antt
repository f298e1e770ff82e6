-- The theorems about sound queues: a new queue is sound, changes beside it keep it so, and enqueue at either end and
-- remove do what they say.
use Rattle.std.specs.Prelude.{◌≡◌, Bool, ◌&&◌, ◌≢◌, List, [], ℕ, ◌%◌, ◌≤◌, ◌<◌, length, Result, Ok, Err}
use Rattle.refusal.specs.declared.Damaged.{Damaged}
use Rattle.refusal.specs.declared.Refusal.{Refusal}
use Rattle.std.proofs.Math.Path.{refl, sym, ap}
use Rattle.std.proofs.Common.{◌∙◌, subst, arith, mod-lt}
use Rattle.std.proofs.Math.Bool.{true, false}
use Rattle.std.proofs.Math.ListN.{get_or-map}
use Rattle.std.proofs.Math.Dec.{eqb}
use borrow.Author.Tests.{eqb-true, eqb-false, eq-eqb, ne_eqb}
use Rattle.refusal.specs.Answer.{value, refused, damaged, bad_state, already, damage}
use Rattle.refusal.specs.Cases.{never, choose, if_equal, given}
use Rattle.policy.specs.declared.SchedulingPolicy.TheVariants as policy
use Rattle.thread.specs.declared.CpuIndex.{CpuIndex}
use Rattle.thread.specs.declared.ThreadRecord.{ThreadRecord}
use Rattle.thread.specs.Membership.{is_unqueued}
use Rattle.thread.specs.Judgement.{is_bad_record}
use Rattle.codec.specs.Codec.{policy_from, parameters_of, decoded}
use Rattle.thread.specs.MembershipLaws.{is_unqueued_true}
use Rattle.rows.specs.Table.{Out, out, table, record_of, record_at, changed, max_records}
use Rattle.rows.specs.TableLaws.{length_changed, reading_other}
use Rattle.lists.specs.Lists.{on_answer}
use Rattle.ready_index.specs.Index.{contains}
use Rattle.queue.specs.RunQueue.{CpuRunQueue, tree_count}
use Rattle.queue.specs.Queue.{Step, step, new_queue, root_of, enqueue_call, remove_call}
use Rattle.sound_queue.specs.Count.{count}
use Rattle.sound_queue.specs.CountLaws.{count_same}
use Rattle.sound_queue.specs.Lists.{list_at, list_for, row_of, list_count, threads_of, relisted}
use Rattle.sound_queue.specs.ListsLaws.{list_counts, list_read}
use Rattle.sound_queue.specs.LinksLaws.{same_length}
use Rattle.sound_queue.specs.Forest.{placed}
use Rattle.sound_queue.specs.ForestLaws.{contains_placed}
use Rattle.sound_queue.specs.Sound.{queued_of, Sound, nobody, Effect, enqueuing, removing, Kept, Accepted, Fine}
use Rattle.sound_queue.specs.Sound.{unchanged, made, PriorityFits, MayEnqueue}
use Rattle.sound_queue.specs.PartsLaws.{in_a_list, list_for_lem, listed_not_idle, membership_for_lem, filing}
use Rattle.sound_queue.specs.Joining.{Joining, ours, theirs, joining, work_refused}
use Rattle.sound_queue.specs.SoundLaws.{queued_inside, queued_membership}
use Rattle.sound_queue.proofs.Enqueueing.{judged_passes, enqueued}
use Rattle.sound_queue.proofs.Removing.{removed, removed_elsewhere, in_no_tree}
use Rattle.sound_queue.specs.Verdict.{Verdict, refuses, passes, verdict}
use Rattle.sound_queue.specs.Outside as outside

-- A new queue over any table of up to 4,096 records is sound, with nobody queued.
pub new_sound : (t : List ThreadRecord) → length t ≤ max_records → Sound nobody new_queue t
new_sound = outside.new_sound

module _ {queued : ℕ → Bool} {q : CpuRunQueue} {t : List ThreadRecord} (S : Sound queued q t) where
  -- Records that are not queued may change in any way, their links and membership too, and records may be added or
  -- dropped: any table of up to 4,096 records will do that has the queued records as they were.
  pub changes_sound : (s : List ThreadRecord) → length s ≤ max_records
      → ((j : ℕ) → queued j ≡ true → record_at s j ≡ record_at t j) → Sound queued q s
  changes_sound = outside.changes_sound S

  -- The same of one record.
  pub change_sound : (i : ℕ) (f : ThreadRecord → ThreadRecord) → queued i ≡ false → Sound queued q (changed t i f)
  unfolding record_at
  change_sound i f e = changes_sound (changed t i f) (omega (arith, length_changed t i f, S.forest.small))
      (λ j h. reading_other t i f (λ (r : ThreadRecord). Ok r) (Err damage) j
      (λ z. let w : true ≡ false = sym h ∙ ap queued z ∙ e in never cc))

  row_tells : (n j : ℕ) → n < list_count → eqb (row_of queued t j) n ≡ queued_of (λ p. eqb (list_for p) n) queued t j
  unfolding row_of queued_of choose
  row_tells n j b = go (queued j)
    where
      go : (x : Bool) → eqb (choose x (list_for (record_of t j).parameters.policy) list_count) n
          ≡ x && eqb (list_for (record_of t j).parameters.policy) n
      go true = refl
      go false = ne_eqb list_count n (λ z. omega arith)

  -- Every list's length is the number of queued threads whose policy names that list.
  pub lengths_true : (n : ℕ) → n < list_count → (list_at q n).len ≡ count (length t)
      (queued_of (λ p. eqb (list_for p) n) queued t)
  lengths_true n b =
      list_counts S.lists n b ∙ count_same (length t) (queued_of (λ p. eqb (list_for p) n) queued t)
      (λ j. eqb (row_of queued t j) n) (λ j l. row_tells n j b)

  module _ (cpu : CpuIndex) (i : ℕ) where
    -- An enqueue of a thread that no rule of document 01 refuses is accepted, at either end; then the thread stands in
    -- the tree of its filing and at that end of its list, and every other thread where it stood.
    pub enqueue_accepted : (front : Bool) → MayEnqueue cpu queued t i
        → Accepted S (enqueuing front t i) (enqueue_call front t q i cpu)
    enqueue_accepted front M = enqueued S cpu i M front

    -- A removal of a queued thread by its processor is accepted, also where a budget thread stands in the partner tree;
    -- then it stands nowhere, and every other thread where it stood.
    pub remove_accepted : queued i ≡ true → (record_of t i).cpu.0 ≡ cpu.0
        → Accepted S (removing i) (remove_call t q i cpu)
    remove_accepted e c = removed S i e cpu c

    -- A judged thread that is in no list, of this processor: by whose its list is.
    joining_enqueue : (front : Bool) → PriorityFits (record_of t i).parameters.policy → i < length t
        → is_bad_record (record_of t i) ≡ false → (record_of t i).parameters.policy ≢ policy.Idle
        → is_unqueued (record_of t i).queue_links.membership ≡ true → (record_of t i).cpu.0 ≡ cpu.0
        → Joining S cpu i → Fine S (enqueuing front t i) (enqueue_call front t q i cpu)
    unfolding enqueue_call choose if_equal given
    joining_enqueue front p l b d e g (ours h) = made (enqueued S cpu i
        (record {
          below = l;
          judged = b;
          not_idle = d;
          unqueued = is_unqueued_true _ e;
          assigned = g;
          fits = p;
          ours = h;
        }) front)
    joining_enqueue front p l b d e g (theirs k m z c) =
        let F = filing (record_of t i).parameters (record_of t i).runtime d in
        unchanged damaged (judged_passes t q i F.tree _ S.forest.small S.running l b F.is
        ∙ rw (e, eq-eqb (record_of t i).cpu.0 cpu.0 g, membership_for_lem (record_of t i).parameters.policy cpu d)
        (work_refused S cpu i (list_for_lem (record_of t i).parameters.policy d p) l e g k m z c front F.tree))

    -- One of another processor is refused, and so is one that is in a list.
    module _ (front : Bool) (l : i < length t) (b : is_bad_record (record_of t i) ≡ false)
        (d : (record_of t i).parameters.policy ≢ policy.Idle) where
      other_processor : is_unqueued (record_of t i).queue_links.membership ≡ true
          → eqb (record_of t i).cpu.0 cpu.0 ≡ false
          → enqueue_call front t q i cpu ≡ out (step (refused bad_state) q) t
      unfolding enqueue_call choose if_equal
      other_processor e g =
          let F = filing (record_of t i).parameters (record_of t i).runtime d in
          judged_passes t q i F.tree _ S.forest.small S.running l b F.is ∙ rw (e, g)

      in_a_list_already : is_unqueued (record_of t i).queue_links.membership ≡ false
          → enqueue_call front t q i cpu ≡ out (step (refused already) q) t
      unfolding enqueue_call choose if_equal
      in_a_list_already e =
          let F = filing (record_of t i).parameters (record_of t i).runtime d in
          judged_passes t q i F.tree _ S.forest.small S.running l b F.is ∙ rw e

    judged_enqueue : (front : Bool) → PriorityFits (record_of t i).parameters.policy → i < length t
        → is_bad_record (record_of t i) ≡ false → (record_of t i).parameters.policy ≢ policy.Idle
        → (x : Bool) → is_unqueued (record_of t i).queue_links.membership ≡ x → (y : Bool)
        → eqb (record_of t i).cpu.0 cpu.0 ≡ y
        → Fine S (enqueuing front t i) (enqueue_call front t q i cpu)
    judged_enqueue front p l b d true e true g =
        joining_enqueue front p l b d e (eqb-true (record_of t i).cpu.0 cpu.0 g)
        (joining S cpu i (list_for_lem (record_of t i).parameters.policy d p))
    judged_enqueue front p l b d true e false g = unchanged bad_state (other_processor front l b d e g)
    judged_enqueue front p l b d false e y g = unchanged already (in_a_list_already front l b d e)

    enqueue_by : (front : Bool) → PriorityFits (record_of t i).parameters.policy → Verdict t q i
        → Fine S (enqueuing front t i) (enqueue_call front t q i cpu)
    unfolding enqueue_call
    enqueue_by front p (refuses n r) = unchanged n (r _)
    enqueue_by front p (passes l b d) =
        judged_enqueue front p l b d (is_unqueued (record_of t i).queue_links.membership) refl
        (eqb (record_of t i).cpu.0 cpu.0) refl

    -- An enqueue on a sound queue, whatever processor it names, never halts: it is refused with nothing changed, or
    -- accepted with the queue sound after it.
    pub enqueue_fine : (front : Bool) → PriorityFits (record_of t i).parameters.policy
        → Fine S (enqueuing front t i) (enqueue_call front t q i cpu)
    enqueue_fine front p = enqueue_by front p (verdict t q i S.forest.small S.running)

    -- A thread that is queued is not enqueued again: Already, with nothing changed.
    pub enqueue_again : (front : Bool) → queued i ≡ true
        → enqueue_call front t q i cpu ≡ out (step (refused already) q) t
    enqueue_again front e =
        let Q = S.threads i e in
        let n = list_for (record_of t i).parameters.policy in
        in_a_list_already front (queued_inside S i e) Q.judged
        (listed_not_idle (record_of t i).parameters.policy Q.listed)
        (ap is_unqueued (queued_membership S i e) ∙ in_a_list (S.cpus n) n)

    not_accepted : {A : Type 0} (o : Out (Step (Unit {0}))) (n : ℕ) (r : CpuRunQueue) (s : List ThreadRecord)
        → o ≡ out (step (refused n) q) t → o ≡ out (step (value tt) r) s → A
    not_accepted o n r s e h =
        let z : out (step (refused n) q) t ≡ out (step (value tt) r) s = sym e ∙ h in
        never cc

    own_judged : (front : Bool) (r : CpuRunQueue) (s : List ThreadRecord)
        → enqueue_call front t q i cpu ≡ out (step (value tt) r) s → i < length t
        → is_bad_record (record_of t i) ≡ false → (record_of t i).parameters.policy ≢ policy.Idle
        → (x : Bool) → is_unqueued (record_of t i).queue_links.membership ≡ x → (y : Bool)
        → eqb (record_of t i).cpu.0 cpu.0 ≡ y → (record_of t i).cpu.0 ≡ cpu.0
    own_judged front r s h l b d true e true g = eqb-true (record_of t i).cpu.0 cpu.0 g
    own_judged front r s h l b d true e false g =
        not_accepted (enqueue_call front t q i cpu) bad_state r s (other_processor front l b d e g) h
    own_judged front r s h l b d false e y g =
        not_accepted (enqueue_call front t q i cpu) already r s (in_a_list_already front l b d e) h

    own_by : (front : Bool) (r : CpuRunQueue) (s : List ThreadRecord)
        → enqueue_call front t q i cpu ≡ out (step (value tt) r) s → Verdict t q i → (record_of t i).cpu.0 ≡ cpu.0
    unfolding enqueue_call
    own_by front r s h (refuses n e) = not_accepted (enqueue_call front t q i cpu) n r s (e _) h
    own_by front r s h (passes l b d) =
        own_judged front r s h l b d (is_unqueued (record_of t i).queue_links.membership) refl
        (eqb (record_of t i).cpu.0 cpu.0) refl

    -- An accepted enqueue names the processor that the thread is assigned to.
    pub enqueue_own : (front : Bool) (r : CpuRunQueue) (s : List ThreadRecord)
        → enqueue_call front t q i cpu ≡ out (step (value tt) r) s → (record_of t i).cpu.0 ≡ cpu.0
    enqueue_own front r s h = own_by front r s h (verdict t q i S.forest.small S.running)

    absent_by : queued i ≡ false → Verdict t q i → (n : ℕ) × (remove_call t q i cpu ≡ out (step (refused n) q) t)
    unfolding remove_call on_answer
    absent_by e (refuses n r) = (n, r _)
    absent_by e (passes l b d) =
        let F = filing (record_of t i).parameters (record_of t i).runtime d in (
          damaged,
          judged_passes t q i F.tree _ S.forest.small S.running l b F.is
              ∙ rw (in_no_tree S i e l F.tree F.is F.low),
        )

    -- A thread that is not queued is not removed, whatever its links and membership say: a refusal, with nothing
    -- changed.
    pub remove_absent : queued i ≡ false → (n : ℕ) × (remove_call t q i cpu ≡ out (step (refused n) q) t)
    remove_absent e = absent_by e (verdict t q i S.forest.small S.running)

    queued_removal : queued i ≡ true → (x : Bool) → eqb (record_of t i).cpu.0 cpu.0 ≡ x
        → Fine S (removing i) (remove_call t q i cpu)
    queued_removal e true c = made (removed S i e cpu (eqb-true (record_of t i).cpu.0 cpu.0 c))
    queued_removal e false c =
        unchanged damaged (removed_elsewhere S i e cpu (eqb-false (record_of t i).cpu.0 cpu.0 c))

    -- A removal on a sound queue never halts either, whatever processor it names.
    pub remove_fine : Fine S (removing i) (remove_call t q i cpu)
    remove_fine = go (queued i) refl
      where
        go : (x : Bool) → queued i ≡ x → Fine S (removing i) (remove_call t q i cpu)
        go true e = queued_removal e (eqb (record_of t i).cpu.0 cpu.0) refl
        go false e = let r = remove_absent e in unchanged r.0 r.1

    left_by_lem : (f : Effect) (o : Out (Step (Unit {0}))) (r : CpuRunQueue) (s : List ThreadRecord) → Fine S f o
        → o ≡ out (step (value tt) r) s → Kept S f r s
    left_by_lem f o r s (unchanged n e) h = not_accepted o n r s e h
    left_by_lem f o r s (made A) h =
        let z : out (step (value tt) A.queue) A.table ≡ out (step (value tt) r) s = sym A.is ∙ h in
        let x : A.queue ≡ r = cc in
        let y : A.table ≡ s = cc in
        subst (λ (u : List ThreadRecord). Kept S f r u) y
        (subst (λ (p : CpuRunQueue). Kept S f p A.table) x A.kept)

    -- Every accepted enqueue leaves a sound queue: this thread stands in the tree of its filing and at the named end of
    -- its list, every other where it stood, and of every other record all but its links is as it was;
    pub enqueue_sound : (front : Bool) (r : CpuRunQueue) (s : List ThreadRecord)
        → PriorityFits (record_of t i).parameters.policy
        → enqueue_call front t q i cpu ≡ out (step (value tt) r) s → Kept S (enqueuing front t i) r s
    enqueue_sound front r s p e =
        left_by_lem (enqueuing front t i) (enqueue_call front t q i cpu) r s (enqueue_fine front p) e

    -- and every accepted removal one in which this thread stands nowhere, and every other where it stood.
    pub remove_sound : (r : CpuRunQueue) (s : List ThreadRecord) → remove_call t q i cpu ≡ out (step (value tt) r) s
        → Kept S (removing i) r s
    remove_sound r s e = left_by_lem (removing i) (remove_call t q i cpu) r s remove_fine e

-- What the places and members of a sound queue say of what one computes from queue and table:
module _ {queued : ℕ → Bool} {q : CpuRunQueue} {t : List ThreadRecord} (S : Sound queued q t) where
  -- `contains` answers Yes for the tree in which a thread of the table stands and No for every other,
  pub tree_tells : (j k : ℕ) → k < tree_count → j < length t
      → contains t (root_of q k) j ≡ choose (eqb (S.place j) k) (Ok true) (Ok false)
  tree_tells j k b l = contains_placed S.forest j k b l

  -- and whoever reads a list from its head along the links finds its members, in their order.
  pub list_tells : (n : ℕ) → n < list_count → threads_of t (list_at q n) ≡ S.lists.members n
  list_tells n b = list_read (S.lists.holds n b)

  -- So an accepted call did this and no more, in what one computes: each tree answers as before, but for the thread of
  -- the call, which is in the one tree named, and in no other;
  module _ {e : Effect} {r : CpuRunQueue} {s : List ThreadRecord} (K : Kept S e r s) where
    pub kept_trees : (j k : ℕ) → k < tree_count → j < length t
        → contains s (root_of r k) j
        ≡ choose (eqb j e.thread) (choose (eqb e.tree k) (Ok true) (Ok false)) (contains t (root_of q k) j)
    unfolding choose placed
    kept_trees j k b l =
        contains_placed K.sound.forest j k b (omega (arith, same_length t s K.besides))
        ∙ rw (K.places j, contains_placed S.forest j k b l) (go (eqb j e.thread))
      where
        go : (x : Bool) → choose {A = Result Bool Damaged} (eqb (choose x e.tree (S.place j)) k) (Ok true) (Ok false)
            ≡ choose x (choose (eqb e.tree k) (Ok true) (Ok false))
            (choose (eqb (S.place j) k) (Ok true) (Ok false))
        go true = refl
        go false = refl

    -- and each list reads as before, but for the one of the thread's policy, where the thread was added or taken out.
    pub kept_lists : (n : ℕ) → n < list_count
        → threads_of s (list_at r n)
        ≡ relisted (list_for (record_of t e.thread).parameters.policy) e.list (λ m. threads_of t (list_at q m)) n
    unfolding relisted
    kept_lists n b = list_read (K.sound.lists.holds n b) ∙ K.members n ∙ rw (list_tells n b)

policy_fits : (tag priority : ℕ) → PriorityFits (policy_from tag priority)
unfolding policy_from if_equal choose
policy_fits tag priority = go (eqb tag 0) (eqb tag 1) (eqb tag 2)
  where
    go : (x y z : Bool) → PriorityFits
        (choose x (policy.Fifo (record { 0 = priority % 256 }))
        (choose y policy.Fair (choose z policy.Budget policy.Idle)))
    go true y z = mod-lt priority (omega arith)
    go false true z = tt
    go false false true = tt
    go false false false = tt

-- In a table that rows stand for, every priority is a byte.
pub rows_fit : (rows : List (List ℕ)) (i : ℕ) → PriorityFits (record_of (table rows) i).parameters.policy
unfolding table record_of decoded parameters_of
rows_fit rows i =
    subst (λ (r : ThreadRecord). PriorityFits r.parameters.policy) (sym (get_or-map decoded rows i []))
    (policy_fits _ _)
