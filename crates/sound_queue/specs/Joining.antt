-- Whether a thread may join its list: not where that has threads of another processor. Such an enqueue is refused with
-- nothing changed, by the check of the list's ends.
use Rattle.std.specs.Prelude.{◌≡◌, Bool, true, false, ◌≢◌, ℕ, zero, suc, ◌<◌, length}
use Rattle.std.proofs.Math.Path.{refl}
use Rattle.std.proofs.Common.{sym, ap, ◌∙◌, subst, arith}
use mathlib.Core.List.{List, [], ◌∷◌}
use Rattle.std.proofs.Math.Dec.{eqb}
use borrow.Author.Tests.{eq-eqb, eqb-true, eqb-false, ne_eqb}
use Rattle.refusal.specs.Answer.{refused, damaged}
use Rattle.refusal.specs.Cases.{never, choose, if_equal}
use Rattle.thread.specs.declared.CpuIndex.{CpuIndex}
use Rattle.thread.specs.declared.QueueMembership.{QueueMembership}
use Rattle.thread.specs.declared.ThreadQueue.{ThreadQueue}
use Rattle.thread.specs.declared.ThreadRecord.{ThreadRecord}
use Rattle.thread.specs.Membership.{on_link, on_membership, is_unqueued, is_ready_real_time, is_ready_fair}
use Rattle.thread.specs.Membership.{same_membership}
use Rattle.rows.specs.Table.{out, record_of}
use Rattle.rows.specs.TableCases.{on_queue_links, on_record}
use Rattle.rows.specs.TableLaws.{record_within}
use Rattle.lists.specs.Checks.{max_length, head_agrees, ends_agree, preflight_insert}
use Rattle.lists.specs.Lists.{on_answer, on_out, push, push_front}
use Rattle.sound_lists.specs.Members.{has}
use Rattle.sound_lists.specs.MembersLaws.{last_some}
use Rattle.sound_lists.specs.Sound.{HoldsList}
use Rattle.queue.specs.RunQueue.{CpuRunQueue}
use Rattle.queue_work.specs.Work.{push_at, insert_work}
use Rattle.queue.specs.Queue.{step, parts_of, worked, is_fifo, is_budget}
use Rattle.sound_queue.specs.Lists.{list_at, membership_at, list_for, row_of, list_count}
use Rattle.sound_queue.specs.Sound.{Sound, queued_of}
use Rattle.sound_queue.specs.PartsLaws.{list_of_lem, assigned_to_lem, total_in_lem}
use Rattle.sound_queue.specs.ListsLaws.{list_counts}
use Rattle.sound_queue.specs.SoundLaws.{row_queued, few}

-- The memberships of one list on two processors are not the same.
other_membership : (c d : CpuIndex) (n : ℕ) → c.0 ≢ d.0
    → same_membership (membership_at c n) (membership_at d n) ≡ false
unfolding same_membership on_membership membership_at is_ready_fair is_ready_real_time if_equal choose
other_membership c d zero h = rw (ne_eqb c.0 d.0 h)
other_membership c d (suc p) h = rw (ne_eqb c.0 d.0 h)

-- The ends of a list that holds threads do not agree with another membership.
ends_differ : (t : List ThreadRecord) (q : ThreadQueue) (k : ℕ) (l : List ℕ) (m other : QueueMembership)
    → HoldsList t q (k ∷ l) m → same_membership m other ≡ false → ends_agree t q other ≡ false
unfolding ends_agree head_agrees on_link on_queue_links if_equal choose
ends_differ t q k l m other H d =
    let y = last_some k l in
    rw (H.head, H.tail, y.1, H.len, ne_eqb (suc (length l)) 0 (λ z. omega arith), H.linked.here, d)

-- So the push is refused, at either end.
push_differs : (front : Bool) (t : List ThreadRecord) (q : ThreadQueue) (i : ℕ) (m : QueueMembership)
    → preflight_insert t q i m ≡ refused damaged → push_at front t q i m ≡ out (refused damaged) t
unfolding push_at push push_front on_answer choose
push_differs true t q i m e = rw e
push_differs false t q i m e = rw e

-- The list of thread i has threads of this processor alone, perhaps none; or it has some, and they are of another.
pub data Joining {queued : ℕ → Bool} {q : CpuRunQueue} {t : List ThreadRecord} (S : Sound queued q t) (cpu : CpuIndex)
    (i : ℕ) : Type 0 where
  ours : ((j : ℕ) → queued j ≡ true
      → list_for (record_of t j).parameters.policy ≡ list_for (record_of t i).parameters.policy
      → (record_of t j).cpu.0 ≡ cpu.0) → Joining S cpu i
  theirs : (k : ℕ) (l : List ℕ) → S.lists.members (list_for (record_of t i).parameters.policy) ≡ k ∷ l
      → (S.cpus (list_for (record_of t i).parameters.policy)).0 ≢ cpu.0 → Joining S cpu i

module _ {queued : ℕ → Bool} {q : CpuRunQueue} {t : List ThreadRecord} (S : Sound queued q t) (cpu : CpuIndex) (i : ℕ)
    (low : list_for (record_of t i).parameters.policy < list_count) where
  abbrev row : ℕ
  row = list_for (record_of t i).parameters.policy

  pub joining : Joining S cpu i
  joining = go (S.lists.members row) refl (eqb (S.cpus row).0 cpu.0) refl
    where
      go : (l : List ℕ) → S.lists.members row ≡ l → (x : Bool) → eqb (S.cpus row).0 cpu.0 ≡ x → Joining S cpu i
      go [] z x c = ours (λ j e f.
          let h : false ≡ true = ap (has j) (sym z) ∙ S.lists.exact j row low
          ∙ eq-eqb (row_of queued t j) row (row_queued queued t j e ∙ f) in
          never cc)
      go (k ∷ l) z true c = ours (λ j e f.
          (S.threads j e).assigned ∙ ap (λ m. (S.cpus m).0) f ∙ eqb-true (S.cpus row).0 cpu.0 c)
      go (k ∷ l) z false c = theirs k l z (eqb-false (S.cpus row).0 cpu.0 c)

  module _ (below : i < length t) (unqueued : is_unqueued (record_of t i).queue_links.membership ≡ true)
      (assigned : (record_of t i).cpu.0 ≡ cpu.0) (k : ℕ) (l : List ℕ) (members : S.lists.members row ≡ k ∷ l)
      (differs : (S.cpus row).0 ≢ cpu.0) where
    not_ours : preflight_insert t (list_at q row) i (membership_at cpu row) ≡ refused damaged
    unfolding preflight_insert on_record choose if_equal
    not_ours =
        rw (
          record_within t i below,
          unqueued,
          assigned_to_lem cpu (record_of t i).cpu row assigned,
          ne_eqb (list_at q row).len max_length
              (λ z. let a = few S (λ j. eqb (row_of queued t j) row) (list_at q row).len (list_counts S.lists row low)
              in omega arith),
          ends_differ t (list_at q row) k l (membership_at (S.cpus row) row) (membership_at cpu row)
              (subst (λ (m : List ℕ). HoldsList t (list_at q row) m (membership_at (S.cpus row) row)) members
              (S.lists.holds row low)) (other_membership (S.cpus row) cpu row differs),
        )

    -- The work of the enqueue then comes to Damaged, with nothing changed.
    pub work_refused : (front : Bool) (tree : ℕ)
        → worked q (membership_at cpu row) tree
        (insert_work front (is_fifo (record_of t i).parameters.policy) (is_budget (record_of t i).parameters.policy) t
        (parts_of q (membership_at cpu row) tree) i (membership_at cpu row))
        ≡ out (step (refused damaged) q) t
    unfolding worked insert_work parts_of on_answer on_out
    work_refused front tree =
        rw (
          total_in_lem (is_fifo (record_of t i).parameters.policy) q.realtime_len _
              (few S (queued_of is_fifo queued t) q.realtime_len S.total) refl,
          list_of_lem q cpu row,
          push_differs front t (list_at q row) i (membership_at cpu row) not_ours,
        )
