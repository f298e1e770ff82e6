-- A queued budget thread taken out of its tree, given another runtime and put into the other tree of its role: what a
-- change of period does to each exhausted thread.
use Rattle.std.specs.Prelude.{◌≡◌, Bool, ◌≢◌, List, ℕ, ◌<◌, length, get_or, set, ltb, Option, Ok, Err}
use Rattle.refusal.specs.Answer.{damage}
use Rattle.std.proofs.Math.Path.{refl, sym, ap}
use Rattle.std.proofs.Common.{◌∙◌, arith, lt-ltb}
use Rattle.std.proofs.Math.Bool.{true, false}
use Rattle.refusal.specs.Cases.{never}
use Rattle.policy.specs.declared.SchedulingPolicy.TheVariants as policy
use Rattle.algorithms.specs.declared.PolicyRuntime.{PolicyRuntime}
use Rattle.thread.specs.declared.ThreadRecord.{ThreadRecord}
use Rattle.thread.specs.Records.{with_runtime}
use Rattle.thread.specs.Judgement.{is_bad_record}
use Rattle.thread.specs.Filing.{role_index}
use Rattle.thread.specs.FilingLaws.{role_index_le}
use Rattle.rows.specs.Table.{out, record_of, record_at, changed, queue_links_at}
use Rattle.rows.specs.TableLaws.{length_changed, record_same, record_other, reading_other, after_set_runtime}
use Rattle.rows.specs.TableLaws.{links_set_runtime, key_set_runtime_other, queue_links_set_runtime}
use Rattle.ready_index.specs.Index.{insert, remove}
use Rattle.sound_index.specs.Holds.{besides_links}
use Rattle.sound_index.specs.TableLaws.{besides_length}
use Rattle.queue.specs.declared.Root.{Root}
use Rattle.queue.specs.RunQueue.{CpuRunQueue, tree_count}
use Rattle.queue.specs.Queue.{empty_root, root_of}
use Rattle.sound_queue.specs.PlaceLaws.{placed_same, placed_other, same_or_not}
use Rattle.sound_queue.specs.Forest.{Forest, placed, Replanted}
use Rattle.sound_queue.specs.ForestLaws.{forest_still, planted, uprooted}
use Rattle.sound_queue.specs.Sound.{Queued, Sound, without_links}
use Rattle.sound_queue.specs.LinksLaws.{besides_queue_links, both_stores, same_parameters, same_runtime}
use Rattle.sound_queue.specs.LinksLaws.{same_cpu, queued_still}
use Rattle.sound_queue.specs.SoundLaws.{queued_placed, not_queued_placed, queued_inside}
use Rattle.sound_queue.specs.Runtimes.{trees_sound, BudgetTree, with_time, exhausted, file_in}

-- The queue with these roots.
abbrev pub with_roots : CpuRunQueue → List Root → CpuRunQueue
with_roots q roots =
    record {
      realtime = q.realtime;
      realtime_len = q.realtime_len;
      fair = q.fair;
      indices = roots;
      budget_epoch = q.budget_epoch;
      budget_threads = q.budget_threads;
      halted = q.halted;
    }

-- The removal is accepted, then the insertion; the queue is sound, with the same threads queued, the thread in its new
-- tree and every other where it stood. Of every record only tree links changed, of the thread also the runtime, and a
-- record that is not queued did not change at all.
pub record Moved (queued : ℕ → Bool) (q : CpuRunQueue) (t : List ThreadRecord) (place : ℕ → ℕ)
    (i to : ℕ) (x : PolicyRuntime) : Type 0 where
  pub out_of : List ThreadRecord
  pub rest : Option ℕ
  pub removes : remove t (root_of q (place i)) i ≡ out (Ok rest) out_of
  pub table : List ThreadRecord
  pub top : Option ℕ
  pub inserts : insert (changed out_of i (with_runtime x))
      (get_or (set q.indices (place i) (record { root = rest })) to empty_root).root i ≡ out (Ok top) table
  pub sound : Sound queued (with_roots q
      (set (set q.indices (place i) (record { root = rest })) to (record { root = top }))) table
  pub places : (j : ℕ) → sound.place j ≡ placed i to place j
  pub uprooted : besides_links out_of ≡ besides_links t
  pub planted : besides_links table ≡ besides_links (changed out_of i (with_runtime x))
  pub others : (j : ℕ) → queued j ≡ false → record_at table j ≡ record_at t j

module _ {queued : ℕ → Bool} {q : CpuRunQueue} {t : List ThreadRecord} (S : Sound queued q t)
    (i to : ℕ) (x : PolicyRuntime)
    (e : queued i ≡ true) (b : (record_of t i).parameters.policy ≡ policy.Budget)
    (g : is_bad_record (with_runtime x (record_of t i)) ≡ false)
    (into : BudgetTree (role_index (record_of t i).parameters.role) to) where
  low : to < tree_count
  low = go into
    where
      go : BudgetTree (role_index (record_of t i).parameters.role) to → to < tree_count
      go (with_time z) = omega (arith, role_index_le (record_of t i).parameters.role)
      go (exhausted z) = omega (arith, role_index_le (record_of t i).parameters.role)

  abbrev Taken : Type 0
  Taken =
      Replanted q.indices t (S.place i) i S.place (placed i tree_count S.place)
      (remove t (root_of q (S.place i)) i)

  is_taken : Taken
  is_taken = uprooted S.forest (S.place i) (queued_placed S i e) i refl

  module _ (R : Taken) where
    abbrev refreshed : List ThreadRecord
    refreshed = changed R.table i (with_runtime x)

    abbrev roots : List Root
    roots = set q.indices (S.place i) (record { root = R.link })

    alike : without_links R.table ≡ without_links t
    alike = both_stores t t R.table refl R.besides

    inside : i < length R.table
    inside = omega (arith, besides_length t R.table R.besides, queued_inside S i e)

    not_i : (j : ℕ) → placed i tree_count S.place j < tree_count → j ≢ i
    not_i j m z =
        let w : placed i tree_count S.place j ≡ tree_count = ap (placed i tree_count S.place) z
        ∙ placed_same i tree_count S.place in omega arith

    refreshed_forest : Forest roots refreshed (placed i tree_count S.place)
    refreshed_forest =
        forest_still refreshed (omega (arith, R.forest.small, length_changed R.table i (with_runtime x)))
        (λ j m. (
          rw (after_set_runtime R.table i x) at (links_set_runtime R.table i x j),
          rw (after_set_runtime R.table i x) at (key_set_runtime_other R.table i x j (not_i j m)),
        )) R.forest

    abbrev Put : Type 0
    Put = Replanted roots refreshed to i (placed i tree_count S.place) (placed i to (placed i tree_count S.place))
        (insert refreshed (get_or roots to empty_root).root i)

    is_put : Put
    is_put = planted refreshed_forest to low i (omega (arith, placed_same i tree_count S.place))
        (omega (arith, inside, length_changed R.table i (with_runtime x)))

    module _ (P : Put) where
      again : without_links P.table ≡ without_links refreshed
      again = both_stores refreshed refreshed P.table refl P.besides

      refreshed_same : record_of refreshed i ≡ with_runtime x (record_of R.table i)
      refreshed_same = record_same R.table i (with_runtime x) inside

      refreshed_other : (j : ℕ) → j ≢ i → record_of refreshed j ≡ record_of R.table j
      refreshed_other j d = record_other R.table i (with_runtime x) j d

      parameters : (j : ℕ) → (record_of P.table j).parameters ≡ (record_of t j).parameters
      parameters j = same_parameters refreshed P.table again j ∙ same_or_not j i
          (λ z. rw (z, refreshed_same) (same_parameters t R.table alike i))
          (λ z. rw (refreshed_other j z) (same_parameters t R.table alike j))

      links : (j : ℕ) → queue_links_at P.table j ≡ queue_links_at t j
      links j =
          besides_queue_links refreshed P.table j P.besides
          ∙ (rw (after_set_runtime R.table i x) at (queue_links_set_runtime R.table i x j))
          ∙ besides_queue_links t R.table j R.besides

      place : (j : ℕ) → j ≢ i → placed i to (placed i tree_count S.place) j ≡ S.place j
      place j d = placed_other i to (placed i tree_count S.place) j d ∙ placed_other i tree_count S.place j d

      stands : (j : ℕ) → ltb (placed i to (placed i tree_count S.place) j) tree_count ≡ queued j
      stands j = same_or_not j i
          (λ z. rw (z, placed_same i to (placed i tree_count S.place)) (lt-ltb to tree_count low ∙ sym e))
          (λ z. rw (place j z) (S.stands j))

      moved_record : Queued S.cpus (record_of P.table i) to
      moved_record = queued_still S.cpus (with_runtime x (record_of t i)) (record_of P.table i) to (parameters i)
          (same_runtime refreshed P.table again i ∙ ap (λ (r : ThreadRecord). r.runtime) refreshed_same)
          (same_cpu refreshed P.table again i ∙ ap (λ (r : ThreadRecord). r.cpu) refreshed_same
          ∙ same_cpu t R.table alike i)
          (record {
            judged = g;
            assigned = (S.threads i e).assigned;
            listed = (S.threads i e).listed;
            filed = file_in (with_runtime x (record_of t i)) to b into;
          })

      other_record : (j : ℕ) → j ≢ i → queued j ≡ true → Queued S.cpus (record_of P.table j) (S.place j)
      other_record j d h = queued_still S.cpus (record_of t j) (record_of P.table j) (S.place j) (parameters j)
          (same_runtime refreshed P.table again j ∙ ap (λ (r : ThreadRecord). r.runtime) (refreshed_other j d)
          ∙ same_runtime t R.table alike j)
          (same_cpu refreshed P.table again j ∙ ap (λ (r : ThreadRecord). r.cpu) (refreshed_other j d)
          ∙ same_cpu t R.table alike j)
          (S.threads j h)

      threads : (j : ℕ) → queued j ≡ true
          → Queued S.cpus (record_of P.table j) (placed i to (placed i tree_count S.place) j)
      threads j h = same_or_not j i
          (λ z. rw (z, placed_same i to (placed i tree_count S.place)) moved_record)
          (λ z. rw (place j z) (other_record j z h))

      other_place : (j : ℕ) → placed i to (placed i tree_count S.place) j ≡ placed i to S.place j
      other_place j = same_or_not j i
          (λ z. rw (z, placed_same i to (placed i tree_count S.place), placed_same i to S.place))
          (λ z. place j z ∙ sym (placed_other i to S.place j z))

      not_queued : (j : ℕ) → queued j ≡ false → record_at P.table j ≡ record_at t j
      unfolding record_at
      not_queued j h =
          let d : j ≢ i = λ z. let w : true ≡ false = sym e ∙ ap queued (sym z) ∙ h in never cc in
          P.others j (omega (arith, placed_other i tree_count S.place j d, not_queued_placed S j h)) d
          ∙ reading_other R.table i (with_runtime x) (λ (r : ThreadRecord). Ok r) (Err damage) j d
          ∙ R.others j (not_queued_placed S j h) d

      moved_by : Moved queued q t S.place i to x
      unfolding trees_sound
      moved_by = record {
        out_of = R.table;
        rest = R.link;
        removes = R.is;
        table = P.table;
        top = P.link;
        inserts = P.is;
        sound = trees_sound S P.table
            (besides_length refreshed P.table P.besides ∙ length_changed R.table i (with_runtime x)
            ∙ besides_length t R.table R.besides) parameters links
            (with_roots q (set roots to (record { root = P.link }))) (placed i to (placed i tree_count S.place)) refl
            refl refl refl refl P.forest stands threads;
        places = other_place;
        uprooted = R.besides;
        planted = P.besides;
        others = not_queued;
      }

  -- A queued budget thread moves to either tree of its role, with any runtime that its record is not bad with.
  pub moved : Moved queued q t S.place i to x
  moved = let R = is_taken in moved_by R (is_put R)
