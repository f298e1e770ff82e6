-- One move of a change of period on a sound queue: it is accepted, and the queue is sound after it.
use Rattle.std.specs.Prelude.{ℕ, ◌+◌, ◌<◌, ◌≡◌, Bool, ◌≢◌, List, length, Some, Ok}
use Rattle.std.proofs.Math.Path.{refl, sym, ap}
use Rattle.std.proofs.Common.{◌∙◌, subst, arith, get_or-set_other, lt-ltb}
use Rattle.std.proofs.Math.Bool.{true, false}
use Rattle.std.proofs.Math.ListN.{set}
use Rattle.refusal.specs.Cases.{never}
use Rattle.refusal.specs.Answer.{value}
use Rattle.policy.specs.declared.BudgetParameters.{BudgetParameters}
use Rattle.policy.specs.declared.SchedulingPolicy.TheVariants as policy
use Rattle.policy.specs.PolicyCases.{on_policy}
use Rattle.budget.specs.Runtime as budget
use Rattle.algorithms.specs.declared.PolicyRuntime.{PolicyRuntime}
use Rattle.algorithms.specs.declared.PolicyRuntime.TheVariants as runtime
use Rattle.algorithms.specs.Runtime.{epoch_refreshed}
use Rattle.thread.specs.declared.ThreadRecord.{ThreadRecord}
use Rattle.thread.specs.Filing.{role_index, budget_exhausted, budget_ready}
use Rattle.thread.specs.FilingLaws.{role_index_le}
use Rattle.thread.specs.Judgement.{is_bad_record}
use Rattle.thread.specs.Records.{with_runtime}
use Rattle.rows.specs.Table.{out, record_of, changed}
use Rattle.rows.specs.TableCases.{on_record}
use Rattle.rows.specs.TableLaws.{length_changed, record_same, record_other, record_within}
use Rattle.lists.specs.Lists.{on_answer, on_out}
use Rattle.ready_index.specs.Cases.{on_rooted}
use Rattle.ready_index.specs.Index.{insert, remove}
use Rattle.sound_index.specs.TableLaws.{besides_length}
use Rattle.queue.specs.declared.Root.{Root}
use Rattle.queue.specs.RunQueue.{CpuRunQueue, tree_count}
use Rattle.queue.specs.Queue.{empty_root, root_of, is_budget}
use Rattle.renewal.specs.declared.BudgetTrees.{BudgetTrees}
use Rattle.renewal.specs.Leaves.{leaves}
use Rattle.renewal.specs.Renewal.{refresh_runtime, budget_trees, move_one, with_trees}
use Rattle.sound_queue.specs.Forest.{placed}
use Rattle.sound_queue.specs.PlaceLaws.{placed_same, placed_other, same_or_not}
use Rattle.sound_queue.specs.Sound.{Sound, Filed}
use Rattle.sound_queue.specs.SoundLaws.{queued_inside}
use Rattle.sound_queue.specs.Runtimes.{with_time, exhausted}
use Rattle.sound_queue.specs.Moving.{with_roots, Moved, moved}
use Rattle.sound_selection.specs.Claim.{refreshed_to}
use Rattle.sound_selection.specs.RefreshLaws.{Refreshes, plain, budgeted, refreshes, refreshed_by, budget_judged}
use Rattle.sound_selection.specs.RefreshLaws.{refresh_budget}
use Rattle.sound_selection.specs.Changes.{bare_at, Shift, stays, shifts, Standing, in_fifo, in_fair, in_budget}
use Rattle.sound_selection.specs.Changes.{Renewed}
use Rattle.sound_selection.specs.ChangeLaws.{bare_besides, bare_bad, standing}

-- A thread that stands in an exhausted tree is a budget thread of that role.
exhausted_there : (r : ThreadRecord) (role : ℕ) → role < 3 → Standing r (budget_exhausted + role)
    → (r.parameters.policy ≡ policy.Budget) × (role_index r.parameters.role ≡ role)
exhausted_there r role b (in_fifo p e k) = absurd (omega (arith, role_index_le r.parameters.role))
exhausted_there r role b (in_fair e k) = absurd (omega (arith, role_index_le r.parameters.role))
exhausted_there r role b (in_budget e (with_time k)) = absurd (omega (arith, role_index_le r.parameters.role))
exhausted_there r role b (in_budget e (exhausted k)) = (e, omega arith)

-- The move is accepted; what it leaves.
pub record OneMoved {queued : ℕ → Bool} {q : CpuRunQueue} {t : List ThreadRecord}
    (S : Sound queued q t) (now role i moves : ℕ) : Type 0 where
  pub trees : BudgetTrees
  pub queue : CpuRunQueue
  pub table : List ThreadRecord
  pub is : move_one t (budget_trees (root_of q (budget_exhausted + role)) (root_of q (budget_ready + role)) moves) i now
      ≡ out (leaves (value tt) trees) table
  pub indices : queue.indices ≡ with_trees q.indices role trees
  pub renewed : Renewed S now queue table
  pub places : (j : ℕ) → renewed.sound.place j ≡ placed i (budget_ready + role) S.place j

module _ {queued : ℕ → Bool} {q : CpuRunQueue} {t : List ThreadRecord} (S : Sound queued q t)
    (now role i moves : ℕ) (b : role < 3) (at : S.place i ≡ budget_exhausted + role) where
  is_queued : queued i ≡ true
  is_queued = sym (S.stands i) ∙ lt-ltb (S.place i) tree_count (omega arith)

  there : ((record_of t i).parameters.policy ≡ policy.Budget) × (role_index (record_of t i).parameters.role ≡ role)
  there =
      exhausted_there (record_of t i) role b
      (standing (record_of t i) (budget_exhausted + role)
      (subst (Filed (record_of t i)) at (S.threads i is_queued).filed))

  module _ (y : PolicyRuntime) (p : BudgetParameters) (g : (record_of t i).parameters.budget ≡ Some p)
      (k : epoch_refreshed (record_of t i).runtime now (record_of t i).parameters ≡ value y)
      (M : Moved queued q t S.place i (budget_ready + role) y) where
    abbrev between : List ThreadRecord
    between = changed M.out_of i (with_runtime y)

    inside : i < length M.out_of
    inside = omega (arith, queued_inside S i is_queued, besides_length t M.out_of M.uprooted)

    -- The record after its removal from the exhausted tree.
    its_bare : bare_at M.out_of i ≡ bare_at t i
    its_bare = bare_besides t M.out_of i M.uprooted

    its_parameters : (record_of M.out_of i).parameters ≡ (record_of t i).parameters
    unfolding bare_at
    its_parameters = ap (λ (r : ThreadRecord). r.parameters) its_bare

    its_runtime : (record_of M.out_of i).runtime ≡ (record_of t i).runtime
    unfolding bare_at
    its_runtime = ap (λ (r : ThreadRecord). r.runtime) its_bare

    its_judgement : is_bad_record (record_of M.out_of i) ≡ false
    its_judgement =
        sym (bare_bad M.out_of i) ∙ ap is_bad_record its_bare ∙ bare_bad t i ∙ (S.threads i is_queued).judged

    refreshes_there : refresh_runtime M.out_of i now ≡ out (value (with_runtime y (record_of M.out_of i))) between
    unfolding refresh_runtime on_record
    refreshes_there =
        rw (record_within M.out_of i inside)
        (refresh_budget now (record_of M.out_of i) its_judgement M.out_of i p y (rw its_parameters g)
        (rw (its_parameters, its_runtime) k))

    removes : remove t (root_of q (budget_exhausted + role)) i ≡ out (Ok M.rest) M.out_of
    removes = subst (λ n. remove t (root_of q n) i ≡ out (Ok M.rest) M.out_of) at M.removes

    inserts : insert between (root_of q (budget_ready + role)) i ≡ out (Ok M.top) M.table
    inserts =
        subst (λ (x : Root). insert between x.root i ≡ out (Ok M.top) M.table)
        (get_or-set_other q.indices (S.place i) (budget_ready + role) (record { root = M.rest }) empty_root
        (λ z. omega arith))
        M.inserts

    abbrev trees : BudgetTrees
    trees = budget_trees M.rest M.top moves

    moves_it : move_one t (budget_trees (root_of q (budget_exhausted + role))
        (root_of q (budget_ready + role)) moves) i now
        ≡ out (leaves (value tt) trees) M.table
    unfolding move_one on_rooted on_out on_answer
    moves_it = rw (removes, refreshes_there, inserts)

    place_of : (j : ℕ) → j ≢ i → M.sound.place j ≡ S.place j
    place_of j d = M.places j ∙ placed_other i (budget_ready + role) S.place j d

    bare_other : (j : ℕ) → j ≢ i → bare_at M.table j ≡ bare_at t j
    unfolding bare_at
    bare_other j d =
        bare_besides between M.table j M.planted
        ∙ rw (record_other M.out_of i (with_runtime y) j d) (bare_besides t M.out_of j M.uprooted)

    bare_own : bare_at M.table i ≡ refreshed_to now (bare_at t i)
    unfolding bare_at
    bare_own =
        bare_besides between M.table i M.planted
        ∙ rw (record_same M.out_of i (with_runtime y) inside) (ap (with_runtime y) its_bare)
        ∙ sym (refreshed_by now (bare_at t i) y k)

    shift : (j : ℕ) → Shift now (S.place j) (bare_at t j) (M.sound.place j) (bare_at M.table j)
    shift j = same_or_not j i
        (λ z. subst (λ n. Shift now (S.place n) (bare_at t n) (M.sound.place n) (bare_at M.table n)) (sym z)
        (shifts (omega arith) (omega arith)
        (omega (arith, M.places i, placed_same i (budget_ready + role) S.place)) bare_own))
        (λ z. stays (place_of j z) (bare_other j z))

    one_moved_by : OneMoved S now role i moves
    unfolding with_trees
    one_moved_by = record {
      trees = trees;
      queue =
          with_roots q (set (set q.indices (S.place i) (record { root = M.rest })) (budget_ready + role)
          (record { root = M.top }));
      table = M.table;
      is = moves_it;
      indices = ap
          (λ n. set (set q.indices n (record { root = M.rest })) (budget_ready + role)
          (record { root = M.top })) at;
      renewed = record {
        sound = M.sound;
        beside = record { realtime = refl; total = refl; fair = refl; epoch = refl; budgets = refl; halted = refl };
        len =
            besides_length between M.table M.planted ∙ length_changed M.out_of i (with_runtime y)
            ∙ besides_length t M.out_of M.uprooted;
        shift = shift;
        others = M.others;
      };
      places = M.places;
    }

  one_moved_of : Refreshes now (record_of t i) → OneMoved S now role i moves
  unfolding is_budget on_policy
  one_moved_of (plain p n e) = let z : true ≡ false = (rw there.0 at p) in never cc
  one_moved_of (budgeted x p e f g h k) =
      let y = runtime.Budget (budget.refreshed x now p) in
      one_moved_by y p g k
      (moved S i (budget_ready + role) y is_queued e
      (budget_judged now (record_of t i) (S.threads i is_queued).judged (budget.refreshed x now p) p e g h)
      (with_time (omega (arith, there.1))))

  -- A thread of an exhausted tree is moved.
  pub one_moved : OneMoved S now role i moves
  one_moved = one_moved_of (refreshes now (record_of t i) (S.threads i is_queued).judged)
