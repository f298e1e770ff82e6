-- What the calls do with the row of a judged record is what the definitions say of its record.
use Rattle.std.specs.Prelude.{ℕ, ◌%◌, ◌≡◌, Bool, ltb, eqb, Option, Some, None, Ok}
use Rattle.std.proofs.Math.Path.{refl, sym, ap}
use Rattle.std.proofs.Common.{◌∙◌, eq-eqb, eqb-true}
use Rattle.std.proofs.Math.Bool.{true, false}
use mathlib.Core.List.{List, []}
use Rattle.std.proofs.Math.ListN.{set}
use Rattle.std.proofs.Math.Seq.{set-get_or}
use Rattle.refusal.specs.Answer.{Answer, value, refused, already, back_in_time}
use Rattle.refusal.specs.Cases.{never, choose, given, if_less, if_equal, and_then}
use Rattle.time.specs.Time.{checked_add, earliest_of}
use Rattle.policy.specs.declared.SchedulingPolicy.{SchedulingPolicy}
use Rattle.policy.specs.declared.SchedulingPolicy.TheVariants as policy
use Rattle.policy.specs.declared.SchedulingParameters.{SchedulingParameters}
use Rattle.policy.specs.Budget.{sound_budget}
use Rattle.policy.specs.PolicyCases.{on_policy, on_budget}
use Rattle.budget.specs.declared.BudgetRuntime.{BudgetRuntime}
use Rattle.budget.specs.Runtime as budget
use Rattle.algorithms.specs.declared.FairRuntime.{FairRuntime}
use Rattle.algorithms.specs.declared.Wide.{Wide}
use Rattle.algorithms.specs.declared.PolicyRuntime.{PolicyRuntime}
use Rattle.algorithms.specs.declared.PolicyRuntime.TheVariants as runtime
use Rattle.algorithms.specs.Runtime.{on_runtime, of_budget, of_budget_deadline, zero_pass, epoch_refreshed, accounted}
use Rattle.algorithms.specs.Runtime.{turn_finished, next_deadline}
use Rattle.thread.specs.declared.ThreadRecord.{ThreadRecord}
use Rattle.thread.specs.declared.QueueMembership.TheVariants as membership
use Rattle.thread.specs.Judgement.{is_bad_record, has_budget}
use Rattle.thread.specs.Membership.{is_unqueued, on_membership}
use Rattle.thread.specs.Records.{with_runtime}
use Rattle.arbitration.specs.declared.Candidate.{Candidate}
use Rattle.arbitration.specs.declared.CpuWindow.{CpuWindow}
use Rattle.arbitration.specs.declared.DispatchMode.{DispatchMode}
use Rattle.arbitration.specs.declared.Demand.{Demand}
use Rattle.arbitration.specs.Window as window
use Rattle.arbitration.specs.Calls.{With, with, judged, account_call, next_deadline_call}
use Rattle.window_config.specs.Config.{sound_config}
use Rattle.codec.specs.Codec.{word, policy_from, budget_from, runtime_from, membership_from, parameters_of, runtime_of}
use Rattle.codec.specs.Codec.{queue_links_of, decoded, ready_turn_word, membership_tag, membership_first}
use Rattle.codec.specs.Codec.{membership_second}
use Rattle.rows.specs.Table.{Out, out, after, record_of, changed, record_at, set_runtime, set_turn}
use Rattle.rows.specs.TableCases.{on_record}
use Rattle.rows.specs.TableLaws.{record_within, record_got_within, after_set_runtime}
use Rattle.lists.specs.Lists.{on_answer, on_out}
use Rattle.queue.specs.RowJudgement.{budget_runtime, budget_parameters, budget_runs}
use Rattle.decisions.specs.declared.Contention.{Contention}
use Rattle.decisions.specs.declared.Taken.{Taken}
use Rattle.decisions.specs.declared.Turns.{Turns}
use Rattle.decisions.specs.Turns.{turn_for}
use Rattle.decisions.specs.Switch.{spent}
use Rattle.decisions.specs.OwnDeadline.{on_key_mode, borrows, budget_expiry, turn_competition, turn_deadline}
use Rattle.decisions.specs.OwnDeadline.{without_peer}
use Rattle.decisions.specs.OwnDeadline.{budget_deadline, own_deadline}
use Rattle.runtime.specs.Judging.{on_with, stored}
use Rattle.runtime.specs.Prepare.{Counted, counted, prepare_record, stored_preparation, prepared}
use Rattle.runtime.specs.Account.{account_record, settled, pass_of, has_time, candidate_of, refreshing, candidate}
use Rattle.runtime.specs.Deadline.{due_with, due_without, due_at, armed}
use Rattle.runtime.specs.Judged.{Good, fifo, fair, budgeted, idle, good_record, fresh_of, refreshes, charged_of}
use Rattle.runtime.specs.Judged.{accounts, finished_of, finishes}
use Rattle.runtime.specs.Rows.{fair_runtime, pass_row, spent_row, slice_end, refreshed_end, budget_end, own_end}
use Rattle.runtime.specs.Rows.{earlier_of, due_row, keyless_due, budget_stored, finished_row, charged_row}
use Rattle.runtime.specs.Rows.{refreshed_row, candidate_row, prepared_row, row_prepared, accounted_row}
use Rattle.policy_words.specs.PolicyWords.{policy_tag, fifo_priority, budget_tag, runtime_tag, runtime_first}
use Rattle.policy_words.specs.PolicyWords.{runtime_second}
use Rattle.policy_words.specs.PolicyWords.{runtime_third, runtime_fourth}
use Rattle.policy.specs.declared.BudgetParameters.{BudgetParameters}

-- What a judged row is, by the tag of its runtime: a sound budget with its runtime, or neither.
abbrev is_plain : PolicyRuntime → Bool
is_plain runtime.Fifo = true
is_plain (runtime.Fair f) = true
is_plain (runtime.Budget b) = false
is_plain runtime.Idle = true

data RowOf (w : List ℕ) : Type 0 where
  with_budget : word w runtime_tag ≡ 2 → (decoded w).runtime ≡ runtime.Budget (budget_runtime w)
      → (decoded w).parameters.budget ≡ Some (budget_parameters w) → sound_budget (budget_parameters w) ≡ true
      → (decoded w).parameters.policy ≡ policy.Budget → RowOf w
  without : eqb (word w runtime_tag) 2 ≡ false → is_plain (decoded w).runtime ≡ true → RowOf w

has_by : (p : SchedulingPolicy) (q : Option BudgetParameters) (r : PolicyRuntime) → Good p q r → is_plain r ≡ false
    → has_budget q ≡ true
unfolding has_budget on_budget
has_by p q r (fifo x) e = never cc
has_by p q r (fair f) e = never cc
has_by p q r (budgeted s b h) e = refl
has_by p q r idle e = never cc

policy_by : (p : SchedulingPolicy) (q : Option BudgetParameters) (r : PolicyRuntime) → Good p q r → is_plain r ≡ false
    → p ≡ policy.Budget
policy_by p q r (fifo x) e = never cc
policy_by p q r (fair f) e = never cc
policy_by p q r (budgeted s b h) e = refl
policy_by p q r idle e = never cc

sound_by : (p : SchedulingPolicy) (q : Option BudgetParameters) (r : PolicyRuntime) → Good p q r
    → on_budget q true sound_budget ≡ true
unfolding on_budget
sound_by p q r (fifo x) = refl
sound_by p q r (fair f) = refl
sound_by p q r (budgeted s b h) = h
sound_by p q r idle = refl

module _ (w : List ℕ) where
  plain_runs : eqb (word w runtime_tag) 2 ≡ false → is_plain (decoded w).runtime ≡ true
  unfolding decoded runtime_of runtime_from if_equal choose given
  plain_runs e = rw e (go (eqb (word w runtime_tag) 0) (eqb (word w runtime_tag) 1) _)
    where
      go : (a b : Bool) (f : FairRuntime)
          → is_plain (choose a runtime.Fifo (choose b (runtime.Fair f) runtime.Idle)) ≡ true
      go true b f = refl
      go false true f = refl
      go false false f = refl

  budget_has : has_budget (decoded w).parameters.budget ≡ true
      → (decoded w).parameters.budget ≡ Some (budget_parameters w)
  unfolding decoded parameters_of budget_from if_equal choose has_budget on_budget
  budget_has h = go (eqb (word w budget_tag) 0) h
    where
      go : (a : Bool) → on_budget (choose a None (Some (budget_parameters w))) false (λ q. true) ≡ true
          → choose a None (Some (budget_parameters w)) ≡ Some (budget_parameters w)
      go true h = never cc
      go false h = refl

  policy_word : (decoded w).parameters.policy ≡ policy_from (word w policy_tag) (word w fifo_priority)
  unfolding decoded parameters_of
  policy_word = refl

  turn_word : (decoded w).ready_turn ≡ word w ready_turn_word
  unfolding decoded
  turn_word = refl

  parameters_words : (decoded w).parameters ≡ parameters_of w
  unfolding decoded
  parameters_words = refl

  row_of : is_bad_record (decoded w) ≡ false → RowOf w
  unfolding on_budget
  row_of e = go (eqb (word w runtime_tag) 2) refl
    where
      sound : {q : Option BudgetParameters} → q ≡ Some (budget_parameters w) → on_budget q true sound_budget ≡ true
          → sound_budget (budget_parameters w) ≡ true
      sound has s = sym (ap (λ q. on_budget q true sound_budget) has) ∙ s

      go : (x : Bool) → eqb (word w runtime_tag) 2 ≡ x → RowOf w
      go true tag =
          let runs : (decoded w).runtime ≡ runtime.Budget (budget_runtime w) = budget_runs w
          (eqb-true (word w runtime_tag) 2 tag) in
          let has : (decoded w).parameters.budget ≡ Some (budget_parameters w) = budget_has
          (has_by _ _ _ (good_record (decoded w) e) (ap is_plain runs)) in
          with_budget (eqb-true (word w runtime_tag) 2 tag) runs has
          (sound has (sound_by _ _ _ (good_record (decoded w) e)))
          (policy_by _ _ _ (good_record (decoded w) e) (ap is_plain runs))
      go false tag = without tag (plain_runs tag)

-- The budget of a judged row is sound.
pub judged_sound : (w : List ℕ) → is_bad_record (decoded w) ≡ false → word w runtime_tag ≡ 2
    → sound_budget (budget_parameters w) ≡ true
judged_sound w good tag = go (row_of w good)
  where
    go : RowOf w → sound_budget (budget_parameters w) ≡ true
    go (with_budget t runs has s p) = s
    go (without other plain) =
        let clash : true ≡ false = sym (eq-eqb (word w runtime_tag) 2 tag) ∙ other in
        never cc

-- What is stored of a record whose runtime does not change.
module _ (t : List ThreadRecord) (id : ℕ) {r : ThreadRecord} (got : record_at t id ≡ Ok r) where
  the_record : record_of t id ≡ r
  unfolding on_record
  the_record = ap (λ x. on_record x r (λ s. s)) (sym (record_within t id (record_got_within t id got)) ∙ got)

  unchanged : after (set_runtime t id r.runtime) ≡ t
  unfolding changed record_of
  unchanged =
      after_set_runtime t id r.runtime
      ∙ ap (λ s. set t id s) (ap (with_runtime r.runtime) the_record ∙ sym the_record) ∙ set-get_or t id (decoded [])

plain_fresh : (x : PolicyRuntime) (q : Option BudgetParameters) (now : ℕ) → is_plain x ≡ true → fresh_of x q now ≡ x
plain_fresh runtime.Fifo q now e = refl
plain_fresh (runtime.Fair f) q now e = refl
plain_fresh (runtime.Budget b) q now e = never cc
plain_fresh runtime.Idle q now e = refl

plain_charged : (x : PolicyRuntime) (q : Option BudgetParameters) (start end : ℕ) → is_plain x ≡ true
    → charged_of x q start end ≡ x
plain_charged runtime.Fifo q start end e = refl
plain_charged (runtime.Fair f) q start end e = refl
plain_charged (runtime.Budget b) q start end e = never cc
plain_charged runtime.Idle q start end e = refl

plain_finished : (x : PolicyRuntime) (q : Option BudgetParameters) → is_plain x ≡ true → finished_of x q ≡ x
plain_finished runtime.Fifo q e = refl
plain_finished (runtime.Fair f) q e = refl
plain_finished (runtime.Budget b) q e = never cc
plain_finished runtime.Idle q e = refl

plain_time : (x : PolicyRuntime) → is_plain x ≡ true → has_time x ≡ true
unfolding has_time on_runtime
plain_time runtime.Fifo e = refl
plain_time (runtime.Fair f) e = refl
plain_time (runtime.Budget b) e = never cc
plain_time runtime.Idle e = refl

-- A refresh leaves the pass.
pass_kept : (x : PolicyRuntime) (q : Option BudgetParameters) (now : ℕ) → pass_of (fresh_of x q now) ≡ pass_of x
unfolding pass_of on_runtime
pass_kept runtime.Fifo q now = refl
pass_kept (runtime.Fair f) q now = refl
pass_kept (runtime.Budget b) None now = refl
pass_kept (runtime.Budget b) (Some p) now = refl
pass_kept runtime.Idle q now = refl

module _ (t : List ThreadRecord) (id : ℕ) (w : List ℕ) (got : record_at t id ≡ Ok (decoded w))
    (sound : is_bad_record (decoded w) ≡ false) where
  stays : {x : PolicyRuntime} → x ≡ (decoded w).runtime → t ≡ after (set_runtime t id x)
  stays e = sym (ap (λ x. after (set_runtime t id x)) e ∙ unchanged t id got)

  row_finished : finished_row t id w
      ≡ after (set_runtime t id (finished_of (decoded w).runtime (decoded w).parameters.budget))
  unfolding finished_row if_equal choose given budget_stored on_answer budget.turn_finished budget.judged
  row_finished = go (row_of w sound)
    where
      go : RowOf w → finished_row t id w
          ≡ after (set_runtime t id (finished_of (decoded w).runtime (decoded w).parameters.budget))
      go (with_budget tag runs has s p) = rw (runs, has, tag, s)
      go (without tag plain) = rw tag (stays (plain_finished _ _ plain))

  row_charged : (start end : ℕ) → charged_row t id w start end
      ≡ choose (ltb end start) t (after
      (set_runtime t id (charged_of (decoded w).runtime (decoded w).parameters.budget start end)))
  unfolding charged_row if_equal if_less choose given budget_stored on_answer budget.accounted_interval budget.judged
  row_charged start end = go (row_of w sound)
    where
      both : (x : Bool) (b : BudgetRuntime)
          → on_answer {B = List ThreadRecord} (choose x (refused back_in_time) (value b)) (λ n. t)
          (λ b. after (set_runtime t id (runtime.Budget b))) ≡ choose x t (after (set_runtime t id (runtime.Budget b)))
      both true b = refl
      both false b = refl

      same : (x : Bool) {y : PolicyRuntime} → y ≡ (decoded w).runtime → t ≡ choose x t (after (set_runtime t id y))
      same true e = refl
      same false e = stays e

      go : RowOf w → charged_row t id w start end
          ≡ choose (ltb end start) t (after
          (set_runtime t id (charged_of (decoded w).runtime (decoded w).parameters.budget start end)))
      go (with_budget tag runs has s p) = rw (runs, has, tag, s) (both (ltb end start) _)
      go (without tag plain) = rw tag (same (ltb end start) (plain_charged _ _ start end plain))

  row_refreshed_lem : (now : ℕ) → refreshed_row t id w now
      ≡ out (has_time (fresh_of (decoded w).runtime (decoded w).parameters.budget now))
      (after (set_runtime t id (fresh_of (decoded w).runtime (decoded w).parameters.budget now)))
  unfolding refreshed_row if_equal choose given on_answer budget.refreshed_judged budget.judged has_time on_runtime
  row_refreshed_lem now = go (row_of w sound)
    where
      both : (x : Bool) (t₁ : List ThreadRecord) → choose x (out false t₁) (out true t₁) ≡ out (choose x false true) t₁
      both true t₁ = refl
      both false t₁ = refl

      go : RowOf w → refreshed_row t id w now
          ≡ out (has_time (fresh_of (decoded w).runtime (decoded w).parameters.budget now))
          (after (set_runtime t id (fresh_of (decoded w).runtime (decoded w).parameters.budget now)))
      go (with_budget tag runs has s p) =
          rw (runs, has, tag, s) (both (eqb
          (budget.refreshed (budget_runtime w) now (budget_parameters w)).remaining_ns 0) _)
      go (without tag plain) =
          let same : fresh_of (decoded w).runtime (decoded w).parameters.budget now
          ≡ (decoded w).runtime = plain_fresh _ _ now plain in
          rw (tag, same, plain_time _ plain, unchanged t id got)

  -- The end of a turn.
  pub finished_so : out (value tt) (finished_row t id w)
      ≡ stored t id (turn_finished (decoded w).runtime (decoded w).parameters)
  unfolding stored
  finished_so = rw (finishes (decoded w) sound) (ap (out (value tt)) row_finished)

  -- The candidate, and the table with its budget refreshed.
  pub candidate_so : (now : ℕ) {a : Bool} {t₁ : List ThreadRecord} → out a t₁ ≡ refreshed_row t id w now
      → out (value (Some (candidate_row w a))) t₁ ≡ candidate t id true (refreshing (decoded w) now)
  unfolding candidate choose refreshing and_then given candidate_of candidate_row on_out decoded parameters_of
  candidate_so now {a} {t₁} e =
      rw (refreshes (decoded w) now sound, pass_kept (decoded w).runtime (decoded w).parameters.budget now)
      (both (e ∙ row_refreshed_lem now))
    where
      both : {b : Bool} {t₂ : List ThreadRecord} → out a t₁ ≡ out b t₂
          → out (value (Some (candidate_row w a))) t₁ ≡ out (value (Some (candidate_row w b))) t₂
      both f = ap (λ x. on_out x (λ c s. out (value (Some (candidate_row w c))) s)) f

  -- A thread that is not Running.
  pub idle_so : (now : ℕ) → out (value None) t ≡ candidate t id false (refreshing (decoded w) now)
  unfolding candidate choose refreshing and_then given
  idle_so now = rw (refreshes (decoded w) now sound)

  unqueued : is_unqueued (decoded w).queue_links.membership ≡ eqb (word w membership_tag) 0
  unfolding decoded queue_links_of membership_from if_equal choose is_unqueued on_membership
  unqueued =
      go (eqb (word w membership_tag) 0) (eqb (word w membership_tag) 1) (eqb (word w membership_tag) 2)
      (eqb (word w membership_tag) 3)
    where
      go : (a b c d : Bool)
          → on_membership (choose a membership.None
          (choose b (membership.ReadyRealTime (record { 0 = word w membership_first % 256 })
          (word w membership_second % 256))
          (choose c (membership.ReadyFair (record { 0 = word w membership_first % 256 }))
          (choose d (membership.Waiting (word w membership_first)) membership.Terminated))))
          true (λ d q. false) (λ d. false) (λ q. false) false
          ≡ a
      go true b c d = refl
      go false true c d = refl
      go false false true d = refl
      go false false false true = refl
      go false false false false = refl

  row_prepared_lem : (now turn : ℕ) → prepared_row t id w now turn
      ≡ given (after (set_runtime t id (fresh_of (decoded w).runtime (decoded w).parameters.budget now)))
      (λ t₁. after (set_turn t₁ id turn))
  unfolding prepared_row on_out given
  row_prepared_lem now turn = rw (row_refreshed_lem now)

  -- Preparing.
  pub prepared_so : (front : Bool) (now : ℕ) (c : Turns)
      → row_prepared t id w front now c ≡ prepared t id c (prepare_record (decoded w) front now c)
  unfolding row_prepared prepare_record if_equal choose on_answer and_then prepared stored_preparation
  prepared_so front now c =
      rw (unqueued, refreshes (decoded w) now sound, policy_word w, turn_word w)
      (go (eqb (word w membership_tag) 0)
      (turn_for front (policy_from (word w policy_tag) (word w fifo_priority)) (word w ready_turn_word) c))
    where
      fresh : PolicyRuntime
      fresh = fresh_of (decoded w).runtime (decoded w).parameters.budget now

      go : (x : Bool) (a : Answer Taken)
          → choose x (on_answer a (λ n. out (counted (refused n) c) t)
          (λ taken. out (counted (value tt) taken.turns) (prepared_row t id w now taken.turn)))
          (out (counted (refused already) c) t)
          ≡ prepared t id c (choose x (and_then a
          (λ taken. value (record { runtime = fresh; turn = taken.turn; turns = taken.turns }))) (refused already))
      go true (value taken) = ap (out (counted (value tt) taken.turns)) (row_prepared_lem now taken.turn)
      go true (refused n) = refl
      go false a = refl

  -- Accounting, under a sound window.
  pub accounted_so : (window : CpuWindow) (m : DispatchMode) (start end : ℕ) → sound_config window.config ≡ true
      → accounted_row t id w window m start end ≡ settled t id window (account_record (decoded w) window m start end)
  unfolding accounted_row account_record account_call judged choose if_less given decoded settled and_then on_with
  accounted_so window m start end s =
      rw (s, accounts (decoded w) start end sound, row_charged start end) (go (ltb end start) _ _)
    where
      go : (x : Bool) (y : PolicyRuntime) (after_window : CpuWindow)
          → out (choose x (with (refused back_in_time) window) (with (value (tt {0})) after_window))
          (choose x t (after (set_runtime t id y)))
          ≡ settled t id window (and_then (choose x (refused back_in_time) (value y))
          (λ x₁. on_with (choose x (with (refused back_in_time) window) (with (value (tt {0})) after_window)) refused
          (λ u charged. value (record { runtime = x₁; window = charged }))))
      go true y z = refl
      go false y z = refl

-- By the tag of a row's runtime.
module _ {A : Type 0} (w : List ℕ) (other : A) (slice : FairRuntime → A) (budgets : BudgetRuntime → A) where
  by_tag : on_runtime (decoded w).runtime other slice budgets other
      ≡ if_equal (word w runtime_tag) 1 (slice (fair_runtime w))
      (if_equal (word w runtime_tag) 2 (budgets (budget_runtime w)) other)
  unfolding decoded runtime_of runtime_from on_runtime if_equal choose given
  by_tag = fair_first (eqb (word w runtime_tag) 1) refl
    where
      neither : (x : Bool) → on_runtime (choose x runtime.Fifo runtime.Idle) other slice budgets other ≡ other
      neither true = refl
      neither false = refl

      then_budget : (x : Bool) → eqb (word w runtime_tag) 1 ≡ false → eqb (word w runtime_tag) 2 ≡ x
          → on_runtime (runtime_from (word w runtime_tag) (word w runtime_first) (word w runtime_second)
          (word w runtime_third) (word w runtime_fourth)) other slice budgets other
          ≡ choose x (budgets (budget_runtime w)) other
      then_budget true f e = rw (eqb-true (word w runtime_tag) 2 e)
      then_budget false f e = rw (f, e) (neither (eqb (word w runtime_tag) 0))

      fair_first : (x : Bool) → eqb (word w runtime_tag) 1 ≡ x
          → on_runtime (runtime_from (word w runtime_tag) (word w runtime_first) (word w runtime_second)
          (word w runtime_third) (word w runtime_fourth)) other slice budgets other
          ≡ choose x (slice (fair_runtime w)) (choose (eqb (word w runtime_tag) 2) (budgets (budget_runtime w)) other)
      fair_first true e = rw (eqb-true (word w runtime_tag) 1 e)
      fair_first false e = then_budget (eqb (word w runtime_tag) 2) e refl

either_way : {A : Type 0} (x : Bool) (a : A) → choose x a a ≡ a
unfolding choose
either_way true a = refl
either_way false a = refl

module _ (w : List ℕ) where
  pub pass_by_tag : {r : Wide} → r ≡ pass_row w → r ≡ pass_of (decoded w).runtime
  unfolding pass_of pass_row if_equal
  pass_by_tag e =
      e ∙ sym (by_tag w zero_pass (λ f. f.pass) (λ b. zero_pass)
      ∙ rw (either_way (eqb (word w runtime_tag) 2) zero_pass))

  pub spent_by_tag : {r : Bool} → r ≡ spent_row w → r ≡ spent (decoded w).runtime
  unfolding spent spent_row
  spent_by_tag e =
      e ∙ sym (by_tag w false (λ f. if_equal f.remaining_ns 0 true false)
      (λ b. if_equal b.burst_remaining_ns 0 true false))

-- The own deadline of a record without a budget.
abbrev slice_of : PolicyRuntime → ℕ → Bool → Bool → Option ℕ
slice_of r now competition ready =
    on_runtime r None (λ f. choose competition (choose ready (checked_add now f.remaining_ns) None)
    None) (λ b. None) None

slice_row : (w : List ℕ) (now : ℕ) (competition ready : Bool)
    → slice_end w now competition ready ≡ slice_of (decoded w).runtime now competition ready
unfolding slice_end if_equal
slice_row w now competition ready =
    sym (by_tag w None (λ f. choose competition
    (choose ready (checked_add now f.remaining_ns) None) None) (λ b. None)
    ∙ rw (either_way {A = Option ℕ} (eqb (word w runtime_tag) 2) None))

module _ (now : ℕ) (m : DispatchMode) (x : Contention) where
  plain_own : (p : SchedulingPolicy) (q : Option BudgetParameters) (r : PolicyRuntime) → Good p q r → is_plain r ≡ true
      → (all : SchedulingParameters) → all.policy ≡ p
      → own_deadline now r all m x ≡ value (r, slice_of r now x.competition x.ready)
  unfolding own_deadline on_runtime turn_deadline given next_deadline turn_competition on_policy choose
  plain_own p q r (fifo y) e all h = go (turn_competition x all.policy)
    where
      go : (c : Bool) → choose {A = Answer (PolicyRuntime × Option ℕ)} c (value (runtime.Fifo, None))
          (value (runtime.Fifo, None)) ≡ value (runtime.Fifo, None)
      go true = refl
      go false = refl
  plain_own p q r (fair f) e all h = rw h (go x.competition x.ready)
    where
      go : (c d : Bool)
          → choose {A = Answer (PolicyRuntime × Option ℕ)} (choose c d false)
          (value (runtime.Fair f, checked_add now f.remaining_ns)) (value (runtime.Fair f, None))
          ≡ value (runtime.Fair f, choose c (choose d (checked_add now f.remaining_ns) None) None)
      go true true = refl
      go true false = refl
      go false d = refl
  plain_own p q r (budgeted s b h) e all o = never cc
  plain_own p q r idle e all h = go (turn_competition x all.policy)
    where
      go : (c : Bool) → choose {A = Answer (PolicyRuntime × Option ℕ)} c (value (runtime.Idle, None))
          (value (runtime.Idle, None)) ≡ value (runtime.Idle, None)
      go true = refl
      go false = refl

-- A sound window answers.
next_answers : (w : CpuWindow) (now : ℕ) (m : DispatchMode) (competition : Bool) (d : Demand)
    → sound_config w.config ≡ true
    → next_deadline_call w now m competition d
    ≡ with (value (choose competition (window.next_deadline (window.refreshed w now) now m d) None))
    (window.refreshed w now)
unfolding next_deadline_call judged choose given
next_answers w now m true d s = rw s
next_answers w now m false d s = rw s

-- A thread's own deadline with its runtime as it is left, and the same of its row.
data OwnOf (t : List ThreadRecord) (id : ℕ) (a : Answer (PolicyRuntime × Option ℕ)) (o : Out (Option ℕ)) : Type 0 where
  own_of : (y : PolicyRuntime) (d : Option ℕ) → a ≡ value (y, d) → o ≡ out d (after (set_runtime t id y))
      → OwnOf t id a o

module _ (t : List ThreadRecord) (id : ℕ) (w : List ℕ) (got : record_at t id ≡ Ok (decoded w))
    (sound : is_bad_record (decoded w) ≡ false) (now : ℕ) (m : DispatchMode) (x : Contention) where
  own_row : OwnOf t id (own_deadline now (decoded w).runtime (decoded w).parameters m x) (own_end t id w now m x)
  unfolding own_end budget_end refreshed_end if_equal choose given on_answer own_deadline on_runtime budget_deadline
      on_budget
      without_peer turn_deadline turn_competition on_policy next_deadline of_budget_deadline budget.deadline_judged
      budget.judged
  own_row = go (row_of w sound)
    where
      by_peer : (c peer : Bool) → x.competition ≡ c → x.budget_peer ≡ peer → word w runtime_tag ≡ 2
          → (decoded w).runtime ≡ runtime.Budget (budget_runtime w)
          → (decoded w).parameters.budget ≡ Some (budget_parameters w)
          → sound_budget (budget_parameters w) ≡ true
          → (decoded w).parameters.policy ≡ policy.Budget
          → OwnOf t id (own_deadline now (decoded w).runtime (decoded w).parameters m x) (own_end t id w now m x)
      by_peer false peer e f tag runs has s p =
          own_of (runtime.Budget (budget_runtime w)) None (rw (runs, has, e))
          (rw (tag, e) (ap (out None) (stays t id w got sound (sym runs))))
      by_peer true false e f tag runs has s p =
          own_of (runtime.Budget (budget_runtime w)) (budget_expiry now (word w runtime_third) (budget_parameters w))
          (rw (runs, has, e, f)) (rw (tag, e, f)
          (ap (out (budget_expiry now (word w runtime_third) (budget_parameters w)))
          (stays t id w got sound (sym runs))))
      by_peer true true e f tag runs has s p =
          own_of (runtime.Budget (budget.refreshed (budget_runtime w) now (budget_parameters w)))
          (budget.deadline_after (budget.refreshed (budget_runtime w) now (budget_parameters w)) now
          (budget_parameters w)
          (borrows m))
          (rw (runs, has, e, f, p, s)) (rw (tag, e, f, s))

      go : RowOf w → OwnOf t id (own_deadline now (decoded w).runtime (decoded w).parameters m x)
          (own_end t id w now m x)
      go (with_budget tag runs has s p) = by_peer x.competition x.budget_peer refl refl tag runs has s p
      go (without tag plain) =
          own_of (decoded w).runtime (slice_of (decoded w).runtime now x.competition x.ready)
          (plain_own now m x _ _ _ (good_record (decoded w) sound) plain (decoded w).parameters refl)
          (rw (tag, unchanged t id got) (ap (λ d. out d t) (slice_row w now x.competition x.ready)))

  -- The choice of deadline with a key, under a sound window.
  pub due_so : (window : CpuWindow) → sound_config window.config ≡ true
      → due_row t id w now m window x ≡ armed t id window (due_with now (decoded w) m window x)
  unfolding due_row due_with armed and_then on_with on_out earlier_of given
  due_so window s = go own_row
    where
      go : OwnOf t id (own_deadline now (decoded w).runtime (decoded w).parameters m x) (own_end t id w now m x)
          → due_row t id w now m window x ≡ armed t id window (due_with now (decoded w) m window x)
      go (own_of y d e l) = rw (e, l, next_answers window now m x.competition x.demand s)

module _ (t : List ThreadRecord) (id : ℕ) (w : List ℕ) (got : record_at t id ≡ Ok (decoded w))
    (sound : is_bad_record (decoded w) ≡ false) (now : ℕ) (x : Contention) where
  -- Without a key nothing is stored.
  pub keyless_so : (window : CpuWindow)
      → out (keyless_due now window x.competition) t ≡ armed t id window (due_at now (decoded w) None window x)
  unfolding due_at on_key_mode due_without armed given keyless_due choose
  keyless_so window = go x.competition
    where
      go : (c : Bool)
          → out (choose c (with (value (Some now)) window) (with (value None) window)) t
          ≡ armed t id window (value (choose c
          (record { runtime = (decoded w).runtime; window = window; deadline = Some now })
          (record { runtime = (decoded w).runtime; window = window; deadline = None })))
      go true = ap (out (with (value (Some now)) window)) (stays t id w got sound refl)
      go false = ap (out (with (value None) window)) (stays t id w got sound refl)
