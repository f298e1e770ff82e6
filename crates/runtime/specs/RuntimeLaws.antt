-- Laws by which the functions meet the definitions, one for each way through a call: r is what a call gave, x what its
-- contract says of it.
use Rattle.std.specs.Prelude.{ℕ, zero, suc, ◌<◌, ◌≤◌, ◌≡◌, refl, Bool, true, false, not, List, [], eqb, length, get_or}
use Rattle.std.specs.Prelude.{Option, Some, None, Result, Ok, Err}
use Rattle.std.specs.Prelude.{set}
use Rattle.std.proofs.Common.{arith, ◌∙◌}
use Rattle.std.proofs.Math.Path.{sym, ap}
use borrow.Author.Tests.{eq-eqb, ne_eqb, not-true, not-false}
use Rattle.refusal.specs.Answer.{Answer, value, refused, number_of, no_thread, bad_config, bad_table, bad_record}
use Rattle.refusal.specs.Answer.{by_number, or_damaged}
use Rattle.refusal.specs.Cases.{choose, given, if_less, if_equal, and_then}
use Rattle.refusal.specs.declared.Refusal.{Refusal}
use Rattle.time.specs.Time.{earliest_of}
use Rattle.policy.specs.declared.BudgetParameters.{BudgetParameters}
use Rattle.policy.specs.Budget.{sound_budget}
use Rattle.policy.specs.declared.SchedulingParameters.{SchedulingParameters}
use Rattle.policy.specs.declared.SchedulingPolicy.{SchedulingPolicy}
use Rattle.budget.specs.declared.BudgetRuntime.{BudgetRuntime}
use Rattle.budget.specs.Runtime as budget
use Rattle.algorithms.specs.declared.Wide.{Wide}
use Rattle.algorithms.specs.declared.PolicyRuntime.TheVariants as runtime
use Rattle.arbitration.specs.declared.Candidate.{Candidate}
use Rattle.arbitration.specs.declared.CpuWindow.{CpuWindow}
use Rattle.arbitration.specs.declared.DispatchMode.{DispatchMode}
use Rattle.arbitration.specs.declared.WindowStep.{WindowStep}
use Rattle.arbitration.specs.declared.WindowDeadline.{WindowDeadline}
use Rattle.arbitration.specs.Answers.{window_step, window_deadline}
use Rattle.arbitration.specs.Calls.{With, with, account_call, next_deadline_call}
use Rattle.window_config.specs.Config.{sound_config}
use Rattle.thread.specs.declared.ThreadRecord.{ThreadRecord}
use Rattle.thread.specs.Judgement.{is_bad_record}
use Rattle.thread.specs.Records.{with_runtime}
use Rattle.policy_words.specs.ByWords.{by_words}
use Rattle.policy_words.specs.PolicyWords.{row_words, policy_tag, fifo_priority, band_word, role_tag, weight_word}
use Rattle.policy_words.specs.PolicyWords.{quantum_word, backend_tag, budget_tag, budget_word, budget_period}
use Rattle.policy_words.specs.PolicyWords.{budget_burst}
use Rattle.policy_words.specs.PolicyWords.{runtime_tag, runtime_first, runtime_second, runtime_third, runtime_fourth}
use Rattle.window_words.specs.WindowWords as words
use Rattle.codec.specs.Codec.{word, policy_from, epoch_from, runtime_from, parameters_of, runtime_of, links_of}
use Rattle.codec.specs.Codec.{queue_links_of}
use Rattle.codec.specs.Codec.{decoded}
use Rattle.rows.specs.Table.{Out, out, after, table, record_at, set_runtime, set_turn}
use Rattle.rows.specs.TableCases.{on_record}
use Rattle.rows.specs.Asked.{answering}
use Rattle.rows.specs.RowTableLaws.{record_inside, record_outside, set_runtime_inside}
use Rattle.lists.specs.Lists.{on_answer, on_out}
use Rattle.lists.specs.ListsLaws.{left_by_lem, answered}
use Rattle.queue.specs.Queue.{max_records}
use Rattle.queue.specs.PlanLaws.{too_many, not_too_many}
use Rattle.queue.specs.RowJudgement.{kind_from, bad_row, budget_runtime, budget_parameters, judged_by_tags}
use Rattle.decisions.specs.declared.Contention.{Contention}
use Rattle.decisions.specs.declared.Taken.{Taken}
use Rattle.decisions.specs.declared.Turns.{Turns}
use Rattle.decisions.specs.OwnDeadline.{on_key_mode, borrows, budget_expiry}
use Rattle.decisions.specs.Switch.{spent}
use Rattle.decisions.specs.Turns.{turn_for}
use Rattle.runtime.specs.Judging.{judged_at, judged, judged_with, stored}
use Rattle.runtime.specs.Prepare.{Counted, counted, preparation, prepared, prepare_enqueue}
use Rattle.runtime.specs.Account.{accounting, settled, account_current, finishing, finish_turn, pass_of, refreshing}
use Rattle.runtime.specs.Account.{refreshing_at, candidate, candidate_stored, current_candidate, expired}
use Rattle.runtime.specs.Deadline.{due_at, due_of, armed, refresh_deadline}
use Rattle.runtime.specs.Rows.{bad_budget, whole_burst, budget_stored, finished_row, charged_row, refreshed_row}
use Rattle.runtime.specs.Rows.{candidate_row, prepared_row, row_prepared, accounted_row, account_at, candidate_at}
use Rattle.runtime.specs.Rows.{own_end, earlier_of, due_row, keyless_due, deadline_at}
use Rattle.runtime.specs.RowLaws.{judged_sound, finished_so, candidate_so, idle_so, prepared_so, accounted_so}
use Rattle.runtime.specs.RowLaws.{due_so, keyless_so, pass_by_tag, spent_by_tag}
use Rattle.refusal.specs.declared.Damaged.{Damaged}

-- The judgement of a record by its row.
module _ (rows : List (List ℕ)) (i : ℕ) where
  row_got : i < length rows → record_at (table rows) i ≡ Ok (decoded (get_or rows i []))
  row_got h = sym (record_inside rows i h refl)

  none_at : length rows ≤ i → judged_at (table rows) i ≡ refused no_thread
  unfolding judged_at on_record
  none_at h = rw (sym (record_outside rows i h))

  bad_at : {b : Bool} → i < length rows → b ≡ is_bad_record (decoded (get_or rows i [])) → b ≡ true
      → judged_at (table rows) i ≡ refused bad_record
  unfolding judged_at on_record choose
  bad_at h e m = rw (row_got h, sym e ∙ m)

  good_at : {b : Bool} → i < length rows → b ≡ is_bad_record (decoded (get_or rows i [])) → b ≡ false
      → judged_at (table rows) i ≡ value (decoded (get_or rows i []))
  unfolding judged_at on_record choose
  good_at h e m = rw (row_got h, sym e ∙ m)

  many : max_records < length rows → judged (table rows) i ≡ refused bad_table
  unfolding judged
  many p = sym (too_many (refused bad_table) (judged_at (table rows) i) rows p refl)

  few : length rows ≤ max_records → judged (table rows) i ≡ judged_at (table rows) i
  unfolding judged
  few p = sym (not_too_many (refused bad_table) (judged_at (table rows) i) rows p refl)

  module _ (w : CpuWindow) where
    many_with : max_records < length rows → judged_with (table rows) i w ≡ refused bad_table
    unfolding judged_with
    many_with p =
        sym (too_many (refused bad_table)
        (choose (sound_config w.config) (judged_at (table rows) i) (refused bad_config)) rows p refl)

    bad_with : {b : Bool} → length rows ≤ max_records → b ≡ sound_config w.config → not b ≡ true
        → judged_with (table rows) i w ≡ refused bad_config
    unfolding judged_with choose
    bad_with {b} p e m =
        sym (not_too_many (refused bad_table)
        (choose (sound_config w.config) (judged_at (table rows) i) (refused bad_config)) rows p refl)
        ∙ rw (sym e ∙ not-true b m)

    few_with : {b : Bool} → length rows ≤ max_records → b ≡ sound_config w.config → not b ≡ false
        → judged_with (table rows) i w ≡ judged_at (table rows) i
    unfolding judged_with choose
    few_with {b} p e m =
        sym (not_too_many (refused bad_table)
        (choose (sound_config w.config) (judged_at (table rows) i) (refused bad_config)) rows p refl)
        ∙ rw (sym e ∙ not-false b m)

-- A row of two equal tags below 2 and no budget.
tag_kind : (n : ℕ) → n < 2 → kind_from n ≡ n
unfolding kind_from if_equal choose
tag_kind zero h = refl
tag_kind (suc zero) h = refl
tag_kind (suc (suc n)) h = absurd (omega arith)

pub good_by_tags : (w : List ℕ) → word w runtime_tag ≡ word w policy_tag → word w runtime_tag < 2
    → word w budget_tag ≡ 0
    → false ≡ is_bad_record (decoded w)
unfolding bad_row given if_equal choose
good_by_tags w e l n =
    judged_by_tags w
    (rw (
      sym e,
      tag_kind (word w runtime_tag) l,
      eq-eqb (word w runtime_tag) (word w runtime_tag) refl,
      ne_eqb (word w runtime_tag) 2 (λ q. absurd (omega arith)),
      eq-eqb (word w budget_tag) 0 n,
    ))

-- A row whose runtime is a budget's: bad with another policy, else by its budget.
not_two : (n : ℕ) → (n ≡ 2 → ⊥) → eqb 2 (kind_from n) ≡ false
unfolding kind_from if_equal choose
not_two n h = rw (ne_eqb n 2 h) (go (eqb n 0) (eqb n 1))
  where
    go : (a b : Bool) → eqb 2 (choose a 0 (choose b 1 3)) ≡ false
    go true b = refl
    go false true = refl
    go false false = refl

module _ (w : List ℕ) (e : word w runtime_tag ≡ 2) where
  pub bad_by_policy : (word w policy_tag ≡ 2 → ⊥) → true ≡ is_bad_record (decoded w)
  unfolding bad_row given if_equal choose kind_from
  bad_by_policy h = judged_by_tags w (rw (e, not_two (word w policy_tag) h))

  pub bad_by_budget : {r : Bool} → word w policy_tag ≡ 2 → r ≡ bad_budget w → r ≡ is_bad_record (decoded w)
  unfolding bad_row given if_equal choose kind_from bad_budget
  bad_by_budget f h = judged_by_tags w (rw (e, f) h)

pub ruleset bad_rows = (good_by_tags, bad_by_policy, bad_by_budget)

module _ {b : Bool} {p : BudgetParameters} (w : List ℕ) (e : p ≡ budget_parameters w) (s : b ≡ sound_budget p) where
  pub budget_sound : b ≡ true → false ≡ choose (sound_budget (budget_parameters w)) false true
  unfolding choose
  budget_sound h = rw (sym (sym h ∙ s ∙ ap sound_budget e))

  pub budget_unsound : b ≡ false → true ≡ choose (sound_budget (budget_parameters w)) false true
  unfolding choose
  budget_unsound h = rw (sym (sym h ∙ s ∙ ap sound_budget e))

pub ruleset sound_rows = (budget_sound, budget_unsound)

-- A record that was judged.
pub good_row : {b x : Bool} → b ≡ x → b ≡ false → x ≡ false
good_row e m = sym e ∙ m

pub sound_config_lem : {b x : Bool} → b ≡ x → not b ≡ false → x ≡ true
sound_config_lem {b} e m = sym e ∙ not-false b m

-- The end of a turn.
module _ {y : Out (Answer (Unit {0}))} (rows : List (List ℕ)) (i : ℕ) where
  pub finish_many : max_records < length rows → y ≡ out (refused bad_table) (table rows)
      → y ≡ finish_turn (table rows) i
  unfolding finish_turn finishing stored and_then
  finish_many p h = rw (many rows i p) h

  module _ (p : length rows ≤ max_records) where
    pub finish_none : length rows ≤ i → y ≡ out (refused no_thread) (table rows) → y ≡ finish_turn (table rows) i
    unfolding finish_turn finishing stored and_then
    finish_none q h = rw (few rows i p, none_at rows i q) h

    pub finish_bad : {b : Bool} → i < length rows → b ≡ is_bad_record (decoded (get_or rows i [])) → b ≡ true
        → y ≡ out (refused bad_record) (table rows) → y ≡ finish_turn (table rows) i
    unfolding finish_turn finishing stored and_then
    finish_bad q e m h = rw (few rows i p, bad_at rows i q e m) h

    pub finish_on : {b : Bool} {t : List ThreadRecord} → i < length rows
        → b ≡ is_bad_record (decoded (get_or rows i []))
        → b ≡ false
        → t ≡ finished_row (table rows) i (get_or rows i []) → y ≡ out (value tt) t → y ≡ finish_turn (table rows) i
    unfolding finish_turn finishing and_then
    finish_on q e m f h =
        rw (few rows i p, good_at rows i q e m)
        (h ∙ ap (out (value tt)) f ∙ finished_so (table rows) i (get_or rows i []) (row_got rows i q) (sym e ∙ m))

-- Whether a turn is spent.
module _ {y : Answer Bool} (rows : List (List ℕ)) (i : ℕ) where
  pub expired_many : max_records < length rows → y ≡ refused bad_table → y ≡ expired (table rows) i
  unfolding expired and_then
  expired_many p h = rw (many rows i p) h

  module _ (p : length rows ≤ max_records) where
    pub expired_none : length rows ≤ i → y ≡ refused no_thread → y ≡ expired (table rows) i
    unfolding expired and_then
    expired_none q h = rw (few rows i p, none_at rows i q) h

    pub expired_bad : {b : Bool} → i < length rows → b ≡ is_bad_record (decoded (get_or rows i [])) → b ≡ true
        → y ≡ refused bad_record → y ≡ expired (table rows) i
    unfolding expired and_then
    expired_bad q e m h = rw (few rows i p, bad_at rows i q e m) h

    pub expired_on : {b r : Bool} → i < length rows → b ≡ is_bad_record (decoded (get_or rows i [])) → b ≡ false
        → r ≡ spent (decoded (get_or rows i [])).runtime → y ≡ value r → y ≡ expired (table rows) i
    unfolding expired and_then given
    expired_on q e m f h = rw (few rows i p, good_at rows i q e m) (h ∙ ap value f)

-- Preparing.
module _ {y : Out Counted} (rows : List (List ℕ)) (i : ℕ) (front : Bool) (now : ℕ) (c : Turns) where
  pub prepare_many : max_records < length rows → y ≡ out (counted (refused bad_table) c) (table rows)
      → y ≡ prepare_enqueue (table rows) i front now c
  unfolding prepare_enqueue preparation prepared and_then
  prepare_many p h = rw (many rows i p) h

  module _ (p : length rows ≤ max_records) where
    pub prepare_none : length rows ≤ i → y ≡ out (counted (refused no_thread) c) (table rows)
        → y ≡ prepare_enqueue (table rows) i front now c
    unfolding prepare_enqueue preparation prepared and_then
    prepare_none q h = rw (few rows i p, none_at rows i q) h

    pub prepare_bad : {b : Bool} → i < length rows → b ≡ is_bad_record (decoded (get_or rows i [])) → b ≡ true
        → y ≡ out (counted (refused bad_record) c) (table rows)
        → y ≡ prepare_enqueue (table rows) i front now c
    unfolding prepare_enqueue preparation prepared and_then
    prepare_bad q e m h = rw (few rows i p, bad_at rows i q e m) h

    pub prepare_on : {b : Bool} → i < length rows → b ≡ is_bad_record (decoded (get_or rows i [])) → b ≡ false
        → y ≡ row_prepared (table rows) i (get_or rows i []) front now c
        → y ≡ prepare_enqueue (table rows) i front now c
    unfolding prepare_enqueue preparation and_then
    prepare_on q e m h =
        rw (few rows i p, good_at rows i q e m)
        (h ∙ prepared_so (table rows) i (get_or rows i []) (row_got rows i q) (sym e ∙ m) front now c)

-- The current thread, stored over what the words stood for.
module _ {y : Out (Answer (Unit {0}) × Candidate)} (before : Candidate) (rows : List (List ℕ)) (i : ℕ) (running : Bool)
    (now : ℕ) where
  pub candidate_many : max_records < length rows → y ≡ out (refused bad_table, before) (table rows)
      → y ≡ candidate_stored before (current_candidate (table rows) i running now)
  unfolding current_candidate refreshing_at candidate and_then candidate_stored
  candidate_many p h = rw (many rows i p) h

  pub candidate_few : length rows ≤ max_records → y ≡ candidate_stored before (candidate_at (table rows) i running now)
      → y ≡ candidate_stored before (current_candidate (table rows) i running now)
  unfolding current_candidate refreshing_at candidate_at
  candidate_few p h = rw (few rows i p) h

  pub candidate_none : length rows ≤ i → y ≡ out (refused no_thread, before) (table rows)
      → y ≡ candidate_stored before (candidate_at (table rows) i running now)
  unfolding candidate_at candidate and_then candidate_stored
  candidate_none q h = rw (none_at rows i q) h

  module _ {b : Bool} (q : i < length rows) (e : b ≡ is_bad_record (decoded (get_or rows i []))) where
    pub candidate_bad : b ≡ true → y ≡ out (refused bad_record, before) (table rows)
        → y ≡ candidate_stored before (candidate_at (table rows) i running now)
    unfolding candidate_at candidate and_then candidate_stored
    candidate_bad m h = rw (bad_at rows i q e m) h

    pub candidate_idle : b ≡ false → not running ≡ true → y ≡ out (value tt, before) (table rows)
        → y ≡ candidate_stored before (candidate_at (table rows) i running now)
    unfolding candidate_at and_then candidate_stored
    candidate_idle m n h =
        rw (good_at rows i q e m, not-true running n)
        (h ∙ ap (candidate_stored before)
        (idle_so (table rows) i (get_or rows i []) (row_got rows i q) (sym e ∙ m) now))

    pub candidate_on : {a : Bool} {t : List ThreadRecord} {c : Candidate} → b ≡ false → not running ≡ false
        → out a t ≡ refreshed_row (table rows) i (get_or rows i []) now
        → c ≡ candidate_row (get_or rows i []) a
        → y ≡ out (value tt, c) t
        → y ≡ candidate_stored before (candidate_at (table rows) i running now)
    unfolding candidate_at and_then candidate_stored
    candidate_on {a} {t} m n f g h =
        rw (good_at rows i q e m, not-false running n)
        (h
        ∙ ap (λ x. out (value tt, x) t) g
        ∙ ap (candidate_stored before)
        (candidate_so (table rows) i (get_or rows i []) (row_got rows i q) (sym e ∙ m) now f))

-- Accounting.
module _ {y : Out (With (Unit {0}))} (rows : List (List ℕ)) (i : ℕ) (w : CpuWindow) (m : DispatchMode)
    (start end : ℕ) where
  pub account_many : max_records < length rows → y ≡ out (with (refused bad_table) w) (table rows)
      → y ≡ account_current (table rows) i w m start end
  unfolding account_current accounting settled and_then
  account_many p h = rw (many_with rows i w p) h

  pub account_config : {b : Bool} → length rows ≤ max_records → b ≡ sound_config w.config → not b ≡ true
      → y ≡ out (with (refused bad_config) w) (table rows) → y ≡ account_current (table rows) i w m start end
  unfolding account_current accounting settled and_then
  account_config p e n h = rw (bad_with rows i w p e n) h

  pub account_few : {b : Bool} → length rows ≤ max_records → b ≡ sound_config w.config → not b ≡ false
      → y ≡ account_at (table rows) i w m start end → y ≡ account_current (table rows) i w m start end
  unfolding account_current accounting account_at
  account_few p e n h = rw (few_with rows i w p e n) h

  pub account_none : length rows ≤ i → y ≡ out (with (refused no_thread) w) (table rows)
      → y ≡ account_at (table rows) i w m start end
  unfolding account_at settled and_then
  account_none q h = rw (none_at rows i q) h

  pub account_bad : {b : Bool} → i < length rows → b ≡ is_bad_record (decoded (get_or rows i [])) → b ≡ true
      → y ≡ out (with (refused bad_record) w) (table rows) → y ≡ account_at (table rows) i w m start end
  unfolding account_at settled and_then
  account_bad q e n h = rw (bad_at rows i q e n) h

  pub account_on : {b : Bool} → sound_config w.config ≡ true → i < length rows
      → b ≡ is_bad_record (decoded (get_or rows i [])) → b ≡ false
      → y ≡ accounted_row (table rows) i (get_or rows i []) w m start end → y ≡ account_at (table rows) i w m start end
  unfolding account_at and_then
  account_on s q e n h =
      rw (good_at rows i q e n) (h ∙ accounted_so (table rows) i (get_or rows i []) (row_got rows i q)
      (sym e ∙ n) w m start end s)

-- The choice of deadline.
module _ {y : Out (With (Option ℕ))} (rows : List (List ℕ)) (i now : ℕ) (k : Option DispatchMode) (w : CpuWindow)
    (x : Contention) where
  pub deadline_many : max_records < length rows → y ≡ out (with (refused bad_table) w) (table rows)
      → y ≡ refresh_deadline (table rows) i now k w x
  unfolding refresh_deadline due_of armed and_then
  deadline_many p h = rw (many_with rows i w p) h

  pub deadline_config : {b : Bool} → length rows ≤ max_records → b ≡ sound_config w.config → not b ≡ true
      → y ≡ out (with (refused bad_config) w) (table rows) → y ≡ refresh_deadline (table rows) i now k w x
  unfolding refresh_deadline due_of armed and_then
  deadline_config p e n h = rw (bad_with rows i w p e n) h

  pub deadline_few : {b : Bool} → length rows ≤ max_records → b ≡ sound_config w.config → not b ≡ false
      → y ≡ deadline_at (table rows) i now k w x → y ≡ refresh_deadline (table rows) i now k w x
  unfolding refresh_deadline due_of deadline_at
  deadline_few p e n h = rw (few_with rows i w p e n) h

  pub deadline_none : length rows ≤ i → y ≡ out (with (refused no_thread) w) (table rows)
      → y ≡ deadline_at (table rows) i now k w x
  unfolding deadline_at armed and_then
  deadline_none q h = rw (none_at rows i q) h

  module _ {b : Bool} (q : i < length rows) (e : b ≡ is_bad_record (decoded (get_or rows i []))) where
    pub deadline_bad : b ≡ true → y ≡ out (with (refused bad_record) w) (table rows)
        → y ≡ deadline_at (table rows) i now k w x
    unfolding deadline_at armed and_then
    deadline_bad n h = rw (bad_at rows i q e n) h

    pub deadline_keyless : {s : With (Option ℕ)} → b ≡ false → k ≡ None → s ≡ keyless_due now w x.competition
        → y ≡ out s (table rows) → y ≡ deadline_at (table rows) i now k w x
    unfolding deadline_at and_then
    deadline_keyless n o f h =
        rw (good_at rows i q e n, o) (h ∙ ap (λ z. out z (table rows)) f
        ∙ keyless_so (table rows) i (get_or rows i []) (row_got rows i q) (sym e ∙ n) now x w)

    pub deadline_keyed : {m : DispatchMode} → sound_config w.config ≡ true → b ≡ false → k ≡ Some m
        → y ≡ due_row (table rows) i (get_or rows i []) now m w x → y ≡ deadline_at (table rows) i now k w x
    unfolding deadline_at and_then due_at on_key_mode
    deadline_keyed {m} s n o h =
        rw (good_at rows i q e n, o) (h
        ∙ due_so (table rows) i (get_or rows i []) (row_got rows i q) (sym e ∙ n) now m x w s)

pub ruleset ways = (
  finish_many,
  finish_none,
  finish_bad,
  finish_on,
  expired_many,
  expired_none,
  expired_bad,
  expired_on,
  prepare_many,
  prepare_none,
  prepare_bad,
  prepare_on,
  candidate_many,
  candidate_few,
  candidate_none,
  candidate_bad,
  candidate_idle,
  candidate_on,
  account_many,
  account_config,
  account_few,
  account_none,
  account_bad,
  account_on,
  deadline_many,
  deadline_config,
  deadline_few,
  deadline_none,
  deadline_bad,
  deadline_keyless,
  deadline_keyed,
)

-- The burst of a budget whole again, as one word of its row.
pub burst_stored : (w : List ℕ) → length w ≡ row_words → word w runtime_tag ≡ 2
    → decoded (set w runtime_fourth (word w budget_burst)) ≡ with_runtime (runtime.Budget (whole_burst w)) (decoded w)
unfolding decoded parameters_of runtime_of runtime_from links_of queue_links_of if_equal choose given
burst_stored w size =
    by_words row_words
    (λ (w : List ℕ). word w runtime_tag ≡ 2
    → decoded (set w runtime_fourth (word w budget_burst)) ≡ with_runtime (runtime.Budget (whole_burst w)) (decoded w))
    (λ x0 x1 x2 x3 x4 x5 x6 x7 x8 x9 x10 x11 x12 x13 x14 x15 x16 x17 x18 x19 x20 x21 x22 x23 x24 x25 x26 x27 x28 x29 x30
    x31. λ e. rw e)
    w size

pub finished_burst : (rows : List (List ℕ)) (i : ℕ) (w : List ℕ) → i < length rows
    → is_bad_record (decoded (get_or rows i [])) ≡ false
    → word (get_or rows i []) runtime_tag ≡ 2
    → decoded w ≡ with_runtime (runtime.Budget (whole_burst (get_or rows i []))) (decoded (get_or rows i []))
    → table (set rows i w) ≡ finished_row (table rows) i (get_or rows i [])
unfolding finished_row if_equal choose given budget_stored on_answer budget.turn_finished budget.judged
finished_burst rows i w q good tag e =
    rw (tag, judged_sound (get_or rows i []) good tag)
    (ap after (set_runtime_inside rows i (runtime.Budget (whole_burst (get_or rows i []))) w q e))

pub finished_plain : (rows : List (List ℕ)) (i : ℕ) → (word (get_or rows i []) runtime_tag ≡ 2 → ⊥)
    → table rows ≡ finished_row (table rows) i (get_or rows i [])
unfolding finished_row if_equal choose
finished_plain rows i h = rw (ne_eqb (word (get_or rows i []) runtime_tag) 2 h)

pub ruleset turns_end = (finished_burst, finished_plain)

-- By what a budget's call answered.
module _ {A : Type 0} {y : A} (g : ℕ → A) where
  pub budget_left : {r : Result BudgetRuntime Refusal} {b : BudgetRuntime} (f : BudgetRuntime → A) → r ≡ Ok b → y ≡ f b
      → y ≡ on_answer (by_number r) g f
  unfolding on_answer
  budget_left f m h = rw m h

  pub budget_refused : {r : Result BudgetRuntime Refusal} {n : Refusal} (f : BudgetRuntime → A) → r ≡ Err n
      → y ≡ g (number_of n) → y ≡ on_answer (by_number r) g f
  unfolding on_answer
  budget_refused f m h = rw m h

-- A call on the budget of a row.
module _ {A : Type 0} {y : A} (w : List ℕ) {rt : BudgetRuntime} {ps : BudgetParameters} (e₁ : rt ≡ budget_runtime w)
    (e₂ : ps ≡ budget_parameters w) where
  pub row_charges : {a : Answer BudgetRuntime} (start end : ℕ) (f : Answer BudgetRuntime → A)
      → a ≡ budget.accounted_interval rt start end ps → y ≡ f a
      → y ≡ given (budget.accounted_interval (budget_runtime w) start end (budget_parameters w)) f
  unfolding given
  row_charges start end f e h = rw (sym e₁, sym e₂, sym e) h

  pub row_fresh : {r : Result BudgetRuntime Refusal} {b : BudgetRuntime} (now : ℕ) (g : ℕ → A) (f : BudgetRuntime → A)
      → by_number r ≡ budget.refreshed_judged rt now ps → r ≡ Ok b → y ≡ f b
      → y ≡ on_answer (budget.refreshed_judged (budget_runtime w) now (budget_parameters w)) g f
  unfolding on_answer
  row_fresh now g f e m h = rw (sym e₁, sym e₂, sym e, m) h

  pub row_not_fresh : {r : Result BudgetRuntime Refusal} {n : Refusal} (now : ℕ) (g : ℕ → A) (f : BudgetRuntime → A)
      → by_number r ≡ budget.refreshed_judged rt now ps → r ≡ Err n → y ≡ g (number_of n)
      → y ≡ on_answer (budget.refreshed_judged (budget_runtime w) now (budget_parameters w)) g f
  unfolding on_answer
  row_not_fresh now g f e m h = rw (sym e₁, sym e₂, sym e, m) h

  pub row_ends : {r : Result (BudgetRuntime × Option ℕ) Refusal} {b : BudgetRuntime} {d : Option ℕ} (now : ℕ) (borrow :
      Bool) (g : ℕ → A)
      (f : BudgetRuntime × Option ℕ → A)
      → by_number r ≡ budget.deadline_judged rt now ps borrow → r ≡ Ok (b, d) → y ≡ f (b, d)
      → y ≡ on_answer (budget.deadline_judged (budget_runtime w) now (budget_parameters w) borrow) g f
  unfolding on_answer
  row_ends now borrow g f e n h = rw (sym e₁, sym e₂, sym e, n) h

  pub row_not_ends : {r : Result (BudgetRuntime × Option ℕ) Refusal} {k : Refusal} (now : ℕ) (borrow : Bool) (g : ℕ → A)
      (f : BudgetRuntime × Option ℕ → A)
      → by_number r ≡ budget.deadline_judged rt now ps borrow → r ≡ Err k → y ≡ g (number_of k)
      → y ≡ on_answer (budget.deadline_judged (budget_runtime w) now (budget_parameters w) borrow) g f
  unfolding on_answer
  row_not_ends now borrow g f e n h = rw (sym e₁, sym e₂, sym e, n) h

pub row_expires : {A : Type 0} {y : A} {d : Option ℕ} {ps : BudgetParameters} (w : List ℕ) (now n : ℕ)
    (f : Option ℕ → A) → ps ≡ budget_parameters w → d ≡ budget_expiry now n ps → y ≡ f d
    → y ≡ given (budget_expiry now n (budget_parameters w)) f
unfolding given
row_expires w now n f e₁ e₂ h = rw (sym e₁, sym e₂) h

-- The epoch by its words.
pub runtime_read : (w : List ℕ) {e : Option ℕ} → e ≡ epoch_from (word w runtime_first) (word w runtime_second)
    → record { epoch = e; remaining_ns = word w runtime_third; burst_remaining_ns = word w runtime_fourth }
    ≡ budget_runtime w
runtime_read w e = rw e

-- The words of a candidate's parts, stored over others.
abbrev candidate_words : List ℕ → List ℕ → Wide → ℕ → List ℕ
candidate_words w row p n =
    set
    (set
    (set
    (set
    (set
    (set
    (set
    (set
    (set
    (set
    (set
    (set
    (set
    (set
    (set w policy_tag (word row policy_tag)) fifo_priority (word row fifo_priority))
    band_word (word row band_word))
    role_tag (word row role_tag))
    weight_word (word row weight_word))
    quantum_word (word row quantum_word))
    backend_tag (word row backend_tag))
    budget_tag (word row budget_tag))
    budget_word (word row budget_word))
    budget_period (word row budget_period))
    budget_burst (word row budget_burst))
    words.candidate_pass_high p.high)
    words.candidate_pass_low p.low)
    words.candidate_available n)
    words.candidate_turn (word row words.candidate_turn)

pub candidate_written : (w row : List ℕ) (p : Wide) (a : Bool) (n : ℕ) → length w ≡ row_words
    → p ≡ pass_of (decoded row).runtime
    → words.flag_from n ≡ a
    → words.candidate_of (candidate_words w row p n) ≡ candidate_row row a
unfolding words.candidate_of parameters_of candidate_row given
candidate_written w row p a n size e f =
    by_words row_words (λ (w : List ℕ). words.candidate_of (candidate_words w row p n) ≡ candidate_row row a)
    (λ x0 x1 x2 x3 x4 x5 x6 x7 x8 x9 x10 x11 x12 x13 x14 x15 x16 x17 x18 x19 x20 x21 x22 x23 x24 x25 x26 x27 x28 x29 x30
    x31. rw (e, f))
    w size

-- The turn is stored in the table that the refresh leaves.
pub row_stores : {a : Bool} (c : Result (Unit {0}) Damaged) {t₁ t₂ : List ThreadRecord} (t : List ThreadRecord) (id :
    ℕ) (w : List ℕ)
    (now turn : ℕ) → out a t₁ ≡ refreshed_row t id w now
    → out (or_damaged c) t₂ ≡ answering or_damaged (set_turn t₁ id turn) → t₂ ≡ prepared_row t id w now turn
unfolding prepared_row on_out
row_stores c {t₁} t id w now turn e f = rw (sym e) (left_by_lem c (set_turn t₁ id turn) f)

-- By the turn, with the policy by its words.
module _ {A : Type 0} {y : A} {r : Result Taken Refusal} {p : SchedulingPolicy} (front : Bool) (w : List ℕ) (n : ℕ) (c
    : Turns)
    (g : ℕ → A) (f : Taken → A) where
  pub turn_taken : {a : Taken} → p ≡ policy_from (word w policy_tag) (word w fifo_priority)
      → by_number r ≡ turn_for front p n c → r ≡ Ok a → y ≡ f a
      → y ≡ on_answer (turn_for front (policy_from (word w policy_tag) (word w fifo_priority)) n c) g f
  unfolding on_answer
  turn_taken e o m h = rw (sym e, sym o, m) h

  pub turn_refused : {k : Refusal} → p ≡ policy_from (word w policy_tag) (word w fifo_priority)
      → by_number r ≡ turn_for front p n c → r ≡ Err k → y ≡ g (number_of k)
      → y ≡ on_answer (turn_for front (policy_from (word w policy_tag) (word w fifo_priority)) n c) g f
  unfolding on_answer
  turn_refused e o m h = rw (sym e, sym o, m) h

-- Charged, and the window accounted.
pub row_accounts : {t₁ : List ThreadRecord} {p : SchedulingParameters} {x : With (Unit {0})} (t : List ThreadRecord)
    (id : ℕ) (w : List ℕ) (window : CpuWindow) (m : DispatchMode) (start end : ℕ)
    → t₁ ≡ charged_row t id w start end → p ≡ parameters_of w → x ≡ account_call window start end p m
    → out x t₁ ≡ accounted_row t id w window m start end
unfolding accounted_row
row_accounts t id w window m start end e₁ e₂ e₃ = rw (e₃, e₂, e₁)

-- The window's deadline, then the earlier of the two.
pub row_dues : {own : Option ℕ} {t₁ : List ThreadRecord} {s v : With (Option ℕ)} (t : List ThreadRecord) (id : ℕ)
    (w : List ℕ) (now : ℕ) (m : DispatchMode) (window : CpuWindow) (x : Contention)
    → out own t₁ ≡ own_end t id w now m x → s ≡ next_deadline_call window now m x.competition x.demand
    → v ≡ earlier_of s own → out v t₁ ≡ due_row t id w now m window x
unfolding due_row on_out
row_dues t id w now m window x e₁ e₂ e₃ = rw (sym e₁, e₃, e₂)

module _ {y : With (Option ℕ)} {s : WindowDeadline} (own : Option ℕ) where
  pub earlier_due : {d : Option ℕ} → s.answer ≡ Ok d → y ≡ with (value (earliest_of own d)) s.window
      → y ≡ earlier_of (window_deadline s) own
  unfolding earlier_of
  earlier_due m h = rw m h

  pub earlier_refused : {n : Refusal} → s.answer ≡ Err n → y ≡ window_deadline s
      → y ≡ earlier_of (window_deadline s) own
  unfolding earlier_of
  earlier_refused m h = rw m (h ∙ rw m)

pub ruleset budgets = (
  budget_left,
  budget_refused,
  turn_taken,
  turn_refused,
  row_charges,
  row_fresh,
  row_not_fresh,
  row_ends,
  row_not_ends,
  row_expires,
  row_stores,
  row_accounts,
  row_dues,
  earlier_due,
  earlier_refused,
  left_by_lem,
  answered,
  pass_by_tag,
  spent_by_tag,
)
