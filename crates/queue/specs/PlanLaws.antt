-- A call in two halves is the call; and laws by which the functions meet the definitions: r is what the call gave, x
-- what its contract says of it.
use Rattle.std.specs.Prelude.{ℕ, ◌+◌, ◌-◌, ◌<◌, ◌≤◌, ◌≡◌, Bool, List, ltb, eqb, length, Option, Some, None, Result, Ok}
use Rattle.std.specs.Prelude.{Err}
use Rattle.std.proofs.Common.{arith, ap, ◌∙◌, ltb-true}
use Rattle.std.proofs.Math.Path.{refl, sym}
use Rattle.std.proofs.Math.Bool.{true, false}
use Rattle.refusal.specs.Answer.{Answer, value, refused, number_of, damaged, bad_state, already, no_thread, by_number}
use Rattle.refusal.specs.Answer.{or_damaged, damage}
use Rattle.refusal.specs.Answer.{queue_halted}
use Rattle.refusal.specs.Answer.{bad_table, bad_record}
use Rattle.refusal.specs.declared.Refusal.{Refusal}
use Rattle.refusal.specs.Cases.{choose, given, if_less, if_equal, and_then}
use Rattle.policy.specs.declared.SchedulingParameters.{SchedulingParameters}
use Rattle.policy.specs.declared.SchedulingPolicy.{SchedulingPolicy}
use Rattle.policy.specs.declared.SchedulingPolicy.TheVariants as policy
use Rattle.policy.specs.PolicyCases.{on_policy}
use Rattle.algorithms.specs.declared.PolicyRuntime.{PolicyRuntime}
use Rattle.thread.specs.declared.CpuIndex.{CpuIndex}
use Rattle.thread.specs.declared.QueueMembership.{QueueMembership}
use Rattle.thread.specs.declared.QueueMembership.TheVariants as membership
use Rattle.thread.specs.declared.ThreadRecord.{ThreadRecord}
use Rattle.thread.specs.Membership.{on_membership, is_unqueued}
use Rattle.thread.specs.Judgement.{is_bad_record}
use Rattle.thread.specs.Filing.{budget_available_of, role_index, index_for, on_index, budget_exhausted, budget_ready}
use Rattle.thread.specs.Filing.{fair_index}
use Rattle.thread.specs.FilingLaws.{role_index_le}
use Rattle.rows.specs.Table.{Out, out, table, record_at}
use Rattle.rows.specs.TableCases.{on_record}
use Rattle.rows.specs.AskedLaws.{below_count, not_below_count}
use Rattle.lists.specs.Lists.{on_answer}
use Rattle.ready_index.specs.AnswersLaws.{same_contained}
use Rattle.ready_index.specs.Index as index
use Rattle.queue.specs.RunQueue.{CpuRunQueue, tree_count}
use Rattle.queue.specs.declared.Filed.{Filed}
use Rattle.queue.specs.declared.Plan.{Plan}
use Rattle.queue_work.specs.declared.Worked.{Worked}
use Rattle.queue_work.specs.declared.Worked.TheVariants as work
use Rattle.queue_work.specs.declared.Parts.{Parts}
use Rattle.queue_work.specs.Work.{Work, done, turned_down, halts, work_of, insert_work, remove_work}
use Rattle.queue.specs.Queue as queue
use Rattle.queue.specs.Queue.{Step, step, max_records, parts_of, with_parts, marked, is_fifo, is_budget}
use Rattle.queue.specs.Queue.{membership_for, partner, on_contained, enqueue_call, remove_call, remove_ready}
use Rattle.queue.specs.Queue.{remove_from, tree_with}
use Rattle.queue.specs.Plan.{filed_of, judgement, plan_insertion, insertion_plan, tree_found, plan_ready, plan_removal}
use Rattle.queue.specs.Plan.{removal_plan, settled, insert_by, remove_by, remove_filed}
use Rattle.refusal.specs.declared.Damaged.{Damaged}

-- A refusal leaves table and queue as they were.
abbrev pub kept : List ThreadRecord → CpuRunQueue → ℕ → Out (Step (Unit {0}))
kept t q n = out (step (refused n) q) t

module _ (t : List ThreadRecord) (q : CpuRunQueue) (id : ℕ) where
  judged_apart : (f : ThreadRecord → ℕ → Out (Step (Unit {0}))) (g : Filed → Out (Step (Unit {0})))
      → ((r : ThreadRecord) (k : ℕ) → f r k ≡ g (filed_of r k))
      → queue.judged t q id f ≡ on_answer {A = Filed} (judgement t q.halted id) (kept t q) g
  unfolding queue.judged judgement if_less choose on_record on_index on_answer given
  judged_apart f g same = go (ltb max_records (length t)) q.halted (record_at t id)
    where
      filed : (r : ThreadRecord) (bad : Bool) (i : Option ℕ)
          → choose bad (kept t q bad_record) (on_index i (kept t q bad_state) (λ k. f r k))
          ≡ on_answer {A = Filed} (choose bad (refused bad_record)
          (on_index i (refused bad_state) (λ k. value (filed_of r k)))) (kept t q) g
      filed r true i = refl
      filed r false None = refl
      filed r false (Some k) = same r k

      go : (large halted : Bool) (x : Result ThreadRecord Damaged)
          → choose large (kept t q bad_table)
          (choose halted (kept t q queue_halted)
          (on_record x (kept t q no_thread)
          (λ r. choose (is_bad_record r) (kept t q bad_record)
          (on_index (index_for r.parameters r.runtime) (kept t q bad_state) (λ k. f r k)))))
          ≡ on_answer {A = Filed} (choose large (refused bad_table)
          (choose halted (refused queue_halted)
          (on_record x (refused no_thread)
          (λ r. choose (is_bad_record r) (refused bad_record)
          (on_index (index_for r.parameters r.runtime) (refused bad_state) (λ k. value (filed_of r k)))))))
          (kept t q) g
      go true halted x = refl
      go false true x = refl
      go false false (Err _) = refl
      go false false (Ok r) = filed r (is_bad_record r) (index_for r.parameters r.runtime)

  enqueue_filed : (front : Bool) (c : CpuIndex) (f : Filed) (unqueued here : Bool)
      → choose unqueued
      (choose here
      (given (membership_for f.policy c)
      (λ m. queue.worked q m f.index
      (insert_work front (is_fifo f.policy) (is_budget f.policy) t (parts_of q m f.index) id m)))
      (kept t q bad_state))
      (kept t q already)
      ≡ on_answer {A = Plan} (choose unqueued
      (choose here
      (given (membership_for f.policy c)
      (λ m. given (is_fifo f.policy)
      (λ fifo. given (is_budget f.policy)
      (λ budgeted. value (record { membership = m; index = f.index; fifo = fifo; budgeted = budgeted })))))
      (refused bad_state))
      (refused already))
      (kept t q) (insert_by front t q id)
  unfolding choose given on_answer insert_by
  enqueue_filed front c f true true = refl
  enqueue_filed front c f true false = refl
  enqueue_filed front c f false here = refl

  -- An enqueue is the work of its plan.
  pub enqueue_apart : (front : Bool) (c : CpuIndex)
      → enqueue_call front t q id c ≡ on_answer {A = Plan} (insertion_plan t q.halted id c) (kept t q)
      (insert_by front t q id)
  unfolding enqueue_call insertion_plan plan_insertion if_equal on_answer and_then
  enqueue_apart front c =
      judged_apart _ (λ f. on_answer {A = Plan} (plan_insertion f c) (kept t q) (insert_by front t q id)) same
      ∙ go (judgement t q.halted id)
    where
      same : (r : ThreadRecord) (k : ℕ)
          → choose (is_unqueued r.queue_links.membership)
          (choose (eqb r.cpu.0 c.0)
          (given (membership_for r.parameters.policy c)
          (λ m. queue.worked q m k (insert_work front (is_fifo r.parameters.policy)
          (is_budget r.parameters.policy) t (parts_of q m k) id m)))
          (kept t q bad_state))
          (kept t q already)
          ≡ on_answer {A = Plan} (plan_insertion (filed_of r k) c) (kept t q) (insert_by front t q id)
      same r k =
          enqueue_filed front c (filed_of r k) (is_unqueued r.queue_links.membership) (eqb r.cpu.0 c.0)

      go : (x : Answer Filed)
          → on_answer {A = Filed} x (kept t q)
          (λ f. on_answer {A = Plan} (plan_insertion f c) (kept t q) (insert_by front t q id))
          ≡ on_answer {A = Plan} (and_then x (λ f. plan_insertion f c)) (kept t q) (insert_by front t q id)
      go (refused n) = refl
      go (value f) = refl

  remove_ready_lem : (fifo budgeted : Bool) (c d : CpuIndex) (k : ℕ) (m : QueueMembership)
      → remove_ready fifo t q id c d budgeted k m ≡ on_answer {A = Plan} (plan_ready fifo c d budgeted k m) (kept t q)
      (remove_by t q id)
  unfolding remove_ready plan_ready if_equal choose given on_answer remove_by
  remove_ready_lem fifo budgeted c d k m = go (eqb d.0 c.0)
    where
      go : (here : Bool)
          → choose here (queue.worked q m k (remove_work fifo budgeted t (parts_of q m k) id m)) (kept t q damaged)
          ≡ on_answer {A = Plan} (choose here
          (value (record { membership = m; index = k; fifo = fifo; budgeted = budgeted })) (refused damaged)) (kept t q)
          (remove_by t q id)
      go true = refl
      go false = refl

  remove_held : (c : CpuIndex) (r : ThreadRecord) (n k : ℕ)
      → remove_from t q id c r k ≡ on_answer {A = Plan} (plan_removal (filed_of r n) k c) (kept t q) (remove_by t q id)
  unfolding remove_from plan_removal given on_membership on_answer
  remove_held c r n k = go (is_budget r.parameters.policy) r.queue_links.membership
    where
      go : (budgeted : Bool) (m : QueueMembership)
          → on_membership m (kept t q damaged)
          (λ d priority. remove_ready true t q id c d budgeted k (membership.ReadyRealTime d priority))
          (λ d. remove_ready false t q id c d budgeted k (membership.ReadyFair d))
          (λ w. kept t q damaged) (kept t q damaged)
          ≡ on_answer {A = Plan}
          (on_membership m (refused damaged)
          (λ d priority. plan_ready true c d budgeted k (membership.ReadyRealTime d priority))
          (λ d. plan_ready false c d budgeted k (membership.ReadyFair d))
          (λ w. refused damaged) (refused damaged))
          (kept t q) (remove_by t q id)
      go budgeted membership.None = refl
      go budgeted (membership.ReadyRealTime d priority) =
          remove_ready_lem true budgeted c d k (membership.ReadyRealTime d priority)
      go budgeted (membership.ReadyFair d) = remove_ready_lem false budgeted c d k (membership.ReadyFair d)
      go budgeted (membership.Waiting w) = refl
      go budgeted membership.Terminated = refl

  remove_filed_lem : (c : CpuIndex) (r : ThreadRecord) (n : ℕ)
      → on_answer {A = ℕ} (tree_with t q id (is_budget r.parameters.policy) n) (kept t q)
      (λ k. remove_from t q id c r k)
      ≡ remove_filed t q id c (filed_of r n)
  unfolding tree_with tree_found remove_filed removal_plan given on_answer and_then
  remove_filed_lem c r n = go (tree_with t q id (is_budget r.parameters.policy) n)
    where
      go : (x : Answer ℕ)
          → on_answer {A = ℕ} x (kept t q) (λ k. remove_from t q id c r k)
          ≡ on_answer {A = Plan} (and_then x (λ k. plan_removal (filed_of r n) k c)) (kept t q) (remove_by t q id)
      go (refused m) = refl
      go (value k) = remove_held c r n k

  -- A removal is the judgement, then the work of its plan.
  pub remove_apart : (c : CpuIndex)
      → remove_call t q id c ≡ on_answer {A = Filed} (judgement t q.halted id) (kept t q) (remove_filed t q id c)
  unfolding remove_call
  remove_apart c = judged_apart _ (remove_filed t q id c) (remove_filed_lem c)

-- Going by a plan, or a judgement, of a call.
module _ {y : Out (Step (Unit {0}))} (t : List ThreadRecord) (q : CpuRunQueue) (id : ℕ) (c : CpuIndex) where
  pub enqueue_planned : (front : Bool) {r : Result Plan Refusal} {p : Plan}
      → by_number r ≡ insertion_plan t q.halted id c
      → r ≡ Ok p → y ≡ insert_by front t q id p → y ≡ enqueue_call front t q id c
  unfolding on_answer
  enqueue_planned front e m h = rw (enqueue_apart t q id front c, sym e, m) h

  pub enqueue_refused : (front : Bool) {r : Result Plan Refusal} {n : Refusal}
      → by_number r ≡ insertion_plan t q.halted id c
      → r ≡ Err n → y ≡ kept t q (number_of n) → y ≡ enqueue_call front t q id c
  unfolding on_answer
  enqueue_refused front e m h = rw (enqueue_apart t q id front c, sym e, m) h

  pub remove_judged : {r : Result Filed Refusal} {f : Filed} → by_number r ≡ judgement t q.halted id → r ≡ Ok f
      → y ≡ remove_filed t q id c f → y ≡ remove_call t q id c
  unfolding on_answer
  remove_judged e m h = rw (remove_apart t q id c, sym e, m) h

  pub remove_refused : {r : Result Filed Refusal} {n : Refusal} → by_number r ≡ judgement t q.halted id
      → r ≡ Err n → y ≡ kept t q (number_of n) → y ≡ remove_call t q id c
  unfolding on_answer
  remove_refused e m h = rw (remove_apart t q id c, sym e, m) h

-- Going on with an answer, or stopping with its refusal.
module _ {B : Type 0} {y : Answer B} where
  pub judgement_on : {r : Result Filed Refusal} {x : Answer Filed} {a : Filed} (f : Filed → Answer B) → by_number r ≡ x
      → r ≡ Ok a → y ≡ f a → y ≡ and_then x f
  unfolding and_then
  judgement_on f e m h = rw (sym e, m) h

  pub judgement_off : {r : Result Filed Refusal} {x : Answer Filed} {n : Refusal} (f : Filed → Answer B)
      → by_number r ≡ x
      → r ≡ Err n → y ≡ refused (number_of n) → y ≡ and_then x f
  unfolding and_then
  judgement_off f e m h = rw (sym e, m) h

  pub tree_on : {r : Result ℕ Refusal} {x : Answer ℕ} {k : ℕ} (f : ℕ → Answer B) → by_number r ≡ x → r ≡ Ok k
      → y ≡ f k → y ≡ and_then x f
  unfolding and_then
  tree_on f e m h = rw (sym e, m) h

  pub tree_off : {r : Result ℕ Refusal} {x : Answer ℕ} {n : Refusal} (f : ℕ → Answer B) → by_number r ≡ x
      → r ≡ Err n
      → y ≡ refused (number_of n) → y ≡ and_then x f
  unfolding and_then
  tree_off f e m h = rw (sym e, m) h

module _ {B : Type 0} {y : B} {r : Result Plan Refusal} {x : Answer Plan} (g : ℕ → B) (f : Plan → B) where
  pub planned_on : {p : Plan} → by_number r ≡ x → r ≡ Ok p → y ≡ f p → y ≡ on_answer x g f
  unfolding on_answer
  planned_on e m h = rw (sym e, m) h

  pub planned_off : {n : Refusal} → by_number r ≡ x → r ≡ Err n → y ≡ g (number_of n)
      → y ≡ on_answer x g f
  unfolding on_answer
  planned_off e m h = rw (sym e, m) h

module _ {A : Type 0} {y : A} {r : Result Bool Damaged} (x : Result Bool Damaged) (a b d : A) where
  pub held : or_damaged r ≡ or_damaged x → r ≡ (Ok true) → y ≡ a → y ≡ on_contained x a b d
  unfolding on_contained
  held e m h = rw (sym (same_contained r x e) ∙ m) h

  pub not_held : or_damaged r ≡ or_damaged x → r ≡ (Ok false) → y ≡ b → y ≡ on_contained x a b d
  unfolding on_contained
  not_held e m h = rw (sym (same_contained r x e) ∙ m) h

  pub held_damaged : or_damaged r ≡ or_damaged x → r ≡ (Err damage) → y ≡ d → y ≡ on_contained x a b d
  unfolding on_contained
  held_damaged e m h = rw (sym (same_contained r x e) ∙ m) h

-- The record count is the count of rows.
module _ {A : Type 0} {y : A} (a b : A) (rows : List (List ℕ)) where
  pub too_many : max_records < length rows → y ≡ a → y ≡ if_less max_records (length (table rows)) a b
  too_many p h = below_count a b max_records rows p h

  pub not_too_many : length rows ≤ max_records → y ≡ b → y ≡ if_less max_records (length (table rows)) a b
  not_too_many p h = not_below_count a b max_records rows p h

-- A call's work put back, beside the table that it left.
worked_apart : (q : CpuRunQueue) (m : QueueMembership) (k : ℕ) (w : Work) (t : List ThreadRecord)
    → out (settled q m k w) t ≡ queue.worked q m k (out w t)
unfolding settled queue.worked
worked_apart q m k (done p) t = refl
worked_apart q m k (turned_down n) t = refl
worked_apart q m k (halts p) t = refl

pub put_back : (q : CpuRunQueue) (m : QueueMembership) (k : ℕ) {s : Step (Unit {0})} {w : Work} {t : List ThreadRecord}
    {x : Out Work}
    → out w t ≡ x → s ≡ settled q m k w → out s t ≡ queue.worked q m k x
put_back q m k {s} {w} {t} e h = ap (λ s. out s t) h ∙ worked_apart q m k w t ∙ ap (queue.worked q m k) e

module _ (q : CpuRunQueue) (m : QueueMembership) (k : ℕ) {w : Worked} {r : CpuRunQueue} where
  pub settled_done : {p : Parts} {h : Bool} → w ≡ work.Stored p h → h ≡ false → r ≡ with_parts q m k p
      → step (value tt) r ≡ settled q m k (work_of w)
  unfolding settled
  settled_done e n h = rw (e, n) (rw h)

  pub settled_halted : {p : Parts} {h : Bool} {u : CpuRunQueue} → w ≡ work.Stored p h → h ≡ true
      → u ≡ with_parts q m k p
      → r ≡ marked u → step (refused queue_halted) r ≡ settled q m k (work_of w)
  unfolding settled
  settled_halted e n h g = rw (e, n) (rw (sym h) (ap (λ r. step (refused queue_halted) r) g))

pub settled_refused : (q : CpuRunQueue) (m : QueueMembership) (k : ℕ) {w : Worked} {n : Refusal} → w ≡ work.Refused n
    → step (refused (number_of n)) q ≡ settled q m k (work_of w)
unfolding settled
settled_refused q m k e = rw e

-- The tree of a judged thread is one of the twelve, and so is that of a plan. In place of a refusal stands 0.
abbrev index_number : Option ℕ → ℕ
index_number None = 0
index_number (Some k) = k

abbrev filed_number : Answer Filed → ℕ
filed_number (value f) = f.index
filed_number (refused n) = 0

abbrev found_number : Answer ℕ → ℕ
found_number (value k) = k
found_number (refused n) = 0

abbrev plan_number : Answer Plan → ℕ
plan_number (value p) = p.index
plan_number (refused n) = 0

index_number_lem : (p : SchedulingParameters) (r : PolicyRuntime) → index_number (index_for p r) < tree_count
unfolding index_for given on_policy choose
index_number_lem p r = go p.policy (budget_available_of r) (role_index p.role) (role_index_le p.role)
  where
    go : (x : SchedulingPolicy) (available : Bool) (n : ℕ) → n ≤ 2
        → index_number (on_policy x (λ priority. Some n) (Some (fair_index + n))
        (choose available (Some (budget_ready + n))
        (Some (budget_exhausted + n))) None) < tree_count
    go (policy.Fifo priority) available n h = omega arith
    go policy.Fair available n h = omega arith
    go policy.Budget true n h = omega arith
    go policy.Budget false n h = omega arith
    go policy.Idle available n h = omega arith

filed_number_lem : (t : List ThreadRecord) (halted : Bool) (id : ℕ) → filed_number (judgement t halted id) < tree_count
unfolding judgement if_less choose on_record on_index given
filed_number_lem t halted id = go (ltb max_records (length t)) halted (record_at t id)
  where
    filed : (r : ThreadRecord) (bad : Bool) (i : Option ℕ) → index_number i < tree_count
        → filed_number (choose bad (refused bad_record) (on_index i (refused bad_state) (λ k. value (filed_of r k))))
        < tree_count
    filed r true i h = omega arith
    filed r false None h = omega arith
    filed r false (Some k) h = h

    go : (large marked : Bool) (x : Result ThreadRecord Damaged)
        → filed_number (choose large (refused bad_table)
        (choose marked (refused queue_halted)
        (on_record x (refused no_thread)
        (λ r. choose (is_bad_record r) (refused bad_record)
        (on_index (index_for r.parameters r.runtime) (refused bad_state) (λ k. value (filed_of r k))))))) < tree_count
    go true marked x = omega arith
    go false true x = omega arith
    go false false (Err _) = omega arith
    go false false (Ok r) =
        filed r (is_bad_record r) (index_for r.parameters r.runtime) (index_number_lem r.parameters r.runtime)

pub judged_below : (t : List ThreadRecord) (halted : Bool) (id : ℕ) {r : Result Filed Refusal} {f : Filed}
    → by_number r ≡ judgement t halted id → r ≡ Ok f → f.index < tree_count
judged_below t halted id {r} {f} e m =
    let path : filed_number (judgement t halted id) ≡ f.index = sym (ap filed_number e)
    ∙ ap (λ r. filed_number (by_number r)) m in
    let bound : filed_number (judgement t halted id) < tree_count = filed_number_lem t halted id in
    omega arith

insertion_number : (c : CpuIndex) (x : Answer Filed) → filed_number x < tree_count
    → plan_number (and_then x (λ f. plan_insertion f c)) < tree_count
unfolding and_then plan_insertion if_equal choose given
insertion_number c (refused n) h = omega arith
insertion_number c (value f) h = go (is_unqueued f.membership) (eqb f.cpu.0 c.0)
  where
    go : (unqueued here : Bool)
        → plan_number (choose unqueued (choose here
        (value (record {
          membership = membership_for f.policy c;
          index = f.index;
          fifo = is_fifo f.policy;
          budgeted = is_budget f.policy;
        })) (refused bad_state)) (refused already)) < tree_count
    go true true = h
    go true false = omega arith
    go false here = omega arith

pub insertion_below : (t : List ThreadRecord) (halted : Bool) (id : ℕ) (c : CpuIndex) {r : Result Plan Refusal} {p :
    Plan}
    → by_number r ≡ insertion_plan t halted id c → r ≡ Ok p → p.index < tree_count
unfolding insertion_plan
insertion_below t halted id c {r} {p} e m =
    let path : plan_number (insertion_plan t halted id c) ≡ p.index = sym (ap plan_number e)
    ∙ ap (λ r. plan_number (by_number r)) m in
    let bound : plan_number (insertion_plan t halted id c) < tree_count = insertion_number c (judgement t halted id)
    (filed_number_lem t halted id) in
    omega arith

pub partner_below : (k : ℕ) → k < tree_count → partner k < tree_count
unfolding partner if_less choose
partner_below k h = go (ltb k budget_exhausted) refl
  where
    go : (b : Bool) → ltb k budget_exhausted ≡ b → choose b (k + 3) (k - 3) < tree_count
    go true e = let less : k < budget_exhausted = ltb-true k budget_exhausted e in omega arith
    go false e = omega arith

found_number_lem : (t : List ThreadRecord) (root other : Option ℕ) (id : ℕ) (budgeted : Bool) (k : ℕ) → k < tree_count
    → found_number (tree_found t root other id budgeted k) < tree_count
unfolding tree_found on_contained choose given
found_number_lem t root other id budgeted k h = go (index.contains t root id) budgeted (index.contains t other id)
  where
    go : (x : Result Bool Damaged) (b : Bool) (y : Result Bool Damaged)
        → found_number (on_contained x (value k)
        (choose b (on_contained y (value (partner k)) (refused damaged) (refused damaged)) (refused damaged))
        (refused damaged)) < tree_count
    go (Ok true) b y = h
    go (Ok false) true (Ok true) = partner_below k h
    go (Ok false) true (Ok false) = omega arith
    go (Ok false) true (Err _) = omega arith
    go (Ok false) false y = omega arith
    go (Err _) b y = omega arith

removal_number : (f : Filed) (c : CpuIndex) (x : Answer ℕ) → found_number x < tree_count
    → plan_number (and_then x (λ k. plan_removal f k c)) < tree_count
unfolding and_then plan_removal given on_membership plan_ready if_equal choose
removal_number f c (refused n) h = omega arith
removal_number f c (value k) h = go f.membership
  where
    ready : (fifo here : Bool) (m : QueueMembership)
        → plan_number (choose here (value
        (record { membership = m; index = k; fifo = fifo; budgeted = is_budget f.policy })) (refused damaged))
        < tree_count
    ready fifo true m = h
    ready fifo false m = omega arith

    go : (m : QueueMembership)
        → plan_number (on_membership m (refused damaged)
        (λ d priority. plan_ready true c d (is_budget f.policy) k (membership.ReadyRealTime d priority))
        (λ d. plan_ready false c d (is_budget f.policy) k (membership.ReadyFair d))
        (λ w. refused damaged) (refused damaged)) < tree_count
    go membership.None = omega arith
    go (membership.ReadyRealTime d priority) = ready true (eqb d.0 c.0) (membership.ReadyRealTime d priority)
    go (membership.ReadyFair d) = ready false (eqb d.0 c.0) (membership.ReadyFair d)
    go (membership.Waiting w) = omega arith
    go membership.Terminated = omega arith

pub removal_below : (t : List ThreadRecord) (f : Filed) (root other : Option ℕ) (id : ℕ) (c : CpuIndex) {r : Result
    Plan Refusal}
    {p : Plan} → f.index < tree_count → by_number r ≡ removal_plan t f root other id c → r ≡ Ok p
    → p.index < tree_count
unfolding removal_plan given
removal_below t f root other id c {r} {p} h e m =
    let path : plan_number (removal_plan t f root other id c) ≡ p.index = sym (ap plan_number e)
    ∙ ap (λ r. plan_number (by_number r)) m in
    let bound : plan_number (removal_plan t f root other id c)
    < tree_count =
    removal_number f c (tree_found t root other id (is_budget f.policy) f.index)
    (found_number_lem t root other id (is_budget f.policy) f.index h) in
    omega arith

pub partner_within : {n k : ℕ} → n ≡ partner k → k < tree_count → n < tree_count
partner_within {n} {k} e h = let bound : partner k < tree_count = partner_below k h in omega arith

pub ruleset bounds = (judged_below, insertion_below, removal_below, partner_within)

pub ruleset plannings = (
  enqueue_planned,
  enqueue_refused,
  remove_judged,
  remove_refused,
  judgement_on,
  judgement_off,
  tree_on,
  tree_off,
  planned_on,
  planned_off,
  held,
  not_held,
  held_damaged,
  too_many,
  not_too_many,
  put_back,
  settled_done,
  settled_refused,
  settled_halted,
)
