-- The definitions of crate queue, case by case: which list and which tree a call touches, and what its work comes to.
use Rattle.std.specs.Prelude.{◌≡◌, Bool, true, false, ◌≢◌, List, length, set, ltb, Option, Some, None, Ok}
use Rattle.std.proofs.Math.Path.{refl}
use Rattle.std.proofs.Common.{sym, ap, ◌∙◌, arith, eq-eqb, ne_eqb, lt-ltb, le-ltb, ltb-true, ltb-false}
use Prim.Native.Nat.{ℕ, zero, suc, ◌+◌, ◌-◌, ◌≤◌, ◌<◌}
use Rattle.std.proofs.Math.ListN.{length-set}
use Rattle.std.proofs.Math.Seq.{get_or-set_same, get_or-set_other}
use Rattle.refusal.specs.Answer.{value}
use Rattle.refusal.specs.Cases.{never, choose, if_less, if_equal, given}
use Rattle.policy.specs.declared.SchedulingParameters.{SchedulingParameters}
use Rattle.policy.specs.declared.SchedulingPolicy.{SchedulingPolicy}
use Rattle.policy.specs.declared.SchedulingPolicy.TheVariants as policy
use Rattle.policy.specs.PolicyCases.{on_policy}
use Rattle.algorithms.specs.declared.PolicyRuntime.{PolicyRuntime}
use Rattle.thread.specs.declared.CpuIndex.{CpuIndex}
use Rattle.thread.specs.declared.QueueMembership.{QueueMembership}
use Rattle.thread.specs.declared.ThreadQueue.{ThreadQueue}
use Rattle.thread.specs.declared.ThreadRecord.{ThreadRecord}
use Rattle.thread.specs.Membership.{empty_queue, on_membership, on_cpu, ready_cpu, is_unqueued}
use Rattle.thread.specs.Filing.{role_index, budget_available_of, index_for, budget_exhausted, budget_ready, fair_index}
use Rattle.thread.specs.FilingLaws.{role_index_le}
use Rattle.rows.specs.Table.{out}
use Rattle.lists.specs.Checks.{max_length, assigned_to}
use Rattle.lists.specs.Lists.{on_answer, on_out}
use Rattle.lists.specs.Lists as list
use Rattle.ready_index.specs.Cases.{on_rooted}
use Rattle.ready_index.specs.Index as index·
use Rattle.queue.specs.RunQueue.{CpuRunQueue, tree_count}
use Rattle.queue_work.specs.declared.Parts.{Parts}
use Rattle.queue_work.specs.Work.{done, with_budget_threads, tree_stored, counted_in, counted_out, total_in, total_out}
use Rattle.queue_work.specs.Work.{push_at, insert_work, remove_work}
use Rattle.queue.specs.Queue.{list_of, with_parts, is_fifo, is_budget, membership_for, partner}
use Rattle.sound_queue.specs.Lists.{list_at, membership_at, list_for, list_count}
use Rattle.sound_queue.specs.Sound.{PriorityFits}

-- A processor is its number.
pub cpu_by : (c d : CpuIndex) → c.0 ≡ d.0 → c ≡ d
cpu_by c d e = ap (λ n. record { 0 = n }) e

-- A membership's list.
pub list_of_lem : (q : CpuRunQueue) (cpu : CpuIndex) (n : ℕ) → list_of q (membership_at cpu n) ≡ list_at q n
unfolding list_of on_membership membership_at list_at
list_of_lem q cpu zero = refl
list_of_lem q cpu (suc p) = refl

-- A policy's membership is that of its list.
pub membership_for_lem : (p : SchedulingPolicy) (cpu : CpuIndex) → p ≢ policy.Idle
    → membership_for p cpu ≡ membership_at cpu (list_for p)
unfolding membership_for membership_at list_for on_policy
membership_for_lem (policy.Fifo priority) cpu h = refl
membership_for_lem policy.Fair cpu h = refl
membership_for_lem policy.Budget cpu h = refl
membership_for_lem policy.Idle cpu h = absurd (h refl)

-- A policy that is not Idle, with a byte for its priority, has one of the 257 lists.
pub list_for_lem : (p : SchedulingPolicy) → p ≢ policy.Idle → PriorityFits p → list_for p < list_count
unfolding list_for on_policy
list_for_lem (policy.Fifo priority) h b = omega arith
list_for_lem policy.Fair h b = omega arith
list_for_lem policy.Budget h b = omega arith
list_for_lem policy.Idle h b = absurd (h refl)

-- Idle has none.
pub listed_not_idle : (p : SchedulingPolicy) → list_for p < list_count → p ≢ policy.Idle
unfolding list_for on_policy
listed_not_idle p b e = let w : list_for p ≡ list_count = rw e in omega arith

-- A thread of this processor may stand in this processor's lists.
pub assigned_to_lem : (cpu d : CpuIndex) (n : ℕ) → d.0 ≡ cpu.0 → assigned_to (membership_at cpu n) d ≡ true
unfolding assigned_to on_cpu ready_cpu on_membership membership_at if_equal choose
assigned_to_lem cpu d zero e = rw (eq-eqb cpu.0 d.0 (sym e))
assigned_to_lem cpu d (suc p) e = rw (eq-eqb cpu.0 d.0 (sym e))

-- A list's membership is not None.
pub in_a_list : (cpu : CpuIndex) (n : ℕ) → is_unqueued (membership_at cpu n) ≡ false
unfolding is_unqueued on_membership membership_at
in_a_list cpu zero = refl
in_a_list cpu (suc p) = refl

-- Whether the list is a priority's.
pub list_fifo : (p : SchedulingPolicy) (n : ℕ) → list_for p ≡ n → n < list_count → is_fifo p ≡ ltb 0 n
unfolding list_for is_fifo on_policy
list_fifo (policy.Fifo priority) n e b = sym (lt-ltb 0 n (omega arith))
list_fifo policy.Fair n e b = sym (le-ltb 0 n (omega arith))
list_fifo policy.Budget n e b = sym (le-ltb 0 n (omega arith))
list_fifo policy.Idle n e b = absurd (omega arith)

-- The parts of a list's call stored back: that list, and no other.
module _ (q : CpuRunQueue) (cpu : CpuIndex) (k : ℕ) (p : Parts) where
  pub list_stored_lem : (n : ℕ) → n < list_count → length q.realtime ≡ 256
      → list_at (with_parts q (membership_at cpu n) k p) n ≡ p.list
  unfolding with_parts on_membership membership_at list_at
  list_stored_lem zero b e = refl
  list_stored_lem (suc m) b e = get_or-set_same q.realtime m p.list empty_queue (omega arith)

  pub list_stored_other : (n m : ℕ) → m ≢ n → list_at (with_parts q (membership_at cpu n) k p) m ≡ list_at q m
  unfolding with_parts on_membership membership_at list_at
  list_stored_other zero zero d = absurd (d refl)
  list_stored_other zero (suc m) d = refl
  list_stored_other (suc n) zero d = refl
  list_stored_other (suc n) (suc m) d = get_or-set_other q.realtime n m p.list empty_queue (λ e. d (ap suc e))

  pub priorities_stored : (n : ℕ) → length (with_parts q (membership_at cpu n) k p).realtime ≡ length q.realtime
  unfolding with_parts on_membership membership_at
  priorities_stored zero = refl
  priorities_stored (suc m) = length-set q.realtime m p.list

  -- The rest of the queue.
  pub rest_stored : (n : ℕ) → ((with_parts q (membership_at cpu n) k p).indices
      ≡ set q.indices k (record { root = p.root }))
      × ((with_parts q (membership_at cpu n) k p).realtime_len ≡ p.realtime_len)
      × ((with_parts q (membership_at cpu n) k p).budget_threads ≡ p.budget_threads)
      × ((with_parts q (membership_at cpu n) k p).halted ≡ q.halted)
  unfolding with_parts on_membership membership_at
  rest_stored zero = (refl, refl, refl, refl)
  rest_stored (suc m) = (refl, refl, refl, refl)

-- The tree of a record's filing, one of the twelve.
pub record Filing (p : SchedulingParameters) (r : PolicyRuntime) : Type 0 where
  pub tree : ℕ
  pub is : index_for p r ≡ Some tree
  pub low : tree < tree_count

budget_filing : (n : ℕ) (x : Bool) → n ≤ 2
    → (k : ℕ) × (choose x (Some (budget_ready + n)) (Some (budget_exhausted + n)) ≡ Some k) ×
    (budget_ready ≤ k) × (k < tree_count)
unfolding choose
budget_filing n true h = (budget_ready + n, refl, omega arith, omega arith)
budget_filing n false h = (budget_exhausted + n, refl, omega arith, omega arith)

-- A policy that is not Idle is filed,
pub filing : (p : SchedulingParameters) (r : PolicyRuntime) → p.policy ≢ policy.Idle → Filing p r
unfolding index_for given on_policy
filing p r h = go p.policy refl
  where
    go : (y : SchedulingPolicy) → p.policy ≡ y → Filing p r
    go (policy.Fifo priority) e =
        record { tree = role_index p.role; is = rw e; low = omega (arith, role_index_le p.role) }
    go policy.Fair e =
        record { tree = fair_index + role_index p.role; is = rw e; low = omega (arith, role_index_le p.role) }
    go policy.Budget e =
        let b = budget_filing (role_index p.role) (budget_available_of r) (role_index_le p.role) in
        record { tree = b.0; is = rw e b.1; low = b.3 }
    go policy.Idle e = absurd (h e)

-- and Idle is not.
pub idle_filing : (p : SchedulingParameters) (r : PolicyRuntime) → p.policy ≡ policy.Idle → index_for p r ≡ None
unfolding index_for given on_policy
idle_filing p r e = rw e

-- A budget is filed in one of the six trees of budgets.
pub budget_tree : (p : SchedulingParameters) (r : PolicyRuntime) (f : ℕ) → is_budget p.policy ≡ true
    → index_for p r ≡ Some f → (budget_ready ≤ f) × (f < tree_count)
unfolding index_for given on_policy is_budget
budget_tree p r f b e = go p.policy refl
  where
    go : (y : SchedulingPolicy) → p.policy ≡ y → (budget_ready ≤ f) × (f < tree_count)
    go (policy.Fifo priority) z = let w : false ≡ true = rw z at b in never cc
    go policy.Fair z = let w : false ≡ true = rw z at b in never cc
    go policy.Idle z = let w : false ≡ true = rw z at b in never cc
    go policy.Budget z =
        let m = budget_filing (role_index p.role) (budget_available_of r) (role_index_le p.role) in
        let w : Some m.0 ≡ Some f = sym m.1 ∙ (rw z at e) in
        let v : m.0 ≡ f = cc in
        (omega (arith, m.2), omega (arith, m.3))

-- The partner of a budget's tree is another of the six, and its own partner.
pub partner_tree : (f : ℕ) → budget_ready ≤ f → f < tree_count → (partner f < tree_count) × (partner f ≢ f)
    × (partner (partner f) ≡ f)
unfolding partner if_less choose
partner_tree f a b = go (ltb f budget_exhausted) refl
  where
    go : (x : Bool) → ltb f budget_exhausted ≡ x → (choose x (f + 3) (f - 3) < tree_count) ×
        (choose x (f + 3) (f - 3) ≢ f)
        × (choose (ltb (choose x (f + 3) (f - 3)) budget_exhausted) (choose x (f + 3) (f - 3) + 3)
        (choose x (f + 3) (f - 3) - 3) ≡ f)
    go true e =
        let h = ltb-true f budget_exhausted e in
        (omega arith, (λ z. omega arith), rw (le-ltb (f + 3) budget_exhausted (omega arith)) (omega arith))
    go false e =
        let h = ltb-false f budget_exhausted e in
        (omega arith, (λ z. omega arith), rw (lt-ltb (f - 3) budget_exhausted (omega arith)) (omega arith))

-- The counts: one more or one less where x holds.
pub total_in_lem : (x : Bool) (a b : ℕ) → a < max_length → b ≡ choose x (suc a) a → total_in x a ≡ value b
unfolding total_in choose if_equal
total_in_lem true a b l e = rw (ne_eqb a max_length (λ z. omega arith)) (ap value (omega arith))
total_in_lem false a b l e = ap value (sym e)

pub total_out_lem : (x : Bool) (a b : ℕ) → a ≡ choose x (suc b) b → total_out x a ≡ value b
unfolding total_out choose if_equal
total_out_lem true a b e = rw (ne_eqb a 0 (λ z. omega arith)) (ap value (omega arith))
total_out_lem false a b e = ap value e

pub counted_in_lem : (x : Bool) (p : Parts) (b : ℕ) → p.budget_threads < max_length
    → b ≡ choose x (suc p.budget_threads) p.budget_threads → counted_in x p ≡ done (with_budget_threads p b)
unfolding counted_in choose if_equal
counted_in_lem true p b l e =
    rw (ne_eqb p.budget_threads max_length (λ z. omega arith))
    (ap (λ n. done (with_budget_threads p n)) (omega arith))
counted_in_lem false p b l e = ap (λ n. done (with_budget_threads p n)) (sym e)

pub counted_out_lem : (x : Bool) (p : Parts) (b : ℕ) → p.budget_threads ≡ choose x (suc b) b
    → counted_out x p ≡ done (with_budget_threads p b)
unfolding counted_out choose if_equal
counted_out_lem true p b e =
    rw (ne_eqb p.budget_threads 0 (λ z. omega arith)) (ap (λ n. done (with_budget_threads p n)) (omega arith))
counted_out_lem false p b e = ap (λ n. done (with_budget_threads p n)) e

-- The work, where each of its calls is accepted.
module _ (fifo budgeted : Bool) (t t₁ t₂ : List ThreadRecord) (p done' : Parts) (id : ℕ) (m : QueueMembership) (len : ℕ)
    (queue : ThreadQueue) (link : Option ℕ) where
  pub insert_work_lem : (front : Bool) → total_in fifo p.realtime_len ≡ value len
      → push_at front t p.list id m ≡ out (value queue) t₁
      → index·.insert t₁ p.root id ≡ out (Ok link) t₂
      → counted_in budgeted (tree_stored p queue len link) ≡ done done'
      → insert_work front fifo budgeted t p id m ≡ out (done done') t₂
  unfolding insert_work on_answer on_out on_rooted
  insert_work_lem front a b c d = rw (a, b, c, d)

  pub remove_work_lem : total_out fifo p.realtime_len ≡ value len → list.remove t p.list id m ≡ out (value queue) t₁
      → index·.remove t₁ p.root id ≡ out (Ok link) t₂
      → counted_out budgeted (tree_stored p queue len link) ≡ done done'
      → remove_work fifo budgeted t p id m ≡ out (done done') t₂
  unfolding remove_work on_answer on_out on_rooted
  remove_work_lem a b c d = rw (a, b, c, d)
