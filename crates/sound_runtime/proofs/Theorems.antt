-- The theorems about turns, budgets and windows.
use Rattle.std.specs.Prelude.{ℕ, ◌-◌, ◌<◌, ◌≤◌, ◌≡◌, Bool, false, List, ltb, length, Option, Some, None}
use Rattle.std.proofs.Common.{arith, ◌∙◌, subst, ltb-true}
use Rattle.std.proofs.Math.Path.{refl, ap}
use Rattle.std.proofs.Math.Bool.{true}
use Rattle.refusal.specs.Answer.{Answer, value, refused, already, no_thread, bad_config, back_in_time, turns_spent}
use Rattle.refusal.specs.Answer.{bad_table, bad_record}
use Rattle.refusal.specs.Cases.{choose, if_less, and_then}
use Rattle.std.specs.declared.cmp.Ordering.TheVariants.{Less}
use Rattle.policy.specs.declared.ThreadPriority.{ThreadPriority}
use Rattle.policy.specs.declared.SchedulingPolicy.{SchedulingPolicy}
use Rattle.policy.specs.declared.SchedulingPolicy.TheVariants as policy
use Rattle.policy.specs.PolicyCases.{on_policy}
use Rattle.algorithms.specs.declared.PolicyRuntime.{PolicyRuntime}
use Rattle.algorithms.specs.declared.PolicyRuntime.TheVariants as runtime
use Rattle.thread.specs.declared.ThreadRecord.{ThreadRecord}
use Rattle.thread.specs.Membership.{is_unqueued}
use Rattle.thread.specs.Judgement.{is_bad_record}
use Rattle.thread.specs.Records.{with_runtime}
use Rattle.thread.specs.TreeKey.{ready_index_key, compare_tree_keys}
use Rattle.arbitration.specs.declared.Candidate.{Candidate}
use Rattle.arbitration.specs.declared.CpuWindow.{CpuWindow}
use Rattle.arbitration.specs.declared.Demand.{Demand}
use Rattle.arbitration.specs.declared.DispatchMode.{DispatchMode}
use Rattle.window_config.specs.Config.{sound_config}
use Rattle.arbitration.specs.Window.{charged}
use Rattle.arbitration.specs.Calls.{With, with}
use Rattle.rows.specs.Table.{Out, out, after, record_of, set_runtime}
use Rattle.rows.specs.TableLaws.{record_same, after_set_runtime}
use Rattle.queue.specs.Queue.{max_records}
use Rattle.decisions.specs.declared.Turns.{Turns}
use Rattle.decisions.specs.declared.Taken.{Taken}
use Rattle.runtime.specs.declared.Preparation.{Preparation}
use Rattle.decisions.specs.Turns.{new_turns, front_turn, turn_for}
use Rattle.runtime.specs.Prepare.{Counted, counted, prepared, prepare_enqueue}
use Rattle.runtime.specs.Account.{settled, account_current}
use Rattle.sound_runtime.specs.Handed.{Call, handed_out, counters_of, InOrder, NoRepeat, among}
use Rattle.sound_runtime.specs.Outcome.{stored_record}
use Rattle.sound_runtime.proofs.Order.{in_order_lem, no_repeat, between}
use Rattle.sound_runtime.specs.Keys.{Alike, tree_key_less, Ahead, dispatch_key_less}
use Rattle.sound_runtime.specs.Budgets.{refreshed_within, charged_less, WindowCharged}
use Rattle.sound_runtime.specs.Budgets.{window_charged_less}
use Rattle.runtime.specs.Judged.{fresh_of, charged_of}
use Rattle.sound_runtime.specs.Calls.{preparation_is, accounting_is}
use Rattle.policy.specs.declared.BudgetParameters.{BudgetParameters}

-- Of the turns that any list of calls hands out from new counters, back turns rise, front turns fall, and every front
-- turn is less than every back turn.
pub turns_in_order : (calls : List Call) → InOrder (handed_out calls new_turns)
turns_in_order calls = in_order_lem calls new_turns (omega arith)

-- So none is handed out twice.
pub turns_never_repeat : (calls : List Call) → NoRepeat (handed_out calls new_turns)
turns_never_repeat calls = no_repeat (handed_out calls new_turns) (turns_in_order calls)

-- What an accepted call at the front leaves of a FIFO record: the turn before the front counter, and its parameters.
pub record FrontPrepared (t : List ThreadRecord) (id : ℕ) (c : Turns) (s : List ThreadRecord) : Type 0 where
  pub room : 1 < c.front
  pub turn : (record_of s id).ready_turn ≡ c.front - 1
  pub parameters : (record_of s id).parameters ≡ (record_of t id).parameters

abbrev IfFront : List ThreadRecord → ℕ → Turns → Out Counted → Type 0
IfFront t id c (out (counted (value u) d) s) = FrontPrepared t id c s
IfFront t id c (out (counted (refused n) d) s) = Unit {0}

abbrev IsFront : Turns → Answer Taken → Type 0
IsFront c (value x) = (1 < c.front) × (x.turn ≡ c.front - 1)
IsFront c (refused n) = Unit {0}

is_front : (p : SchedulingPolicy) (x : ThreadPriority) (turn : ℕ) (c : Turns) → p ≡ policy.Fifo x
    → IsFront c (turn_for true p turn c)
unfolding turn_for front_turn on_policy if_less choose
is_front p x turn c e = rw e (go (ltb 1 c.front) refl)
  where
    go : (b : Bool) → ltb 1 c.front ≡ b
        → IsFront c (choose b (value (record {
          turn = c.front - 1;
          turns = record { back = c.back; front = c.front - 1 };
        })) (refused turns_spent))
    go true h = (ltb-true 1 c.front h, refl)
    go false h = tt

module _ (t : List ThreadRecord) (id : ℕ) (c : Turns) where
  front_by : (x : PolicyRuntime) (taken : Answer Taken) → IsFront c taken → id < length t
      → IfFront t id c (prepared t id c
      (and_then taken (λ taken. value (record { runtime = x; turn = taken.turn; turns = taken.turns }))))
  unfolding prepared and_then
  front_by x (refused n) h l = tt
  front_by x (value taken) h l =
      record {
        room = h.0;
        turn =
            ap (λ (r : ThreadRecord). r.ready_turn)
            (stored_record t id (record { runtime = x; turn = taken.turn; turns = taken.turns }) l) ∙ h.1;
        parameters =
            ap (λ (r : ThreadRecord). r.parameters)
            (stored_record t id (record { runtime = x; turn = taken.turn; turns = taken.turns }) l);
      }

  front_prepared : (now : ℕ) (x : ThreadPriority) → (record_of t id).parameters.policy ≡ policy.Fifo x
      → IfFront t id c (prepare_enqueue t id true now c)
  unfolding prepare_enqueue prepared if_less choose
  front_prepared now x e =
      rw (preparation_is t id true now c)
      (go (ltb max_records (length t)) (ltb id (length t)) refl (is_bad_record (record_of t id))
      (is_unqueued (record_of t id).queue_links.membership))
    where
      plan : Answer Preparation
      plan =
          and_then (turn_for true (record_of t id).parameters.policy (record_of t id).ready_turn c)
          (λ taken. value (record {
            runtime = fresh_of (record_of t id).runtime (record_of t id).parameters.budget now;
            turn = taken.turn;
            turns = taken.turns;
          }))

      go : (large within : Bool) → ltb id (length t) ≡ within → (bad unqueued : Bool)
          → IfFront t id c (prepared t id c
          (choose large (refused bad_table)
          (choose within (choose bad (refused bad_record) (choose unqueued plan (refused already)))
          (refused no_thread))))
      go true within l bad unqueued = tt
      go false false l bad unqueued = tt
      go false true l true unqueued = tt
      go false true l false false = tt
      go false true l false true =
          front_by (fresh_of (record_of t id).runtime (record_of t id).parameters.budget now)
          (turn_for true (record_of t id).parameters.policy (record_of t id).ready_turn c)
          (is_front (record_of t id).parameters.policy x (record_of t id).ready_turn c e) (ltb-true id (length t) l)

-- A FIFO thread is prepared at the front after any calls on the same counters.
pub record AtFront (calls : List Call) (c : Turns) (t : List ThreadRecord) (id : ℕ)
    (s : List ThreadRecord) : Type 0 where
  pub counters : c.front ≤ c.back
  pub reading : ℕ
  pub after_counters : Turns
  pub priority : ThreadPriority
  pub fifo : (record_of t id).parameters.policy ≡ policy.Fifo priority
  pub accepted : prepare_enqueue t id true reading (counters_of calls c) ≡ out (counted (value tt) after_counters) s

module _ {calls : List Call} {c : Turns} {t : List ThreadRecord} {id : ℕ} {s : List ThreadRecord}
    (P : AtFront calls c t id s) where
  at_front_lem : FrontPrepared t id (counters_of calls c) s
  at_front_lem =
      subst (IfFront t id (counters_of calls c)) P.accepted
      (front_prepared t id (counters_of calls c) P.reading P.priority P.fifo)

  -- Its turn is less than every turn that the calls handed out.
  pub front_turn_least : (n : ℕ) → among n (handed_out calls c) ≡ true → (record_of s id).ready_turn < n
  front_turn_least n h =
      let low : (counters_of calls c).front ≤ n = (between calls c P.counters n h).0 in
      let room : 1 < (counters_of calls c).front = at_front_lem.room in
      let turn : (record_of s id).ready_turn ≡ (counters_of calls c).front - 1 = at_front_lem.turn in
      omega arith

  -- So its tree key is less than that of every FIFO thread of its priority and band with such a turn: within its role
  -- it comes first.
  pub front_key_least : (other : ThreadRecord) (j : ℕ) → Alike (record_of s id).parameters other.parameters
      → among other.ready_turn (handed_out calls c) ≡ true
      → compare_tree_keys (ready_index_key (record_of s id) id) (ready_index_key other j) ≡ Less
  front_key_least other j a h = tree_key_less (record_of s id) other id j a (front_turn_least other.ready_turn h)

  -- And so is its dispatch key, of the same role, under any window, reading and demand.
  pub front_dispatch_least : (w : CpuWindow) (now : ℕ) (d : Demand) (a b : Candidate)
      → a.turn ≡ (record_of s id).ready_turn → Alike a.parameters b.parameters
      → a.parameters.role ≡ b.parameters.role → a.parameters.budget ≡ None
      → b.parameters.budget ≡ None
      → among b.turn (handed_out calls c) ≡ true → Ahead w now d a b
  front_dispatch_least w now d a b e x r m n h =
      let less : (record_of s id).ready_turn < b.turn = front_turn_least b.turn h in
      dispatch_key_less w now d a b x r m n (omega arith)

-- A budget's runtime has no more than its budget; of a runtime without a budget nothing is asked.
abbrev pub Within : PolicyRuntime → Option BudgetParameters → Type 0
Within (runtime.Budget b) (Some q) = b.remaining_ns ≤ q.budget_ns
Within (runtime.Budget b) None = Unit {0}
Within runtime.Fifo q = Unit {0}
Within (runtime.Fair f) q = Unit {0}
Within runtime.Idle q = Unit {0}

fresh_within : (x : PolicyRuntime) (q : Option BudgetParameters) (now : ℕ) → Within (fresh_of x q now) q
fresh_within (runtime.Budget b) (Some q) now = refreshed_within b now q
fresh_within (runtime.Budget b) None now = tt
fresh_within runtime.Fifo q now = tt
fresh_within (runtime.Fair f) q now = tt
fresh_within runtime.Idle q now = tt

charged_within : (x : PolicyRuntime) (q : Option BudgetParameters) (start end : ℕ) → Within (charged_of x q start end) q
charged_within (runtime.Budget b) (Some q) start end = (charged_less b start end q).within
charged_within (runtime.Budget b) None start end = tt
charged_within runtime.Fifo q start end = tt
charged_within (runtime.Fair f) q start end = tt
charged_within runtime.Idle q start end = tt

-- The record with this number has no more than its budget, where the call was accepted.
abbrev pub PreparedWithin : ℕ → Out Counted → Type 0
PreparedWithin id (out (counted (value u) d) s) = Within (record_of s id).runtime (record_of s id).parameters.budget
PreparedWithin id (out (counted (refused n) d) s) = Unit {0}

-- A prepared thread has no more than its budget.
pub prepared_within : (t : List ThreadRecord) (id : ℕ) (front : Bool) (now : ℕ) (c : Turns)
    → PreparedWithin id (prepare_enqueue t id front now c)
unfolding prepare_enqueue prepared if_less choose and_then
prepared_within t id front now c =
    rw (preparation_is t id front now c)
    (go (ltb max_records (length t)) (ltb id (length t)) refl (is_bad_record (record_of t id))
    (is_unqueued (record_of t id).queue_links.membership)
    (turn_for front (record_of t id).parameters.policy (record_of t id).ready_turn c))
  where
    x : PolicyRuntime
    x = fresh_of (record_of t id).runtime (record_of t id).parameters.budget now

    plan : Answer Taken → Answer Preparation
    plan taken = and_then taken (λ taken. value (record { runtime = x; turn = taken.turn; turns = taken.turns }))

    stored : (taken : Answer Taken) → id < length t → PreparedWithin id (prepared t id c (plan taken))
    stored (refused n) l = tt
    stored (value taken) l =
        rw (stored_record t id (record { runtime = x; turn = taken.turn; turns = taken.turns }) l)
        (fresh_within (record_of t id).runtime (record_of t id).parameters.budget now)

    go : (large within : Bool) → ltb id (length t) ≡ within → (bad unqueued : Bool) (taken : Answer Taken)
        → PreparedWithin id (prepared t id c
        (choose large (refused bad_table)
        (choose within (choose bad (refused bad_record) (choose unqueued (plan taken) (refused already)))
        (refused no_thread))))
    go true within l bad unqueued taken = tt
    go false false l bad unqueued taken = tt
    go false true l true unqueued taken = tt
    go false true l false false taken = tt
    go false true l false true taken = stored taken (ltb-true id (length t) l)

-- What accepted accounting leaves: no more than the budget, the turn and every part but the runtime, and no more of
-- allowance and floor than the window's refresh gave.
pub record Accounted (t : List ThreadRecord) (id : ℕ) (w : CpuWindow) (end : ℕ) (v : CpuWindow)
    (s : List ThreadRecord) : Type 0 where
  pub within : Within (record_of s id).runtime (record_of s id).parameters.budget
  pub parts : record_of s id ≡ with_runtime (record_of s id).runtime (record_of t id)
  pub window : WindowCharged w v end

abbrev pub IfAccounted : List ThreadRecord → ℕ → CpuWindow → ℕ → Out (With (Unit {0})) → Type 0
IfAccounted t id w end (out (with (value u) v) s) = Accounted t id w end v s
IfAccounted t id w end (out (with (refused n) v) s) = Unit {0}

pub accounted_within : (t : List ThreadRecord) (id : ℕ) (w : CpuWindow) (m : DispatchMode) (start end : ℕ)
    → IfAccounted t id w end (account_current t id w m start end)
unfolding account_current settled if_less choose
accounted_within t id w m start end =
    rw (accounting_is t id w m start end)
    (go (ltb max_records (length t)) (sound_config w.config) (ltb id (length t)) refl (is_bad_record (record_of t id))
    (ltb end start))
  where
    x : PolicyRuntime
    x = charged_of (record_of t id).runtime (record_of t id).parameters.budget start end

    stored : id < length t → record_of (after (set_runtime t id x)) id ≡ with_runtime x (record_of t id)
    stored l = rw (after_set_runtime t id x) (record_same t id (with_runtime x) l)

    done : id < length t → Accounted t id w end (charged w start end (record_of t id).parameters m)
        (after (set_runtime t id x))
    done l = record {
      within = rw (stored l) (charged_within (record_of t id).runtime (record_of t id).parameters.budget start end);
      parts = rw (stored l);
      window = window_charged_less w start end (record_of t id).parameters m;
    }

    go : (large sound within : Bool) → ltb id (length t) ≡ within → (bad back : Bool)
        → IfAccounted t id w end (settled t id w
        (choose large (refused bad_table) (choose sound (choose within (choose bad (refused bad_record)
        (choose back (refused back_in_time)
        (value (record { runtime = x; window = charged w start end (record_of t id).parameters m }))))
        (refused no_thread)) (refused bad_config))))
    go true sound within l bad back = tt
    go false false within l bad back = tt
    go false true false l bad back = tt
    go false true true l true back = tt
    go false true true l false true = tt
    go false true true l false false = done (ltb-true id (length t) l)
