-- Demand 3 is not empty: a run, by computation, in which the premises hold and two protected threads wait in one tree.
-- And a queue with threads of two processors, from which a selection is accepted.
use Rattle.std.specs.Prelude.{ℕ, zero, suc, ◌+◌, ◌/◌, ◌≡◌, refl, Bool, true, false, List, [], ◌∷◌, Some, None, Ok}
use Rattle.std.proofs.Common.{sym, ◌∙◌, subst, arith}
use Rattle.refusal.specs.Answer.{value, damaged}
use Rattle.refusal.specs.Cases.{never}
use Rattle.policy.specs.declared.FairBackend.{FairBackend}
use Rattle.policy.specs.declared.FairBackend.TheVariants as backend
use Rattle.policy.specs.declared.SchedulingRole.TheVariants as role
use Rattle.policy.specs.Parameters.{of_fifo}
use Rattle.algorithms.specs.declared.PolicyRuntime.TheVariants as runtime
use Rattle.window_config.specs.Config.{sound_config, admitted}
use Rattle.arbitration.specs.declared.CpuWindow.{CpuWindow}
use Rattle.thread.specs.declared.ThreadRecord.{ThreadRecord}
use Rattle.thread.specs.Filing.{budget_available_of}
use Rattle.rows.specs.Table.{record_of, out}
use Rattle.ready_index.specs.Index.{contains}
use Rattle.queue.specs.RunQueue.{CpuRunQueue, tree_count}
use Rattle.queue.specs.Queue.{step, new_queue, root_of, is_budget, enqueue_call}
use Rattle.queue.specs.Samples.{cpu, fifo}
use Rattle.sound_queue.specs.Sound.{Sound, nobody, including, PriorityFits}
use Rattle.sound_queue.specs.SoundLaws.{included_other}
use Rattle.sound_queue.specs.PlaceLaws.{same_or_not}
use Rattle.selection.specs.Peek.{peek_next}
use Rattle.selection.specs.Samples.{window, thread, budgeted, answer_of, named}
use Rattle.sound_selection.specs.Claim.{refreshed_to, filed_ready, Premises, Call, enqueue_at, select_at, State}
use Rattle.sound_selection.specs.Claim.{Bytes, after, after_all, AllAllowed, Accepted, fresh, PremisesIn}
use Rattle.sound_selection.specs.Claim.{AnsweredIn}
use Rattle.sound_selection.specs.Reached.{Reached}
use Rattle.sound_selection.specs.Reached as reached
use Rattle.sound_selection.specs.ReachedSound.{reached_sound}
use Rattle.sound_selection.proofs.Demand3.{demand_3}
use Rattle.sound_selection.specs.Computing.{computing}

-- Threads 0, 1 and 2.
abbrev pub three : ℕ → Bool
three = including 2 (including 1 (including 0 nobody))

-- What the premises come to where these are queued: all are admitted, the first two have time left and are filed so,
-- and the third has no budget.
pub record Met (q : CpuRunQueue) (t : List ThreadRecord) (now : ℕ) (w : CpuWindow) (b : FairBackend) : Type 0 where
  pub window : sound_config w.config ≡ true
  pub admits : (admitted w.config (record_of t 0).parameters b ≡ true)
      × (admitted w.config (record_of t 1).parameters b ≡ true)
      × (admitted w.config (record_of t 2).parameters b ≡ true)
  pub left : (budget_available_of (refreshed_to now (record_of t 0)).runtime ≡ true)
      × (budget_available_of (refreshed_to now (record_of t 1)).runtime ≡ true)
  pub filed : (filed_ready q t (now / w.config.period_ns) 0 ≡ true)
      × (filed_ready q t (now / w.config.period_ns) 1 ≡ true)
  pub fifo : is_budget (record_of t 2).parameters.policy ≡ false

-- What holds of the three holds of everybody who is queued.
of_three_lem : (P : ℕ → Type 0) → P 0 → P 1 → P 2 → (j : ℕ) → three j ≡ true → P j
of_three_lem P p q r j e =
    same_or_not j 2 (λ x. subst P (sym x) r) (λ x. same_or_not j 1 (λ y. subst P (sym y) q)
    (λ y. same_or_not j 0 (λ z. subst P (sym z) p)
    (λ z. absurd (let n : false ≡ true =
    sym (included_other 2 (including 1 (including 0 nobody)) j x ∙ included_other 1 (including 0 nobody) j y
    ∙ included_other 0 nobody j z) ∙ e in
    never cc))))

pub three_met : {q : CpuRunQueue} {t : List ThreadRecord} {now : ℕ} {w : CpuWindow} {b : FairBackend} → Met q t now w b
    → Premises three q t now w
three_met {q} {t} {now} {w} {b} m = record {
  window = m.window;
  backend = b;
  admits =
      of_three_lem (λ j. admitted w.config (record_of t j).parameters b ≡ true) m.admits.0 m.admits.1
      m.admits.2;
  filing =
      of_three_lem (λ j. is_budget (record_of t j).parameters.policy ≡ true
      → budget_available_of (refreshed_to now (record_of t j)).runtime ≡ filed_ready q t (now / w.config.period_ns) j)
      (λ e. m.left.0 ∙ sym m.filed.0) (λ e. m.left.1 ∙ sym m.filed.1)
      (λ e. let n : true ≡ false = sym e ∙ m.fifo in never cc);
}

-- A protected loop of either hook with time left, one of them with the lower turn; and a FIFO thread on the priority
-- allowance.
abbrev crane : List ThreadRecord
crane =
    budgeted role.Protected None 2000000 tree_count ∷ budgeted role.Protected None 2000000 11
    ∷ thread (of_fifo (record { 0 = 5 }) (record { 0 = 1 }) role.Priority) runtime.Fifo 13 ∷ []

-- All three are enqueued, then a selection a nanosecond before protection is due.
abbrev calls : List Call
calls = enqueue_at false 0 ∷ enqueue_at true 1 ∷ enqueue_at false 2 ∷ select_at 6999999 window None ∷ []

abbrev crane_state : State
crane_state = after_all (cpu 0) calls (fresh crane)

-- The calls are allowed, and priorities are bytes.
crane_allowed : AllAllowed (cpu 0) calls (fresh crane)
crane_allowed =
    record {
      this = tt;
      rest = record {
        this = tt;
        rest = record { this = tt; rest = record { this = tt; rest = tt } };
      };
    }

crane_bytes : Bytes crane
unfolding record_of
crane_bytes zero l = tt
crane_bytes (suc zero) l = tt
crane_bytes (suc (suc zero)) l = omega arith
crane_bytes (suc (suc (suc n))) l = absurd (omega arith)

-- A FIFO thread and a less urgent one of another processor, each enqueued by its own.
abbrev mixed : List ThreadRecord
mixed = fifo 5 0 ∷ fifo 6 1 ∷ []

abbrev first_in : State
first_in = after (cpu 0) (enqueue_at false 0) (fresh mixed)

abbrev both_in : State
both_in = after (cpu 1) (enqueue_at false 1) first_in

-- What computation gives of these runs.
pub record Computed : Type 0 where
  -- The two wait in one tree, the three are queued, and the premises are met.
  pub root : root_of crane_state.queue 8 ≡ Some 0
  pub waits : contains crane_state.table (root_of crane_state.queue 8) 1 ≡ (Ok true)
  pub queued : crane_state.queued ≡ three
  pub met : Met crane_state.queue crane_state.table 7000000 window backend.Stride
  -- Before protection is due the FIFO thread is named; then the protected one with the lower turn.
  pub undue : named (answer_of (peek_next crane_state.table crane_state.queue
      (cpu 0) 6999999 window None)) ≡ 1 + 2
  pub due : named (answer_of (peek_next crane_state.table crane_state.queue (cpu 0) 7000000 window None))
      ≡ 1 + 1
  -- Both enqueues are accepted. The more urgent thread is the head of their tree: a selection for its processor names
  -- it, and one for the other processor is refused.
  pub first_accepted : enqueue_call false mixed new_queue 0 (cpu 0)
      ≡ out (step (value tt) first_in.queue) first_in.table
  pub second_accepted : enqueue_call false first_in.table first_in.queue 1 (cpu 1)
      ≡ out (step (value tt) both_in.queue) both_in.table
  pub fits : PriorityFits (record_of mixed 0).parameters.policy
      × PriorityFits (record_of first_in.table 1).parameters.policy
  pub selection : Accepted (cpu 0) (select_at 0 window None) both_in
  pub its_own : named (answer_of (peek_next both_in.table both_in.queue (cpu 0) 0 window None)) ≡ 1 + 0
  pub not_own : named (answer_of (peek_next both_in.table both_in.queue (cpu 1) 0 window None))
      ≡ 100 + damaged

pub crane_computed : Computed
unfolding computing
crane_computed = record {
  root = refl;
  waits = refl;
  queued = refl;
  met =
      record {
        window = refl;
        admits = (refl, refl, refl);
        left = (refl, refl);
        filed = (refl, refl);
        fifo = refl;
      };
  undue = refl;
  due = refl;
  first_accepted = refl;
  second_accepted = refl;
  fits = (omega arith, omega arith);
  selection = (_, _, _, _, refl);
  its_own = refl;
  not_own = refl;
}

-- The premises hold.
crane_premises : PremisesIn crane_state 7000000 window
crane_premises =
    subst (λ (f : ℕ → Bool). Premises f crane_state.queue crane_state.table 7000000 window)
    (sym crane_computed.queued) (three_met crane_computed.met)

-- So demand 3 speaks of this run: the thread that is named has the least key of the three.
pub crane_answered : AnsweredIn (cpu 0) crane_state 7000000 window None
crane_answered =
    demand_3 (cpu 0) crane (omega arith) crane_bytes calls crane_allowed 7000000 window None crane_premises

-- Accepted calls for two processors lead to the queue that the selection leaves, so that it is sound.
pub mixed_reached : Reached (including 1 (including 0 nobody)) crane_computed.selection.2
    crane_computed.selection.3
mixed_reached =
    let c = crane_computed in
    let x = c.selection in
    reached.selected (cpu 0) (including 1 (including 0 nobody)) both_in.queue x.2 both_in.table x.3 0 window
    x.1 None x.0
    (reached.enqueued (cpu 1) (including 0 nobody) first_in.queue both_in.queue first_in.table both_in.table
    false 1
    (reached.enqueued (cpu 0) nobody new_queue first_in.queue mixed first_in.table false 0
    (reached.new mixed (omega arith)) c.fits.0 c.first_accepted)
    c.fits.1 c.second_accepted) x.4

pub mixed_sound : Sound (including 1 (including 0 nobody)) crane_computed.selection.2 crane_computed.selection.3
mixed_sound = reached_sound mixed_reached
