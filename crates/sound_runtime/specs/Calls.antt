-- Preparing and accounting, each refusal in document 01's order and nothing else refused; and a refusal changes
-- nothing.
use Rattle.std.specs.Prelude.{ℕ, ◌≡◌, refl, Bool, true, false, List, ltb, length, Option}
use Rattle.std.proofs.Common.{ltb-true, ltb-false}
use Rattle.refusal.specs.Answer.{Answer, value, refused, already, no_thread, bad_config, back_in_time, bad_table}
use Rattle.refusal.specs.Answer.{bad_record}
use Rattle.refusal.specs.Cases.{choose, if_less, given, and_then}
use Rattle.algorithms.specs.declared.PolicyRuntime.{PolicyRuntime}
use Rattle.thread.specs.declared.ThreadRecord.{ThreadRecord}
use Rattle.thread.specs.Membership.{is_unqueued}
use Rattle.thread.specs.Judgement.{is_bad_record}
use Rattle.arbitration.specs.declared.CpuWindow.{CpuWindow}
use Rattle.arbitration.specs.declared.DispatchMode.{DispatchMode}
use Rattle.window_config.specs.Config.{sound_config}
use Rattle.arbitration.specs.Window.{charged}
use Rattle.arbitration.specs.Calls.{With, with, judged, account_call}
use Rattle.rows.specs.Table.{Out, out, record_of, record_at}
use Rattle.rows.specs.TableCases.{on_record}
use Rattle.rows.specs.TableLaws.{record_within, record_beyond}
use Rattle.queue.specs.Queue.{max_records}
use Rattle.decisions.specs.declared.Turns.{Turns}
use Rattle.runtime.specs.declared.Preparation.{Preparation}
use Rattle.runtime.specs.declared.Accounting.{Accounting}
use Rattle.decisions.specs.declared.Contention.{Contention}
use Rattle.runtime.specs.declared.Due.{Due}
use Rattle.decisions.specs.Turns.{turn_for}
use Rattle.runtime.specs.Judging as judging
use Rattle.runtime.specs.Prepare.{Counted, counted, prepare_record, preparation, prepared, prepare_enqueue}
use Rattle.runtime.specs.Account.{account_record, accounting, settled, account_current}
use Rattle.runtime.specs.Deadline.{armed, due_of, refresh_deadline}
use Rattle.runtime.specs.Judged.{fresh_of, refreshes, charged_of, accounts}

-- A judged record goes on.
abbrev goes_on : {A : Type 0} → List ThreadRecord → ℕ → (ThreadRecord → Answer A) → Answer A
goes_on t id f =
    if_less id (length t) (choose (is_bad_record (record_of t id)) (refused bad_record) (f (record_of t id)))
    (refused no_thread)

judged_at_lem : {A : Type 0} (t : List ThreadRecord) (id : ℕ) (f g : ThreadRecord → Answer A)
    → ((r : ThreadRecord) → is_bad_record r ≡ false → f r ≡ g r)
    → and_then (judging.judged_at t id) f ≡ goes_on t id g
unfolding judging.judged_at and_then if_less choose on_record
judged_at_lem t id f g same = go (ltb id (length t)) refl
  where
    bad : (x : Bool) → is_bad_record (record_of t id) ≡ x
        → and_then (choose x (refused bad_record) (value (record_of t id))) f
        ≡ choose x (refused bad_record) (g (record_of t id))
    bad true e = refl
    bad false e = same (record_of t id) e

    go : (x : Bool) → ltb id (length t) ≡ x
        → and_then (on_record (record_at t id) (refused no_thread)
        (λ r. choose (is_bad_record r) (refused bad_record) (value r))) f
        ≡ choose x (choose (is_bad_record (record_of t id)) (refused bad_record) (g (record_of t id)))
        (refused no_thread)
    go true e = rw (record_within t id (ltb-true id (length t) e)) (bad (is_bad_record (record_of t id)) refl)
    go false e = rw (record_beyond t id (ltb-false id (length t) e))

prepare_record_is : (r : ThreadRecord) (front : Bool) (now : ℕ) (c : Turns) → is_bad_record r ≡ false
    → prepare_record r front now c
    ≡ choose (is_unqueued r.queue_links.membership)
    (and_then (turn_for front r.parameters.policy r.ready_turn c)
    (λ taken. value (record {
      runtime = fresh_of r.runtime r.parameters.budget now;
      turn = taken.turn;
      turns = taken.turns;
    })))
    (refused already)
unfolding prepare_record and_then
prepare_record_is r front now c e = rw (refreshes r now e)

-- Preparing refuses by BadTable, NoThread, BadRecord, Already and TurnsSpent, in that order; else it gives the
-- refreshed runtime and the turn.
pub preparation_is : (t : List ThreadRecord) (id : ℕ) (front : Bool) (now : ℕ) (c : Turns)
    → preparation t id front now c
    ≡ if_less max_records (length t) (refused bad_table)
    (if_less id (length t)
    (choose (is_bad_record (record_of t id)) (refused bad_record)
    (choose (is_unqueued (record_of t id).queue_links.membership)
    (and_then (turn_for front (record_of t id).parameters.policy (record_of t id).ready_turn c)
    (λ taken. value (record {
      runtime = fresh_of (record_of t id).runtime (record_of t id).parameters.budget now;
      turn = taken.turn;
      turns = taken.turns;
    })))
    (refused already)))
    (refused no_thread))
unfolding preparation judging.judged and_then if_less choose
preparation_is t id front now c = go (ltb max_records (length t))
  where
    plan : ThreadRecord → Answer Preparation
    plan r =
        choose (is_unqueued r.queue_links.membership)
        (and_then (turn_for front r.parameters.policy r.ready_turn c)
        (λ taken. value (record {
          runtime = fresh_of r.runtime r.parameters.budget now;
          turn = taken.turn;
          turns = taken.turns;
        })))
        (refused already)

    go : (x : Bool) → and_then (choose x (refused bad_table) (judging.judged_at t id))
        (λ r. prepare_record r front now c)
        ≡ choose x (refused bad_table) (goes_on t id plan)
    go true = refl
    go false = judged_at_lem t id (λ r. prepare_record r front now c) plan (λ r e. prepare_record_is r front now c e)

account_record_is : (r : ThreadRecord) (w : CpuWindow) (m : DispatchMode) (start end : ℕ)
    → sound_config w.config ≡ true → is_bad_record r ≡ false
    → account_record r w m start end
    ≡ if_less end start (refused back_in_time)
    (value (record {
      runtime = charged_of r.runtime r.parameters.budget start end;
      window = charged w start end r.parameters m;
    }))
unfolding account_record and_then judging.on_with account_call judged if_less choose given
account_record_is r w m start end s e = rw (accounts r start end e, s) (go (ltb end start))
  where
    x : PolicyRuntime
    x = charged_of r.runtime r.parameters.budget start end

    v : CpuWindow
    v = charged w start end r.parameters m

    go : (b : Bool)
        → and_then {A = PolicyRuntime} {B = Accounting} (choose b (refused back_in_time) (value x))
        (λ x. judging.on_with {A = Unit {0}} (choose b (with (refused back_in_time) w) (with (value tt) v)) refused
        (λ u charged. value (record { runtime = x; window = charged })))
        ≡ choose b (refused back_in_time) (value (record { runtime = x; window = v }))
    go true = refl
    go false = refl

-- Accounting refuses by BadTable, BadConfig, NoThread, BadRecord and BackInTime, in that order; else it charges the
-- record's runtime and the window.
pub accounting_is : (t : List ThreadRecord) (id : ℕ) (w : CpuWindow) (m : DispatchMode) (start end : ℕ)
    → accounting t id w m start end
    ≡ if_less max_records (length t) (refused bad_table)
    (choose (sound_config w.config)
    (if_less id (length t)
    (choose (is_bad_record (record_of t id)) (refused bad_record)
    (if_less end start (refused back_in_time)
    (value (record {
      runtime = charged_of (record_of t id).runtime (record_of t id).parameters.budget start end;
      window = charged w start end (record_of t id).parameters m;
    }))))
    (refused no_thread))
    (refused bad_config))
unfolding accounting judging.judged_with and_then if_less choose
accounting_is t id w m start end = go (ltb max_records (length t)) (sound_config w.config) refl
  where
    plan : ThreadRecord → Answer Accounting
    plan r = if_less end start (refused back_in_time)
        (value (record {
          runtime = charged_of r.runtime r.parameters.budget start end;
          window = charged w start end r.parameters m;
        }))

    go : (x y : Bool) → sound_config w.config ≡ y
        → and_then (choose x (refused bad_table) (choose y (judging.judged_at t id) (refused bad_config)))
        (λ r. account_record r w m start end)
        ≡ choose x (refused bad_table) (choose y (goes_on t id plan) (refused bad_config))
    go true y e = refl
    go false false e = refl
    go false true s =
        judged_at_lem t id (λ r. account_record r w m start end) plan (λ r e. account_record_is r w m start end s e)

-- Refused preparing leaves counters and table as they were.
pub record PreparingKept (t : List ThreadRecord) (c : Turns) (s : List ThreadRecord) (d : Turns) : Type 0 where
  pub counters : d ≡ c
  pub records : s ≡ t

abbrev PreparingKeeps : List ThreadRecord → Turns → Out Counted → Type 0
PreparingKeeps t c (out (counted (value u) d) s) = Unit {0}
PreparingKeeps t c (out (counted (refused n) d) s) = PreparingKept t c s d

pub preparing_refused : (t : List ThreadRecord) (id : ℕ) (front : Bool) (now : ℕ) (c : Turns)
    → PreparingKeeps t c (prepare_enqueue t id front now c)
unfolding prepare_enqueue prepared
preparing_refused t id front now c = go (preparation t id front now c)
  where
    go : (x : Answer Preparation) → PreparingKeeps t c (prepared t id c x)
    go (value p) = tt
    go (refused n) = record { counters = refl; records = refl }

-- Refused accounting, and a refused choice of deadline, leave window and table as they were.
pub record WindowKept (t : List ThreadRecord) (w : CpuWindow) (s : List ThreadRecord) (v : CpuWindow) : Type 0 where
  pub window : v ≡ w
  pub records : s ≡ t

abbrev WindowKeeps : {A : Type 0} → List ThreadRecord → CpuWindow → Out (With A) → Type 0
WindowKeeps t w (out (with (value a) v) s) = Unit {0}
WindowKeeps t w (out (with (refused n) v) s) = WindowKept t w s v

pub accounting_refused : (t : List ThreadRecord) (id : ℕ) (w : CpuWindow) (m : DispatchMode) (start end : ℕ)
    → WindowKeeps t w (account_current t id w m start end)
unfolding account_current settled
accounting_refused t id w m start end = go (accounting t id w m start end)
  where
    go : (x : Answer Accounting) → WindowKeeps t w (settled t id w x)
    go (value a) = tt
    go (refused n) = record { window = refl; records = refl }

pub deadline_refused : (t : List ThreadRecord) (id now : ℕ) (m : Option DispatchMode) (w : CpuWindow) (x : Contention)
    → WindowKeeps t w (refresh_deadline t id now m w x)
unfolding refresh_deadline armed
deadline_refused t id now m w x = go (due_of t id now m w x)
  where
    go : (d : Answer Due) → WindowKeeps t w (armed t id w d)
    go (value d) = tt
    go (refused n) = record { window = refl; records = refl }
