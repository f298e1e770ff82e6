-- What one call of `prepare_enqueue` does to the counters: it hands out one turn at one end, or leaves both as they
-- were.
use Rattle.std.specs.Prelude.{ℕ, ◌+◌, ◌-◌, ◌<◌, ◌≡◌, refl, Bool, true, false, List, ltb, eqb, length, Option, Some}
use Rattle.std.specs.Prelude.{None, Result, Ok, Err}
use Rattle.std.proofs.Common.{arith, ap, ◌∙◌, ltb-true, eq-eqb, ne_eqb}
use Rattle.refusal.specs.Answer.{Answer, value, refused, already, no_thread, turns_spent, bad_table, bad_record}
use Rattle.refusal.specs.Cases.{choose, if_less, if_equal, given, and_then}
use Rattle.time.specs.Time.{max_time}
use Rattle.policy.specs.declared.SchedulingPolicy.{SchedulingPolicy}
use Rattle.policy.specs.declared.SchedulingPolicy.TheVariants as policy
use Rattle.policy.specs.PolicyCases.{on_policy}
use Rattle.algorithms.specs.declared.PolicyRuntime.{PolicyRuntime}
use Rattle.algorithms.specs.Runtime.{epoch_refreshed}
use Rattle.thread.specs.declared.ThreadRecord.{ThreadRecord}
use Rattle.thread.specs.Membership.{is_unqueued}
use Rattle.thread.specs.Judgement.{is_bad_record}
use Rattle.thread.specs.Records.{with_runtime, with_turn}
use Rattle.rows.specs.Table.{out, after, record_of, record_at, changed, set_runtime}
use Rattle.rows.specs.TableCases.{on_record}
use Rattle.rows.specs.TableLaws.{record_within, record_got_within, record_same, length_changed, after_set_runtime}
use Rattle.rows.specs.TableLaws.{after_set_turn}
use Rattle.queue.specs.Queue.{max_records}
use Rattle.decisions.specs.declared.Turns.{Turns}
use Rattle.decisions.specs.declared.Taken.{Taken}
use Rattle.runtime.specs.declared.Preparation.{Preparation}
use Rattle.decisions.specs.Turns.{front_turn, back_turn, kept_turn, turn_for}
use Rattle.runtime.specs.Judging.{judged_at, judged}
use Rattle.runtime.specs.Prepare.{counted, prepare_record, preparation, stored_preparation, prepared}
use Rattle.runtime.specs.Prepare.{prepare_enqueue}
use Rattle.sound_runtime.specs.Handed.{Call, prepare, made, named, Handed, at_front, at_back, counters_after}
use Rattle.sound_runtime.specs.Handed.{handed}
use Rattle.refusal.specs.declared.Damaged.{Damaged}

-- A turn, and the counters before and after it was taken or kept.
pub data Taking (c : Turns) : ℕ → Turns → Type 0 where
  keeps : (n : ℕ) → Taking c n c
  takes_back : c.back < max_time → Taking c c.back (record { back = c.back + 1; front = c.front })
  takes_front : 1 < c.front → Taking c (c.front - 1) (record { back = c.back; front = c.front - 1 })

abbrev TakesTurn : Turns → Answer Taken → Type 0
TakesTurn c (value x) = Taking c x.turn x.turns
TakesTurn c (refused n) = Unit {0}

back_taken : (c : Turns) → TakesTurn c (back_turn c)
unfolding back_turn if_less choose
back_taken c = go (ltb c.back max_time) refl
  where
    go : (b : Bool) → ltb c.back max_time ≡ b
        → TakesTurn c (choose b (value
        (record { turn = c.back; turns = record { back = c.back + 1; front = c.front } })) (refused turns_spent))
    go true e = takes_back (ltb-true c.back max_time e)
    go false e = tt

front_taken : (c : Turns) → TakesTurn c (front_turn c)
unfolding front_turn if_less choose
front_taken c = go (ltb 1 c.front) refl
  where
    go : (b : Bool) → ltb 1 c.front ≡ b
        → TakesTurn c (choose b (value
        (record { turn = c.front - 1; turns = record { back = c.back; front = c.front - 1 } })) (refused turns_spent))
    go true e = takes_front (ltb-true 1 c.front e)
    go false e = tt

kept_taken : (turn : ℕ) (c : Turns) → TakesTurn c (kept_turn turn c)
unfolding kept_turn if_equal choose
kept_taken turn c = go (eqb turn 0)
  where
    go : (b : Bool) → TakesTurn c (choose b (back_turn c) (value (record { turn = turn; turns = c })))
    go true = back_taken c
    go false = keeps turn

turn_taken : (front : Bool) (p : SchedulingPolicy) (turn : ℕ) (c : Turns) → TakesTurn c (turn_for front p turn c)
unfolding turn_for choose on_policy
turn_taken false p turn c = back_taken c
turn_taken true (policy.Fifo priority) turn c = front_taken c
turn_taken true policy.Fair turn c = kept_taken turn c
turn_taken true policy.Budget turn c = kept_taken turn c
turn_taken true policy.Idle turn c = kept_taken turn c

abbrev pub Takes : Turns → Answer Preparation → Type 0
Takes c (value p) = Taking c p.turn p.turns
Takes c (refused n) = Unit {0}

record_takes : (r : ThreadRecord) (front : Bool) (now : ℕ) (c : Turns) → Takes c (prepare_record r front now c)
unfolding prepare_record choose and_then
record_takes r front now c =
    go (is_unqueued r.queue_links.membership) (epoch_refreshed r.runtime now r.parameters)
    (turn_for front r.parameters.policy r.ready_turn c)
    (turn_taken front r.parameters.policy r.ready_turn c)
  where
    go : (unqueued : Bool) (x : Answer PolicyRuntime) (taken : Answer Taken) → TakesTurn c taken
        → Takes c (choose unqueued (and_then x
        (λ x. and_then taken (λ taken. value (record { runtime = x; turn = taken.turn; turns = taken.turns }))))
        (refused already))
    go false x taken h = tt
    go true (refused n) taken h = tt
    go true (value x) (refused n) h = tt
    go true (value x) (value taken) h = h

-- A judged record stands in the table, and is not bad.
pub record Inside (t : List ThreadRecord) (id : ℕ) (r : ThreadRecord) : Type 0 where
  pub below : id < length t
  pub is : record_of t id ≡ r
  pub good : is_bad_record r ≡ false

abbrev JudgedIs : List ThreadRecord → ℕ → Answer ThreadRecord → Type 0
JudgedIs t id (value r) = Inside t id r
JudgedIs t id (refused n) = Unit {0}

pub inside : (t : List ThreadRecord) (id : ℕ) → JudgedIs t id (judged t id)
unfolding judged judged_at if_less choose on_record
inside t id = go (ltb max_records (length t)) (record_at t id) refl
  where
    same : (r : ThreadRecord) → record_at t id ≡ Ok r → record_of t id ≡ r
    same r e = let f : record_at t id ≡ Ok (record_of t id) = record_within t id (record_got_within t id e) in cc

    judging : (r : ThreadRecord) → record_at t id ≡ Ok r → (bad : Bool) → is_bad_record r ≡ bad
        → JudgedIs t id (choose bad (refused bad_record) (value r))
    judging r e true b = tt
    judging r e false b = record { below = record_got_within t id e; is = same r e; good = b }

    go : (large : Bool) (x : Result ThreadRecord Damaged) → record_at t id ≡ x
        → JudgedIs t id (choose large (refused bad_table)
        (on_record x (refused no_thread) (λ r. choose (is_bad_record r) (refused bad_record) (value r))))
    go true x e = tt
    go false (Err _) e = tt
    go false (Ok r) e = judging r e (is_bad_record r) refl

-- The record that preparing stores.
pub stored_record : (t : List ThreadRecord) (id : ℕ) (p : Preparation) → id < length t
    → record_of (stored_preparation t id p) id ≡ with_turn p.turn (with_runtime p.runtime (record_of t id))
unfolding stored_preparation given
stored_record t id p h =
    rw (after_set_turn (after (set_runtime t id p.runtime)) id p.turn, after_set_runtime t id p.runtime)
    (record_same (changed t id (with_runtime p.runtime)) id (with_turn p.turn)
    (rw (length_changed t id (with_runtime p.runtime)) h)
    ∙ ap (with_turn p.turn) (record_same t id (with_runtime p.runtime) h))

-- Counters and turn handed out, by what a call left.
pub data Outcome (c : Turns) : Turns → Option Handed → Type 0 where
  hands_nothing : Outcome c c None
  hands_back : c.back < max_time → Outcome c (record { back = c.back + 1; front = c.front }) (Some (at_back c.back))
  hands_front : 1 < c.front → Outcome c (record { back = c.back; front = c.front - 1 })
      (Some (at_front (c.front - 1)))

same_counters : (id : ℕ) (c : Turns) (a : Answer (Unit {0})) (t : List ThreadRecord)
    → Outcome c c (handed (out (counted a c) t) id c)
unfolding handed if_equal choose
same_counters id c a t = rw (eq-eqb c.back c.back refl, eq-eqb c.front c.front refl) hands_nothing

taken_outcome : (id : ℕ) (c : Turns) (n : ℕ) (d : Turns) (t : List ThreadRecord) → (record_of t id).ready_turn ≡ n
    → Taking c n d
    → Outcome c d (handed (out (counted (value tt) d) t) id c)
unfolding handed if_equal choose
taken_outcome id c n d t e (keeps m) =
    rw (eq-eqb c.back c.back refl, eq-eqb c.front c.front refl) hands_nothing
taken_outcome id c n d t e (takes_back h) = rw (ne_eqb (c.back + 1) c.back (λ z. omega arith), e) (hands_back h)
taken_outcome id c n d t e (takes_front h) =
    rw (eq-eqb c.back c.back refl, ne_eqb (c.front - 1) c.front (λ z. omega arith), e) (hands_front h)

pub outcome : (call : Call) (c : Turns) → Outcome c (counters_after (made call c)) (handed (made call c) (named call) c)
unfolding made named prepare_enqueue preparation prepared and_then
outcome (prepare t id front now) c = judging (judged t id) (inside t id)
  where
    preparing : (x : Answer Preparation) → Takes c x → id < length t
        → Outcome c (counters_after (prepared t id c x)) (handed (prepared t id c x) id c)
    preparing (refused n) h l = same_counters id c (refused n) t
    preparing (value p) h l =
        taken_outcome id c p.turn p.turns (stored_preparation t id p)
        (ap (λ (r : ThreadRecord). r.ready_turn) (stored_record t id p l)) h

    judging : (x : Answer ThreadRecord) → JudgedIs t id x
        → Outcome c (counters_after (prepared t id c (and_then x (λ r. prepare_record r front now c))))
        (handed (prepared t id c (and_then x (λ r. prepare_record r front now c))) id c)
    judging (refused n) h = same_counters id c (refused n) t
    judging (value r) h = preparing (prepare_record r front now c) (record_takes r front now c) h.below
