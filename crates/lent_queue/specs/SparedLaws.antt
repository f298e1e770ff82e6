-- Laws by which a refusal leaves every word of queue and table: a refused work stored nothing, a first Halted aside,
-- and a queue that halted earlier gets no plan.
use Rattle.std.specs.Prelude.{ℕ, ◌≡◌, refl, Bool, true, false, List, ltb, length, Result, Ok}
use Rattle.std.proofs.Common.{sym, ap, subst, ◌∙◌}
use Rattle.refusal.specs.Answer.{Answer, value, refused, queue_halted, bad_table, by_number}
use Rattle.refusal.specs.Cases.{never, choose, if_less, and_then}
use Rattle.thread.specs.declared.CpuIndex.{CpuIndex}
use Rattle.thread.specs.declared.QueueMembership.{QueueMembership}
use Rattle.thread.specs.declared.ThreadRecord.{ThreadRecord}
use Rattle.rows.specs.Table.{max_records}
use Rattle.rows.specs.Unmoved.{Spared}
use Rattle.queue_work.specs.declared.Parts.{Parts}
use Rattle.queue_work.specs.declared.Worked.{Worked}
use Rattle.queue_work.specs.declared.Worked.TheVariants as worked
use Rattle.queue_work.specs.Work.{Work, done, turned_down, halts, Untouched, work_of}
use Rattle.queue.specs.declared.Filed.{Filed}
use Rattle.queue.specs.declared.Plan.{Plan}
use Rattle.queue.specs.RunQueue.{CpuRunQueue}
use Rattle.queue.specs.Queue.{Step, step}
use Rattle.queue.specs.Plan.{settled, insertion_plan}
use Rattle.queue.specs.Plan as plans
use Rattle.refusal.specs.declared.Refusal.{Refusal}

abbrev answer_of : Step (Unit {0}) → Answer (Unit {0})
answer_of (step a q) = a

-- A refused work stored nothing to the queue either.
pub parts_stored : (b c : List (List ℕ)) {w : Worked} {p : Parts} {h : Bool} → w ≡ worked.Stored p h
    → Untouched (work_of w) b c
parts_stored b c {w} {p} {h} e = subst (λ (x : Worked). Untouched (work_of x) b c) (sym e) (go h)
  where
    go : (x : Bool) → Untouched (work_of (worked.Stored p x)) b c
    go true = tt
    go false = tt

pub queue_kept : (b : List (List ℕ)) (w : Work) → Untouched w b b
queue_kept b (done p) = tt
queue_kept b (turned_down n) = refl
queue_kept b (halts p) = tt

pub settled_spares : (b c : List (List ℕ)) {a : Answer (Unit {0})} {r : CpuRunQueue} (q : CpuRunQueue)
    (m : QueueMembership) (k : ℕ) (w : Work) → step a r ≡ settled q m k w → Untouched w b c → Spared a b c
unfolding settled
settled_spares b c q m k (done p) e u =
    subst (λ (x : Answer (Unit {0})). Spared x b c) (sym (ap answer_of e)) tt
settled_spares b c q m k (turned_down n) e u =
    subst (λ (x : Answer (Unit {0})). Spared x b c) (sym (ap answer_of e)) (λ h. u)
settled_spares b c q m k (halts p) e u =
    subst (λ (x : Answer (Unit {0})). Spared x b c) (sym (ap answer_of e)) (λ h. absurd (h refl))

-- A halted queue is judged BadTable or Halted.
pub halted_refused : (t : List ThreadRecord) (id : ℕ) (x : Bool) {a : Answer Filed} {f : Filed} → x ≡ true
    → a ≡ plans.judgement t x id → value f ≡ a → ◌≡◌ {A = ℕ} 0 1
unfolding plans.judgement if_less choose
halted_refused t id x {a} {f} h e g = go (ltb max_records (length t)) (rw h at e)
  where
    go : (y : Bool) → a ≡ choose y (refused bad_table) (refused queue_halted) → ◌≡◌ {A = ℕ} 0 1
    go true z = let w : value f ≡ refused bad_table = g ∙ z in cc
    go false z = let w : value f ≡ refused queue_halted = g ∙ z in cc

pub not_judged : {B : Type 0} (b c : B) (t : List ThreadRecord) (id : ℕ) {r x : Bool} {j : Result Filed Refusal} {f :
    Filed}
    → r ≡ x → by_number j ≡ plans.judgement t r id → j ≡ Ok f → x ≡ true → c ≡ b
not_judged b c t id {r} {x} {j} {f} e h m y =
    never (halted_refused t id r {f = f} (e ∙ y) h (sym (ap by_number m)))

pub not_planned : {B : Type 0} (b c : B) (t : List ThreadRecord) (id : ℕ) (cpu : CpuIndex) {r x : Bool} {p : Result
    Plan Refusal}
    {plan : Plan} → r ≡ x → by_number p ≡ insertion_plan t r id cpu → p ≡ Ok plan → x ≡ true → c ≡ b
unfolding insertion_plan and_then
not_planned {B} b c t id cpu {r} {x} {p} {plan} e h m y =
    go (plans.judgement t r id) refl (sym (ap by_number m) ∙ h)
  where
    go : (a : Answer Filed) → a ≡ plans.judgement t r id
        → value plan ≡ and_then a (λ f. plans.plan_insertion f cpu) → c ≡ b
    go (value f) g z = never (halted_refused t id r {f = f} (e ∙ y) g refl)
    go (refused n) g z = never cc

pub ruleset settling = (parts_stored, queue_kept)

pub ruleset sparing = (settled_spares, not_judged, not_planned)
