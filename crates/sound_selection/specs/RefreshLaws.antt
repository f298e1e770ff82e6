-- Laws of a record refreshed to now: what stays, that once is enough, and that `refresh_record` stores it.
use Rattle.std.specs.Prelude.{ℕ, ◌/◌, min, ◌≡◌, Bool, List, Option, Some, None}
use Rattle.std.proofs.Math.Path.{refl, ap}
use Rattle.std.proofs.Common.{sym, ◌∙◌, subst, arith, le-ltb}
use Rattle.std.proofs.Math.Bool.{true, false}
use Rattle.refusal.specs.Answer.{Answer, value, refused, bad_budget}
use Rattle.refusal.specs.Cases.{never, choose, given}
use Rattle.time.specs.Time.{rises}
use Rattle.policy.specs.declared.BudgetParameters.{BudgetParameters}
use Rattle.policy.specs.declared.SchedulingParameters.{SchedulingParameters}
use Rattle.policy.specs.declared.SchedulingPolicy.{SchedulingPolicy}
use Rattle.policy.specs.declared.SchedulingPolicy.TheVariants as policy
use Rattle.policy.specs.PolicyCases.{on_policy, on_budget, some_budget}
use Rattle.policy.specs.Budget.{sound_budget}
use Rattle.budget.specs.declared.BudgetRuntime.{BudgetRuntime}
use Rattle.budget.specs.Runtime as budget
use Rattle.algorithms.specs.declared.PolicyRuntime.{PolicyRuntime}
use Rattle.algorithms.specs.declared.PolicyRuntime.TheVariants as runtime
use Rattle.algorithms.specs.Runtime.{on_runtime, same_kind, epoch_refreshed, of_budget}
use Rattle.thread.specs.declared.Links.{Links}
use Rattle.thread.specs.declared.ThreadRecord.{ThreadRecord}
use Rattle.thread.specs.Judgement.{has_budget, is_bad_budget, is_bad_record}
use Rattle.thread.specs.Records.{with_runtime, with_links}
use Rattle.thread.specs.TreeKey.{tree_key, ready_index_key}
use Rattle.lists.specs.Lists.{on_answer}
use Rattle.rows.specs.Table.{out, changed}
use Rattle.rows.specs.TableLaws.{budget_key_kept, after_set_runtime}
use Rattle.queue.specs.Queue.{is_budget}
use Rattle.renewal.specs.Renewal.{refresh_record}
use Rattle.sound_selection.specs.Claim.{refreshed_to}

-- A budget's runtime in a new epoch, and in the same one or an older.
abbrev refilled : BudgetRuntime → ℕ → BudgetParameters → BudgetRuntime
refilled r now p =
    record {
      epoch = Some (now / p.period_ns);
      remaining_ns = p.budget_ns;
      burst_remaining_ns = r.burst_remaining_ns;
    }

abbrev limited : BudgetRuntime → BudgetParameters → BudgetRuntime
limited r p =
    record {
      epoch = r.epoch;
      remaining_ns = min r.remaining_ns p.budget_ns;
      burst_remaining_ns = r.burst_remaining_ns;
    }

module _ (r : BudgetRuntime) (now : ℕ) (p : BudgetParameters) where
  when_rises : rises r.epoch (now / p.period_ns) ≡ true → budget.refreshed r now p ≡ refilled r now p
  unfolding budget.refreshed given choose
  when_rises h = rw h

  when_stays : rises r.epoch (now / p.period_ns) ≡ false → budget.refreshed r now p ≡ limited r p
  unfolding budget.refreshed given choose
  when_stays h = rw h

not_rising : (e : ℕ) → rises (Some e) e ≡ false
unfolding rises
not_rising e = le-ltb e e (omega arith)

limited_by : (r : BudgetRuntime) (p : BudgetParameters) → min r.remaining_ns p.budget_ns ≡ r.remaining_ns
    → limited r p ≡ r
limited_by r p e =
    λ i. record { epoch = r.epoch; remaining_ns = e i; burst_remaining_ns = r.burst_remaining_ns }

-- Once refreshed, again changes nothing.
refreshed_twice : (r : BudgetRuntime) (now : ℕ) (p : BudgetParameters)
    → budget.refreshed (budget.refreshed r now p) now p ≡ budget.refreshed r now p
refreshed_twice r now p = go (rises r.epoch (now / p.period_ns)) refl
  where
    go : (x : Bool) → rises r.epoch (now / p.period_ns) ≡ x
        → budget.refreshed (budget.refreshed r now p) now p ≡ budget.refreshed r now p
    go true h =
        rw (when_rises r now p h) (when_stays (refilled r now p) now p (not_rising (now / p.period_ns))
        ∙ limited_by (refilled r now p) p (omega arith))
    go false h = rw (when_stays r now p h) (when_stays (limited r p) now p h ∙ limited_by (limited r p) p (omega arith))

-- What a record that is not bad is refreshed to: itself, or with its budget's runtime refreshed.
pub data Refreshes (now : ℕ) (r : ThreadRecord) : Type 0 where
  plain : is_budget r.parameters.policy ≡ false → r.parameters.budget ≡ None → refreshed_to now r ≡ r
      → Refreshes now r
  budgeted : (x : BudgetRuntime) (q : BudgetParameters) → r.parameters.policy ≡ policy.Budget
      → r.runtime ≡ runtime.Budget x → r.parameters.budget ≡ Some q → sound_budget q ≡ true
      → epoch_refreshed r.runtime now r.parameters ≡ value (runtime.Budget (budget.refreshed x now q))
      → Refreshes now r

pub refreshed_by : (now : ℕ) (r : ThreadRecord) (x : PolicyRuntime)
    → epoch_refreshed r.runtime now r.parameters ≡ value x → refreshed_to now r ≡ with_runtime x r
unfolding refreshed_to on_answer
refreshed_by now r x e = rw e

-- A runtime that is none of a budget is refreshed to itself.
abbrev NotBudget : PolicyRuntime → Type 0
NotBudget runtime.Fifo = Unit {0}
NotBudget (runtime.Fair f) = Unit {0}
NotBudget (runtime.Budget b) = ⊥
NotBudget runtime.Idle = Unit {0}

not_refreshed : (x : PolicyRuntime) (now : ℕ) (p : SchedulingParameters) → NotBudget x
    → epoch_refreshed x now p ≡ value x
unfolding epoch_refreshed on_runtime
not_refreshed runtime.Fifo now p n = refl
not_refreshed (runtime.Fair f) now p n = refl
not_refreshed (runtime.Budget b) now p n = absurd n
not_refreshed runtime.Idle now p n = refl

budget_refreshed_lem : (x : PolicyRuntime) (b : BudgetRuntime) (now : ℕ) (p : SchedulingParameters)
    (q : BudgetParameters)
    → x ≡ runtime.Budget b → p.budget ≡ Some q → sound_budget q ≡ true
    → epoch_refreshed x now p ≡ value (runtime.Budget (budget.refreshed b now q))
unfolding epoch_refreshed on_runtime on_budget of_budget budget.refreshed_judged budget.judged choose given
budget_refreshed_lem x b now p q e f g = rw (e, f, g)

module _ (now : ℕ) (r : ThreadRecord) where
  stays : (x : PolicyRuntime) → r.runtime ≡ x → NotBudget x → is_budget r.parameters.policy ≡ false
      → r.parameters.budget ≡ None → Refreshes now r
  stays x e n p b = plain p b (refreshed_by now r r.runtime
      (subst (λ (y : PolicyRuntime). epoch_refreshed y now r.parameters ≡ value y) (sym e)
      (not_refreshed x now r.parameters n)))

  bad : {A : Type 0} → true ≡ false → A
  bad e = never cc

  sound_by : (q : BudgetParameters) (y : Bool) → sound_budget q ≡ y → choose y false true ≡ false
      → sound_budget q ≡ true
  unfolding choose
  sound_by q true e h = e
  sound_by q false e h = bad h

  judged_by : (p : SchedulingPolicy) (x : PolicyRuntime) (b : Option BudgetParameters) → r.parameters.policy ≡ p
      → r.runtime ≡ x
      → r.parameters.budget ≡ b
      → choose (same_kind x p) (on_policy p (λ priority. has_budget b) (has_budget b) (is_bad_budget b)
      (has_budget b)) true
      ≡ false → Refreshes now r
  unfolding choose same_kind on_policy has_budget is_bad_budget on_budget is_budget
  judged_by (policy.Fifo a) runtime.Fifo None e f g h = stays runtime.Fifo f tt (rw e) g
  judged_by (policy.Fifo a) runtime.Fifo (Some q) e f g h = bad h
  judged_by (policy.Fifo a) (runtime.Fair y) b e f g h = bad h
  judged_by (policy.Fifo a) (runtime.Budget y) b e f g h = bad h
  judged_by (policy.Fifo a) runtime.Idle b e f g h = bad h
  judged_by policy.Fair runtime.Fifo b e f g h = bad h
  judged_by policy.Fair (runtime.Fair y) None e f g h = stays (runtime.Fair y) f tt (rw e) g
  judged_by policy.Fair (runtime.Fair y) (Some q) e f g h = bad h
  judged_by policy.Fair (runtime.Budget y) b e f g h = bad h
  judged_by policy.Fair runtime.Idle b e f g h = bad h
  judged_by policy.Budget runtime.Fifo b e f g h = bad h
  judged_by policy.Budget (runtime.Fair y) b e f g h = bad h
  judged_by policy.Budget (runtime.Budget y) None e f g h = bad h
  judged_by policy.Budget (runtime.Budget y) (Some q) e f g h =
      let s = sound_by q (sound_budget q) refl h in
      budgeted y q e f g s (budget_refreshed_lem r.runtime y now r.parameters q f g s)
  judged_by policy.Budget runtime.Idle b e f g h = bad h
  judged_by policy.Idle runtime.Fifo b e f g h = bad h
  judged_by policy.Idle (runtime.Fair y) b e f g h = bad h
  judged_by policy.Idle (runtime.Budget y) b e f g h = bad h
  judged_by policy.Idle runtime.Idle None e f g h = stays runtime.Idle f tt (rw e) g
  judged_by policy.Idle runtime.Idle (Some q) e f g h = bad h

  pub refreshes : is_bad_record r ≡ false → Refreshes now r
  unfolding is_bad_record
  refreshes h = judged_by r.parameters.policy r.runtime r.parameters.budget refl refl refl h

  -- Only the runtime changes.
  kept_by : {A : Type 0} (f : ThreadRecord → A) → ((x : PolicyRuntime) → f (with_runtime x r) ≡ f r)
      → f (refreshed_to now r) ≡ f r
  unfolding refreshed_to on_answer
  kept_by {A} f h = go (epoch_refreshed r.runtime now r.parameters)
    where
      go : (a : Answer PolicyRuntime) → f (on_answer a (λ n. r) (λ x. with_runtime x r)) ≡ f r
      go (value x) = h x
      go (refused n) = refl

  pub refreshed_parameters : (refreshed_to now r).parameters ≡ r.parameters
  refreshed_parameters = kept_by (λ (s : ThreadRecord). s.parameters) (λ x. refl)

  pub refreshed_turn : (refreshed_to now r).ready_turn ≡ r.ready_turn
  refreshed_turn = kept_by (λ (s : ThreadRecord). s.ready_turn) (λ x. refl)

  pub refreshed_list : (refreshed_to now r).queue_links ≡ r.queue_links
  refreshed_list = kept_by (λ (s : ThreadRecord). s.queue_links) (λ x. refl)

  pub refreshed_cpu : (refreshed_to now r).cpu ≡ r.cpu
  refreshed_cpu = kept_by (λ (s : ThreadRecord). s.cpu) (λ x. refl)

-- Tree links do not bear on it.
pub refreshed_links : (now : ℕ) (l : Links) (r : ThreadRecord)
    → refreshed_to now (with_links l r) ≡ with_links l (refreshed_to now r)
unfolding refreshed_to on_answer
refreshed_links now l r = go (epoch_refreshed r.runtime now r.parameters)
  where
    go : (a : Answer PolicyRuntime)
        → on_answer a (λ n. with_links l r) (λ x. with_runtime x (with_links l r))
        ≡ with_links l (on_answer a (λ n. r) (λ x. with_runtime x r))
    go (value x) = refl
    go (refused n) = refl

not_sound : (x : PolicyRuntime) (b : BudgetRuntime) (now : ℕ) (p : SchedulingParameters) (q : BudgetParameters)
    → x ≡ runtime.Budget b → p.budget ≡ Some q → sound_budget q ≡ false
    → epoch_refreshed x now p ≡ refused bad_budget
unfolding epoch_refreshed on_runtime on_budget of_budget budget.refreshed_judged budget.judged choose
not_sound x b now p q e f g = rw (e, f, g)

no_budget : (x : PolicyRuntime) (b : BudgetRuntime) (now : ℕ) (p : SchedulingParameters) → x ≡ runtime.Budget b
    → p.budget ≡ None → epoch_refreshed x now p ≡ value (runtime.Budget b)
unfolding epoch_refreshed on_runtime on_budget
no_budget x b now p e f = rw (e, f)

not_refreshed_by : (now : ℕ) (r : ThreadRecord) (n : ℕ) → epoch_refreshed r.runtime now r.parameters ≡ refused n
    → refreshed_to now r ≡ r
unfolding refreshed_to on_answer
not_refreshed_by now r n e = rw e

-- A record is refreshed once and for all.
module _ (now : ℕ) (r : ThreadRecord) where
  once : refreshed_to now r ≡ r → refreshed_to now (refreshed_to now r) ≡ refreshed_to now r
  once e = ap (refreshed_to now) e

  own : (x : PolicyRuntime) → r.runtime ≡ x → epoch_refreshed r.runtime now r.parameters ≡ value x
      → refreshed_to now r ≡ r
  own x e f = refreshed_by now r x f ∙ ap (λ (y : PolicyRuntime). with_runtime y r) (sym e)

  sound_again : (x : BudgetRuntime) (q : BudgetParameters) → r.runtime ≡ runtime.Budget x
      → r.parameters.budget ≡ Some q → sound_budget q ≡ true
      → refreshed_to now (refreshed_to now r) ≡ refreshed_to now r
  sound_again x q f g h =
      let y = budget.refreshed x now q in
      let s = with_runtime (runtime.Budget y) r in
      rw (refreshed_by now r (runtime.Budget y) (budget_refreshed_lem r.runtime x now r.parameters q f g h))
      (refreshed_by now s (runtime.Budget (budget.refreshed y now q))
      (budget_refreshed_lem s.runtime y now s.parameters q refl g h)
      ∙ ap (λ (z : BudgetRuntime). with_runtime (runtime.Budget z) r) (refreshed_twice x now q))

  again_by : (x : PolicyRuntime) (o : Option BudgetParameters) → r.runtime ≡ x → r.parameters.budget ≡ o
      → refreshed_to now (refreshed_to now r) ≡ refreshed_to now r
  again_by runtime.Fifo o e f = once (own runtime.Fifo e (rw e (not_refreshed runtime.Fifo now r.parameters tt)))
  again_by (runtime.Fair y) o e f =
      once (own (runtime.Fair y) e (rw e (not_refreshed (runtime.Fair y) now r.parameters tt)))
  again_by runtime.Idle o e f = once (own runtime.Idle e (rw e (not_refreshed runtime.Idle now r.parameters tt)))
  again_by (runtime.Budget x) None e f =
      once (own (runtime.Budget x) e (no_budget r.runtime x now r.parameters e f))
  again_by (runtime.Budget x) (Some q) e f = go (sound_budget q) refl
    where
      go : (y : Bool) → sound_budget q ≡ y → refreshed_to now (refreshed_to now r) ≡ refreshed_to now r
      go true h = sound_again x q e f h
      go false h = once (not_refreshed_by now r bad_budget (not_sound r.runtime x now r.parameters q e f h))

  pub refreshed_again : refreshed_to now (refreshed_to now r) ≡ refreshed_to now r
  refreshed_again = again_by r.runtime r.parameters.budget refl refl

-- By an answer that is a value.
pub answered : {A B : Type 0} {a : Answer A} {v : A} (g : ℕ → B) (f : A → B) → a ≡ value v → on_answer a g f ≡ f v
unfolding on_answer
answered g f e = rw e

-- A record that is not bad stays so, keeps its key, and is refreshed once and for all; `refresh_record` stores what it
-- is refreshed to.
module _ (now : ℕ) (r : ThreadRecord) (b : is_bad_record r ≡ false) where
  pub budget_judged : (x : BudgetRuntime) (q : BudgetParameters) → r.parameters.policy ≡ policy.Budget
      → r.parameters.budget ≡ Some q → sound_budget q ≡ true
      → is_bad_record (with_runtime (runtime.Budget x) r) ≡ false
  unfolding is_bad_record same_kind choose on_policy is_bad_budget on_budget
  budget_judged x q e f g = rw (e, f, g)

  pub refreshed_judged_lem : is_bad_record (refreshed_to now r) ≡ false
  refreshed_judged_lem = go (refreshes now r b)
    where
      go : Refreshes now r → is_bad_record (refreshed_to now r) ≡ false
      go (plain p n e) = rw e b
      go (budgeted x q e f g h k) =
          rw (refreshed_by now r (runtime.Budget (budget.refreshed x now q)) k)
          (budget_judged (budget.refreshed x now q) q e g h)

  pub refreshed_key : (j : ℕ) → ready_index_key (refreshed_to now r) j ≡ ready_index_key r j
  unfolding ready_index_key tree_key
  refreshed_key j = go (refreshes now r b)
    where
      go : Refreshes now r → ready_index_key (refreshed_to now r) j ≡ ready_index_key r j
      go (plain p n e) = rw e
      go (budgeted x q e f g h k) = rw (
        refreshed_by now r (runtime.Budget (budget.refreshed x now q)) k,
        budget_key_kept r.parameters (runtime.Budget (budget.refreshed x now q)) r.runtime r.ready_turn e,
      )

  pub refresh_plain : (t : List ThreadRecord) (i : ℕ) → r.parameters.budget ≡ None
      → refresh_record t i r now ≡ out (value r) t
  unfolding refresh_record choose on_budget
  refresh_plain t i e = rw (b, e)

  pub refresh_budget : (t : List ThreadRecord) (i : ℕ) (q : BudgetParameters) (x : PolicyRuntime)
      → r.parameters.budget ≡ Some q → epoch_refreshed r.runtime now r.parameters ≡ value x
      → refresh_record t i r now ≡ out (value (with_runtime x r)) (changed t i (with_runtime x))
  unfolding refresh_record choose
  refresh_budget t i q x e f =
      rw b (sym (some_budget (out (value r) t) _ e
      (sym (answered _ _ f ∙ ap (out (value (with_runtime x r))) (after_set_runtime t i x)))))
