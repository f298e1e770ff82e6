-- Laws of what a selection may do to a thread, of a tree's head, and of where a queued thread stands.
use Rattle.std.specs.Prelude.{ℕ, ◌+◌, ◌<◌, ◌≡◌, refl, true, false, ◌||◌, ◌≢◌, List, [], ◌∷◌, eqb, Option, Some, None}
use Rattle.std.proofs.Common.{sym, ap, ◌∙◌, subst, arith, eq-eqb, ne_eqb, eqb-true}
use Rattle.std.proofs.lemmas.Bool.{eqb-false}
use Rattle.refusal.specs.Answer.{value, or_damaged}
use Rattle.refusal.specs.Cases.{never, given}
use Rattle.avl.specs.Tree.{in_order}
use Rattle.policy.specs.declared.SchedulingPolicy.{SchedulingPolicy}
use Rattle.policy.specs.declared.SchedulingPolicy.TheVariants as policy
use Rattle.policy.specs.PolicyCases.{on_policy}
use Rattle.thread.specs.declared.ThreadRecord.{ThreadRecord}
use Rattle.thread.specs.Filing.{role_index, index_for, fair_index}
use Rattle.thread.specs.Judgement.{is_bad_record}
use Rattle.thread.specs.Membership.{empty_links}
use Rattle.thread.specs.Records.{with_links}
use Rattle.thread.specs.TreeKey.{ready_index_key}
use Rattle.rows.specs.Table.{record_of}
use Rattle.sound_index.specs.Holds.{Precedes, PrecedesAll, Rising, has, besides_links}
use Rattle.sound_index.specs.HasLaws.{or_cases}
use Rattle.sound_index.specs.Outcomes.{least_of}
use Rattle.sound_index.proofs.Demand2.{first_names_least}
use Rattle.queue.specs.declared.Root.{Root}
use Rattle.queue.specs.Queue.{is_budget}
use Rattle.renewal.specs.Renewal.{head_of, root_at}
use Rattle.sound_queue.specs.Forest.{Forest}
use Rattle.sound_queue.specs.LinksLaws.{alike_record}
use Rattle.sound_queue.specs.Sound.{Filed, by_filing, in_partner}
use Rattle.sound_queue.specs.Runtimes.{filed_in}
use Rattle.sound_selection.specs.Claim.{refreshed_to}
use Rattle.sound_selection.specs.RefreshLaws.{refreshed_again, refreshed_parameters, refreshed_cpu, refreshed_key}
use Rattle.sound_selection.specs.Changes.{bare_at, Fresher, kept, fresh, Shift, stays, shifts, Head, nobody_there}
use Rattle.sound_selection.specs.Changes.{first_of_list, Standing, in_fifo, in_fair, in_budget}
use Rattle.queue.specs.RunQueue.{tree_count}

-- Refreshed to now, both come to the same.
pub fresher_now : {now : ℕ} {a b : ThreadRecord} → Fresher now a b → refreshed_to now b ≡ refreshed_to now a
fresher_now {now} (kept e) = ap (refreshed_to now) e
fresher_now {now} {a} (fresh e) = ap (refreshed_to now) e ∙ refreshed_again now a

pub fresher_trans : {now : ℕ} {a b c : ThreadRecord} → Fresher now a b → Fresher now b c → Fresher now a c
fresher_trans {now} (kept e) (kept f) = kept (f ∙ e)
fresher_trans {now} (kept e) (fresh f) = fresh (f ∙ ap (refreshed_to now) e)
fresher_trans {now} (fresh e) (kept f) = fresh (f ∙ e)
fresher_trans {now} {a} (fresh e) (fresh f) = fresh (f ∙ ap (refreshed_to now) e ∙ refreshed_again now a)

pub shift_trans : {now p : ℕ} {a : ThreadRecord} {p' : ℕ} {b : ThreadRecord} {p'' : ℕ} {c : ThreadRecord}
    → Shift now p a p' b → Shift now p' b p'' c → Shift now p a p'' c
shift_trans (stays e f) (stays g h) = stays (g ∙ e) (h ∙ f)
shift_trans {now} (stays e f) (shifts a c g h) =
    shifts (omega arith) (omega arith) (omega arith) (h ∙ ap (refreshed_to now) f)
shift_trans (shifts a c e f) (stays g h) = shifts a c (omega arith) (h ∙ f)
shift_trans (shifts a c e f) (shifts x y g h) = absurd (omega arith)

pub shift_fresher : {now p : ℕ} {a : ThreadRecord} {p' : ℕ} {b : ThreadRecord} → Shift now p a p' b → Fresher now a b
shift_fresher (stays e f) = kept f
shift_fresher (shifts a c e f) = fresh f

-- Tree stores leave a record as it was but for tree links.
pub bare_besides : (t s : List ThreadRecord) (j : ℕ) → besides_links s ≡ besides_links t → bare_at s j ≡ bare_at t j
unfolding bare_at besides_links
bare_besides t s j e = alike_record (with_links empty_links) t s j e

-- A record is judged, and has its key, by what tree stores leave of it.
pub bare_bad : (t : List ThreadRecord) (j : ℕ) → is_bad_record (bare_at t j) ≡ is_bad_record (record_of t j)
unfolding bare_at is_bad_record
bare_bad t j = refl

pub bare_key : (t : List ThreadRecord) (j : ℕ) → ready_index_key (bare_at t j) j ≡ ready_index_key (record_of t j) j
unfolding bare_at ready_index_key
bare_key t j = refl

pub fresher_parameters : {now : ℕ} {a b : ThreadRecord} → Fresher now a b → b.parameters ≡ a.parameters
fresher_parameters (kept e) = ap (λ (r : ThreadRecord). r.parameters) e
fresher_parameters {now} {a} (fresh e) = ap (λ (r : ThreadRecord). r.parameters) e ∙ refreshed_parameters now a

pub fresher_cpu : {now : ℕ} {a b : ThreadRecord} → Fresher now a b → b.cpu ≡ a.cpu
fresher_cpu (kept e) = ap (λ (r : ThreadRecord). r.cpu) e
fresher_cpu {now} {a} (fresh e) = ap (λ (r : ThreadRecord). r.cpu) e ∙ refreshed_cpu now a

-- A record that is not bad keeps its key.
pub fresher_key : {now : ℕ} {a b : ThreadRecord} (j : ℕ) → is_bad_record a ≡ false → Fresher now a b
    → ready_index_key b j ≡ ready_index_key a j
fresher_key j h (kept e) = ap (λ (r : ThreadRecord). ready_index_key r j) e
fresher_key {now} {a} j h (fresh e) = ap (λ (r : ThreadRecord). ready_index_key r j) e ∙ refreshed_key now a h j

precedes_each : (t : List ThreadRecord) (i : ℕ) (l : List ℕ) (j : ℕ) → PrecedesAll t i l → has j l ≡ true
    → Precedes t i j
precedes_each t i [] j p e = never cc
precedes_each t i (k ∷ l) j p e =
    or_cases (eqb j k) (has j l) e (λ z. subst (Precedes t i) (sym (eqb-true j k z)) p.here)
    (λ z. precedes_each t i l j p.rest z)

-- The head of a list of threads in key order, whose threads are those of tree k.
head_by : (t : List ThreadRecord) (place : ℕ → ℕ) (k : ℕ) (l : List ℕ) → Rising t l
    → ((j : ℕ) → has j l ≡ eqb (place j) k)
    → (x : Option ℕ) × (or_damaged (least_of l) ≡ value x) × Head t place k x
unfolding or_damaged
head_by t place k [] p x = (None, refl, nobody_there (λ j. eqb-false (place j) k (sym (x j))))
head_by t place k (i ∷ l) p x = (
  Some i,
  refl,
  first_of_list i
      (eqb-true (place i) k (sym (x i) ∙ rw (eq-eqb i i refl)))
      (λ j e d. precedes_each t i l j p.first (go j d (x j ∙ eq-eqb (place j) k e))),
)
  where
    go : (j : ℕ) → j ≢ i → eqb j i || has j l ≡ true → has j l ≡ true
    go j d e = rw (ne_eqb j i d) at e

-- The first of a tree in a forest is its head.
pub head_is : {roots : List Root} {t : List ThreadRecord} {place : ℕ → ℕ} → Forest roots t place → (k : ℕ)
    → k < tree_count
    → (x : Option ℕ) × (head_of t (root_at roots k) ≡ value x) × Head t place k x
unfolding head_of
head_is {roots} {t} {place} F k b =
    let h = head_by t place k (in_order (F.trees k)) (F.holds k b).rising (λ j. F.exact j k b) in (
      h.0,
      rw (F.rooted k b, first_names_least t (F.trees k) (F.holds k b) (F.balanced k b) F.small)
          h.1,
      h.2,
    )

-- Where a thread stands tells its policy and role.
pub standing : (r : ThreadRecord) (k : ℕ) → Filed r k → Standing r k
unfolding is_budget on_policy index_for given
standing r k f = go r.parameters.policy refl f
  where
    go : (p : SchedulingPolicy) → r.parameters.policy ≡ p → Filed r k → Standing r k
    go (policy.Fifo p) e (by_filing x) =
        in_fifo p e (let z : Some (role_index r.parameters.role) ≡ Some k = rw e at x in cc)
    go (policy.Fifo p) e (in_partner m b x y) = never (let z : false ≡ true = rw e at b in cc)
    go policy.Fair e (by_filing x) =
        in_fair e (let z : Some (fair_index + role_index r.parameters.role) ≡ Some k = rw e at x in cc)
    go policy.Fair e (in_partner m b x y) = never (let z : false ≡ true = rw e at b in cc)
    go policy.Budget e f = in_budget e (filed_in r k e f)
    go policy.Idle e (by_filing x) = never (let z : None ≡ Some k = rw e at x in cc)
    go policy.Idle e (in_partner m b x y) = never (let z : false ≡ true = rw e at b in cc)
