-- Laws by which the functions of the change of period meet the definitions: r is what the call gave, x what its
-- contract says of it.
use Prim.Native.Nat.{ℕ, zero, suc, ◌+◌, ◌-◌, ◌<◌, ◌≤◌}
use Rattle.std.proofs.Common.{arith, ◌∙◌}
use Rattle.std.proofs.Math.Numerals.{unary_clauses}
use Rattle.std.specs.Prelude.{◌≡◌, Bool, length, get_or, Option, Some, None, Result, Ok, Err, not, is_some}
use Rattle.std.proofs.Math.Path.{refl, sym, ap}
use Rattle.std.proofs.Math.Bool.{true, false}
use mathlib.Core.List.{List, [], ◌∷◌}
use Rattle.std.proofs.Math.Dec.{eqb}
use Rattle.std.proofs.lemmas.List.{length-map}
use Rattle.std.proofs.Math.ListN.{set}
use borrow.Author.Tests.{eq-eqb, ne_eqb, eqb-true}
use Rattle.refusal.specs.Answer.{Answer, value, refused, number_of, damaged, queue_halted, bad_record, by_number}
use Rattle.refusal.specs.Answer.{or_damaged, damage}
use Rattle.refusal.specs.declared.Refusal.{Refusal}
use Rattle.refusal.specs.Cases.{never, choose, given, if_equal}
use Rattle.policy.specs.declared.BudgetParameters.{BudgetParameters}
use Rattle.policy.specs.declared.SchedulingParameters.{SchedulingParameters}
use Rattle.policy.specs.PolicyCases.{on_budget, no_budget, some_budget}
use Rattle.policy.specs.Budget.{sound_budget}
use Rattle.budget.specs.Runtime.{judged, refreshed_judged}
use Rattle.codec.specs.Codec.{word, parameters_of, runtime_of, decoded}
use Rattle.algorithms.specs.declared.PolicyRuntime.{PolicyRuntime}
use Rattle.algorithms.specs.Runtime.{on_runtime, of_budget, epoch_refreshed}
use Rattle.thread.specs.declared.ThreadRecord.{ThreadRecord}
use Rattle.thread.specs.Judgement.{is_bad_record}
use Rattle.thread.specs.Membership.{on_link, is_none}
use Rattle.thread.specs.MembershipLaws.{is_none_true, none_told}
use Rattle.thread.specs.Records.{with_runtime}
use Rattle.rows.specs.Table.{Out, out, after, table, record_of, record_at, set_runtime}
use Rattle.rows.specs.TableCases.{on_record}
use Rattle.rows.specs.TableLaws.{record_within, record_got_within, record_set_runtime_same}
use Rattle.rows.specs.RowTableLaws.{record_inside}
use Rattle.lists.specs.ListsLaws.{left_by_lem}
use Rattle.lists.specs.Lists.{on_answer, on_out}
use Rattle.rows.specs.Asked.{answering}
use Rattle.ready_index.specs.Cases.{on_rooted}
use Rattle.ready_index.specs.Index as index
use Rattle.ready_index.specs.LoopLaws.{whole, setting_out, onward}
use Rattle.renewal.specs.declared.BudgetTrees.{BudgetTrees}
use Rattle.renewal.specs.declared.Moved.{Moved}
use Rattle.renewal.specs.declared.Moved.TheVariants as move
use Rattle.renewal.specs.declared.NextMove.{NextMove}
use Rattle.renewal.specs.declared.NextMove.TheVariants as next
use Rattle.renewal.specs.Leaves.{Leaves, leaves, on_leaves}
use Rattle.queue.specs.declared.Root.{Root}
use Rattle.queue.specs.Queue.{empty_root}
use Rattle.queue.specs.RowJudgement.{kind_from, bad_row, budget_parameters, judged_by_tags, kind_of_two, budget_runs}
use Rattle.queue.specs.RowJudgement.{without_budget, with_budget}
use Rattle.renewal.specs.RootRows.{roots_of}
use Rattle.renewal.specs.Renewal.{head_of, refresh_record, refresh_runtime, budget_trees, move_one}
use Rattle.renewal.specs.Renewal.{move_all, root_at, with_trees, renew_roles, is_epoch}
use Rattle.renewal.specs.Steps.{refreshed_stored, budget_refreshed, row_refreshed, runtime_refreshed, refiled, Next}
use Rattle.renewal.specs.Steps.{emptied, moved, stopped, on_next, next_move, last_move, role_renewed}
use Rattle.renewal.specs.Answers.{move_answer, next_answer}
use Rattle.policy_words.specs.PolicyWords.{policy_tag, budget_tag, runtime_tag}
use Rattle.thread.specs.Filing.{budget_exhausted, budget_ready}
use Rattle.refusal.specs.declared.Damaged.{Damaged}

-- By the least thread of a tree.
module _ {y : Answer (Option ℕ)} {r : Result (Option ℕ) Damaged} (x : Result (Option ℕ) Damaged) where
  pub least_none : or_damaged r ≡ or_damaged x → r ≡ (Ok None) → y ≡ value None → y ≡ or_damaged x
  unfolding or_damaged
  least_none e m h = h ∙ ap or_damaged (sym m) ∙ e

  pub least_some : {n : ℕ} → or_damaged r ≡ or_damaged x → r ≡ Ok (Some n) → y ≡ value (Some n)
      → y ≡ or_damaged x
  unfolding or_damaged
  least_some e m h = h ∙ ap or_damaged (sym m) ∙ e

  pub least_damaged : or_damaged r ≡ or_damaged x → r ≡ (Err damage) → y ≡ refused damaged → y ≡ or_damaged x
  unfolding or_damaged
  least_damaged e m h = h ∙ ap or_damaged (sym m) ∙ e

-- By a tree's head.
module _ {B : Type 0} {y : B} {r : Result (Option ℕ) Damaged} {x : Answer (Option ℕ)} (g : ℕ → B) (f : Option ℕ → B)
  where
    pub head_found : {l : Option ℕ} → or_damaged r ≡ x → r ≡ Ok l → y ≡ f l → y ≡ on_answer x g f
    unfolding on_answer or_damaged
    head_found e m h = rw (sym e, m) h

    pub head_damaged : or_damaged r ≡ x → r ≡ (Err damage) → y ≡ g 1 → y ≡ on_answer x g f
    unfolding on_answer or_damaged
    head_damaged e m h = rw (sym e, m) h

-- By a runtime that is refreshed.
module _ {B : Type 0} {y : B} {r : Result PolicyRuntime Refusal} (g : ℕ → B) (f : PolicyRuntime → B) where
  pub runtime_fresh : {v : PolicyRuntime} → r ≡ Ok v → y ≡ f v → y ≡ on_answer (by_number r) g f
  unfolding on_answer
  runtime_fresh m h = rw m h

  pub runtime_refused : {n : Refusal} → r ≡ Err n → y ≡ g (number_of n)
      → y ≡ on_answer (by_number r) g f
  unfolding on_answer
  runtime_refused m h = rw m h

-- By a verdict.
module _ {B : Type 0} {y : B} {r : Result (Unit {0}) Refusal} (g : ℕ → B) (f : Unit {0} → B) where
  pub was_accepted : r ≡ (Ok tt) → y ≡ f tt → y ≡ on_answer (by_number r) g f
  unfolding on_answer
  was_accepted m h = rw m h

  pub was_turned_down : {n : Refusal} → r ≡ Err n → y ≡ g (number_of n)
      → y ≡ on_answer (by_number r) g f
  unfolding on_answer
  was_turned_down m h = rw m h

-- An answer and the table after a store.
pub stored_after : {A : Type 0} {a : A} (c : Result (Unit {0}) Damaged) (x : Out (Result (Unit {0}) Damaged)) {t : List
    ThreadRecord}
    → out (or_damaged c) t ≡ answering or_damaged x → out a t ≡ out a (after x)
stored_after c x s = rw (left_by_lem c x s)

-- By the budget that a row's words say.
module _ {A : Type 0} {y : A} (w : List ℕ) (a : A) (f : BudgetParameters → A) where
  pub row_has_none : word w budget_tag ≡ 0 → y ≡ a → y ≡ on_budget (decoded w).parameters.budget a f
  row_has_none m h = no_budget a f (without_budget w m) h

  pub row_has_one : (word w budget_tag ≡ 0 → ⊥) → y ≡ f (budget_parameters w)
      → y ≡ on_budget (decoded w).parameters.budget a f
  row_has_one m h = some_budget a f (with_budget w m) h

-- The refresh of a row's runtime.
pub row_fresh : {A : Type 0} {y : A} {p : SchedulingParameters} {r : PolicyRuntime} {a : Answer PolicyRuntime}
    (w : List ℕ) (now : ℕ) (f : Answer PolicyRuntime → A)
    → p ≡ parameters_of w → r ≡ runtime_of w → a ≡ epoch_refreshed r now p → y ≡ f a
    → y ≡ given (epoch_refreshed (decoded w).runtime now (decoded w).parameters) f
unfolding decoded given
row_fresh w now f e₁ e₂ e₃ h = rw (sym e₁, sym e₂, sym e₃) h

-- By a move.
module _ {B : Type 0} {y : B} {r : Moved} (g : ℕ → BudgetTrees → B) (f : Unit {0} → BudgetTrees → B) where
  pub move_done : {trees : BudgetTrees} → r ≡ move.Done trees → y ≡ f tt trees → y ≡ on_leaves (move_answer r) g f
  unfolding on_leaves
  move_done m h = rw m h

  pub move_refused : {n : Refusal} {trees : BudgetTrees} → r ≡ move.Refused n trees → y ≡ g (number_of n) trees
      → y ≡ on_leaves (move_answer r) g f
  unfolding on_leaves
  move_refused m h = rw m h

pub ruleset renewing = (
  least_none,
  least_some,
  least_damaged,
  head_found,
  head_damaged,
  runtime_fresh,
  runtime_refused,
  was_accepted,
  was_turned_down,
  stored_after,
  row_has_none,
  row_has_one,
  row_fresh,
  move_done,
  move_refused,
)

-- A row whose policy and runtime have the same tag has one kind.
module _ (w : List ℕ) where
  plain_row : word w runtime_tag ≡ word w policy_tag → (word w runtime_tag ≡ 2 → ⊥)
      → is_bad_record (decoded w) ≡ if_equal (word w budget_tag) 0 false true
  unfolding bad_row given if_equal choose
  plain_row e n =
      sym (judged_by_tags w refl)
      ∙ rw (
        sym e,
        eq-eqb (kind_from (word w runtime_tag)) (kind_from (word w runtime_tag)) refl,
        ne_eqb (kind_from (word w runtime_tag)) 2 (λ q. n (kind_of_two (word w runtime_tag) q)),
      )

  budget_row : word w runtime_tag ≡ word w policy_tag → word w runtime_tag ≡ 2
      → is_bad_record (decoded w) ≡ if_equal (word w budget_tag) 0 true
      (choose (sound_budget (budget_parameters w)) false true)
  unfolding bad_row kind_from given if_equal choose
  budget_row e m = sym (judged_by_tags w refl) ∙ rw (sym e, m)

  -- Two different tags of one kind are not a budget's.
  other_tags : (word w runtime_tag ≡ word w policy_tag → ⊥) → is_bad_record (decoded w) ≡ false → word w budget_tag ≡ 0
  unfolding bad_row given if_equal choose
  other_tags d good = go (eqb (kind_from (word w runtime_tag)) (kind_from (word w policy_tag)))
      (eqb (kind_from (word w policy_tag)) 2) (eqb (word w budget_tag) 0)
      (sound_budget (budget_parameters w)) refl refl refl
      (judged_by_tags w refl ∙ good)
    where
      go : (same two none sound : Bool) → eqb (kind_from (word w runtime_tag)) (kind_from (word w policy_tag)) ≡ same
          → eqb (kind_from (word w policy_tag)) 2 ≡ two → eqb (word w budget_tag) 0 ≡ none
          → choose same (choose two (choose none true (choose sound false true)) (choose none false true)) true ≡ false
          → word w budget_tag ≡ 0
      go true true none sound e₁ e₂ e₃ h =
          absurd (d (kind_of_two (word w runtime_tag)
          (eqb-true (kind_from (word w runtime_tag)) (kind_from (word w policy_tag)) e₁
          ∙ eqb-true (kind_from (word w policy_tag)) 2 e₂)
          ∙ sym (kind_of_two (word w policy_tag) (eqb-true (kind_from (word w policy_tag)) 2 e₂))))
      go true false true sound e₁ e₂ e₃ h = eqb-true (word w budget_tag) 0 e₃
      go true false false sound e₁ e₂ e₃ h = never cc
      go false two none sound e₁ e₂ e₃ h = never cc

  -- A budget that is not sound is refused by its refresh.
  unsound : (t : List ThreadRecord) (id now : ℕ) → record_at t id ≡ Ok (decoded w) → (word w budget_tag ≡ 0 → ⊥)
      → word w runtime_tag ≡ 2 → sound_budget (budget_parameters w) ≡ false
      → budget_refreshed t id now ≡ out (refused bad_record) t
  unfolding budget_refreshed refreshed_stored given on_record epoch_refreshed on_runtime on_budget refreshed_judged
      judged
      of_budget choose on_answer
  unsound t id now got n m s = rw (got, budget_runs w m, with_budget w n, s)

-- A row's record judged and refreshed, by the tags.
module _ {y : Out (Answer (Unit {0}))} (t : List ThreadRecord) (id : ℕ) (w : List ℕ) (now : ℕ) where
  pub row_without_budget : word w runtime_tag ≡ word w policy_tag → word w budget_tag ≡ 0 → word w runtime_tag ≡ 2
      → y ≡ out (refused bad_record) t → y ≡ row_refreshed t id (decoded w) now
  unfolding row_refreshed if_equal choose
  row_without_budget e n m h = rw (budget_row w e m, eq-eqb (word w budget_tag) 0 n) h

  pub row_plain : word w runtime_tag ≡ word w policy_tag → word w budget_tag ≡ 0 → (word w runtime_tag ≡ 2 → ⊥)
      → y ≡ out (value tt) t → y ≡ row_refreshed t id (decoded w) now
  unfolding row_refreshed if_equal choose on_budget
  row_plain e n m h = rw (plain_row w e m, eq-eqb (word w budget_tag) 0 n, without_budget w n) h

  row_budget : record_at t id ≡ Ok (decoded w) → word w runtime_tag ≡ word w policy_tag
      → (word w budget_tag ≡ 0 → ⊥)
      → word w runtime_tag ≡ 2 → y ≡ budget_refreshed t id now → y ≡ row_refreshed t id (decoded w) now
  unfolding row_refreshed if_equal choose on_budget
  row_budget got e n m h =
      h ∙ go (sound_budget (budget_parameters w)) refl
      ∙ sym
      (ap (λ q. choose (is_bad_record (decoded w)) (out (refused bad_record) t)
      (on_budget q (out (value tt) t) (λ b. budget_refreshed t id now))) (with_budget w n)
      ∙ ap (λ bad. choose bad (out (refused bad_record) t) (budget_refreshed t id now)) judged_bad)
    where
      judged_bad : is_bad_record (decoded w) ≡ choose (sound_budget (budget_parameters w)) false true
      judged_bad = budget_row w e m ∙ rw (ne_eqb (word w budget_tag) 0 n)

      go : (s : Bool) → sound_budget (budget_parameters w) ≡ s
          → budget_refreshed t id now ≡ choose (choose s false true) (out (refused bad_record) t)
          (budget_refreshed t id now)
      go true k = refl
      go false k = unsound w t id now got n m k

  pub row_strange : word w runtime_tag ≡ word w policy_tag → (word w budget_tag ≡ 0 → ⊥) → (word w runtime_tag ≡ 2 → ⊥)
      → y ≡ out (refused bad_record) t → y ≡ row_refreshed t id (decoded w) now
  unfolding row_refreshed if_equal choose
  row_strange e n m h = rw (plain_row w e m, ne_eqb (word w budget_tag) 0 n) h

  pub row_bad : {b : Bool} → b ≡ is_bad_record (decoded w) → b ≡ true → y ≡ out (refused bad_record) t
      → y ≡ row_refreshed t id (decoded w) now
  unfolding row_refreshed choose
  row_bad e m h = rw (sym e ∙ m) h

  pub row_idle : {b : Bool} → (word w runtime_tag ≡ word w policy_tag → ⊥) → b ≡ is_bad_record (decoded w) → b ≡ false
      → y ≡ out (value tt) t → y ≡ row_refreshed t id (decoded w) now
  unfolding row_refreshed choose on_budget
  row_idle d e m h = rw (sym e ∙ m, without_budget w (other_tags w d (sym e ∙ m))) h

pub row_budget_inside : {y : Out (Answer (Unit {0}))} (rows : List (List ℕ)) (id now : ℕ) → id < length rows
    → word (get_or rows id []) runtime_tag ≡ word (get_or rows id []) policy_tag
    → (word (get_or rows id []) budget_tag ≡ 0 → ⊥) → word (get_or rows id []) runtime_tag ≡ 2
    → y ≡ budget_refreshed (table rows) id now → y ≡ row_refreshed (table rows) id (decoded (get_or rows id [])) now
row_budget_inside rows id now l = row_budget (table rows) id (get_or rows id []) now
    (sym (record_inside rows id l refl))

pub ruleset by_tags = (row_without_budget, row_plain, row_budget_inside, row_strange, row_bad, row_idle)

-- A record that was read is, once refreshed, what then stands in the table.
module _ (t : List ThreadRecord) (id now : ℕ) {r : ThreadRecord} (got : record_at t id ≡ Ok r) where
  the_record : record_of t id ≡ r
  unfolding on_record
  the_record = ap (λ x. on_record x r (λ s. s)) (sym (record_within t id (record_got_within t id got)) ∙ got)

  stands : (x : PolicyRuntime) → record_at (after (set_runtime t id x)) id ≡ Ok (with_runtime x r)
  stands x =
      record_set_runtime_same t id x (record_got_within t id got) ∙ ap (λ s. Ok (with_runtime x s)) the_record

  pub refreshed_then : {B : Type 0} (g : ℕ → List ThreadRecord → B) (d : List ThreadRecord → B)
      (f : ThreadRecord → List ThreadRecord → B)
      → on_out (refresh_record t id r now) (λ a t₁. on_answer a (λ n. g n t₁) (λ s. f s t₁))
      ≡ on_out (row_refreshed t id r now)
      (λ a t₁. on_answer a (λ n. g n t₁) (λ u. on_record (record_at t₁ id) (d t₁) (λ s. f s t₁)))
  unfolding refresh_record row_refreshed budget_refreshed refreshed_stored given on_record choose on_budget on_answer
      on_out
  refreshed_then {B} g d f =
      rw got (go (is_bad_record r) r.parameters.budget (epoch_refreshed r.runtime now r.parameters))
    where
      go : (bad : Bool) (b : Option BudgetParameters) (a : Answer PolicyRuntime)
          → on_out (choose bad (out (refused bad_record) t)
          (on_budget b (out (value r) t) (λ q. on_answer a (λ n. out (refused bad_record) t)
          (λ x. out (value (with_runtime x r)) (after (set_runtime t id x))))))
          (λ a t₁. on_answer a (λ n. g n t₁) (λ s. f s t₁))
          ≡ on_out {A = Answer (Unit {0})} {B = B} (choose bad (out (refused bad_record) t)
          (on_budget b (out (value (tt {0})) t)
          (λ q. on_answer a (λ n. out (refused bad_record) t)
          (λ x. out (value (tt {0})) (after (set_runtime t id x))))))
          (λ a t₁. on_answer a (λ n. g n t₁) (λ u. on_record (record_at t₁ id) (d t₁) (λ s. f s t₁)))
      go true b a = refl
      go false None a = rw got refl
      go false (Some q) (refused n) = refl
      go false (Some q) (value x) = rw (stands x) refl

-- The second half of a move, as `move_one` has it.
pub refiled_so : {y : Out (Leaves (Unit {0}) BudgetTrees)} (t : List ThreadRecord) (trees : BudgetTrees) (id now : ℕ)
    → y ≡ refiled t trees id now
    → y
    ≡ on_out (refresh_runtime t id now)
    (λ a t₂. on_answer a
    (λ n. out (leaves (refused n) trees) t₂)
    (λ r. on_rooted (index.insert t₂ trees.ready id)
    (λ t₃. out (leaves (refused queue_halted) trees) t₃)
    (λ top t₃. out (leaves (value tt) (budget_trees trees.exhausted top trees.moves)) t₃)))
unfolding refresh_runtime runtime_refreshed on_record on_out on_answer
refiled_so t trees id now h = h ∙ sym (go (record_at t id) refl)
  where
    insertion : List ThreadRecord → Out (Leaves (Unit {0}) BudgetTrees)
    insertion t₂ =
        on_rooted (index.insert t₂ trees.ready id)
        (λ t₃. out (leaves (refused queue_halted) trees) t₃)
        (λ top t₃. out (leaves (value tt) (budget_trees trees.exhausted top trees.moves)) t₃)

    either_way : (x : Result ThreadRecord Damaged) (t₁ : List ThreadRecord)
        → on_record x (insertion t₁) (λ s. insertion t₁) ≡ insertion t₁
    either_way (Ok s) t₁ = refl
    either_way (Err _) t₁ = refl

    all_ways : (x : Out (Answer (Unit {0})))
        → on_out x (λ a t₁. on_answer a (λ n. out (leaves (refused n) trees) t₁)
        (λ u. on_record (record_at t₁ id) (insertion t₁) (λ s. insertion t₁)))
        ≡ on_out x (λ a t₁. on_answer a (λ n. out (leaves (refused n) trees) t₁) (λ u. insertion t₁))
    all_ways (out (value u) t₁) = either_way (record_at t₁ id) t₁
    all_ways (out (refused n) t₁) = refl

    go : (x : Result ThreadRecord Damaged) → record_at t id ≡ x
        → on_out (on_record x (out (refused damaged) t) (λ r. refresh_record t id r now))
        (λ a t₂. on_answer a (λ n. out (leaves (refused n) trees) t₂) (λ r. insertion t₂))
        ≡ on_out (on_record x (out (refused damaged) t) (λ r. row_refreshed t id r now))
        (λ a t₂. on_answer a (λ n. out (leaves (refused n) trees) t₂) (λ u. insertion t₂))
    go (Ok r) e =
        refreshed_then t id now e (λ n t₁. out (leaves (refused n) trees) t₁) insertion (λ s t₁. insertion t₁)
        ∙ all_ways (row_refreshed t id r now)
    go (Err _) e = refl

-- The moves that are left go by the next move.
module _ (t : List ThreadRecord) (exhausted ready : Option ℕ) (now : ℕ) where
  abbrev by_next : ℕ → Out Next → Out (Leaves (Unit {0}) BudgetTrees)
  by_next n x =
      on_next x
      (λ t₁. out (leaves (value tt) (budget_trees exhausted ready n)) t₁)
      (λ trees t₁. move_all (n - 1) t₁ trees.exhausted trees.ready now)
      (λ k trees t₁. out (leaves (refused k) trees) t₁)

  move_step : (n : ℕ) → 0 < n → move_all n t exhausted ready now ≡ by_next n (next_move n t exhausted ready now)
  unfolding move_all next_move on_answer on_link on_out on_leaves on_next
  move_step zero h = absurd (omega arith)
  move_step (suc n) h = simp unary_clauses (go (head_of t exhausted))
    where
      worked : (x : Out (Leaves (Unit {0}) BudgetTrees))
          → on_out x (λ s t₁. on_leaves s (λ k trees. out (leaves (refused k) trees) t₁)
          (λ u trees. move_all n t₁ trees.exhausted trees.ready now))
          ≡ on_next (on_out x (λ s t₁. on_leaves s (λ k trees. out (stopped k trees) t₁)
          (λ u trees. out (moved trees) t₁)))
          (λ t₁. out (leaves (value tt) (budget_trees exhausted ready (suc n))) t₁)
          (λ trees t₁. move_all n t₁ trees.exhausted trees.ready now)
          (λ k trees t₁. out (leaves (refused k) trees) t₁)
      worked (out (leaves (value u) trees) t₁) = refl
      worked (out (leaves (refused k) trees) t₁) = refl

      go : (a : Answer (Option ℕ))
          → on_answer a
          (λ k. out (leaves (refused k) (budget_trees exhausted ready (suc n))) t)
          (λ head. on_link head
          (out (leaves (value tt) (budget_trees exhausted ready (suc n))) t)
          (λ id. on_out (move_one t (budget_trees exhausted ready n) id now)
          (λ s t₁. on_leaves s
          (λ k trees. out (leaves (refused k) trees) t₁)
          (λ u trees. move_all n t₁ trees.exhausted trees.ready now))))
          ≡ on_next (on_answer a
          (λ k. out (stopped k (budget_trees exhausted ready (suc n))) t)
          (λ head. on_link head
          (out emptied t)
          (λ id. on_out (move_one t (budget_trees exhausted ready n) id now)
          (λ s t₁. on_leaves s
          (λ k trees. out (stopped k trees) t₁)
          (λ u trees. out (moved trees) t₁)))))
          (λ t₁. out (leaves (value tt) (budget_trees exhausted ready (suc n))) t₁)
          (λ trees t₁. move_all n t₁ trees.exhausted trees.ready now)
          (λ k trees t₁. out (leaves (refused k) trees) t₁)
      go (refused k) = refl
      go (value None) = refl
      go (value (Some id)) = worked (move_one t (budget_trees exhausted ready n) id now)

  module _ {y : Out (Leaves (Unit {0}) BudgetTrees)} {r : NextMove} {t₁ : List ThreadRecord} (n : ℕ) where
    pub moves_emptied : 0 < n → out (next_answer r) t₁ ≡ next_move n t exhausted ready now → r ≡ next.Emptied
        → y ≡ out (leaves (value tt) (budget_trees exhausted ready n)) t₁ → y ≡ move_all n t exhausted ready now
    unfolding on_next
    moves_emptied p e m h = rw (move_step n p, sym e, m) h

    pub moves_moved : {trees : BudgetTrees} → 0 < n → out (next_answer r) t₁ ≡ next_move n t exhausted ready now
        → r ≡ next.Moved trees
        → y ≡ move_all (n - 1) t₁ trees.exhausted trees.ready now → y ≡ move_all n t exhausted ready now
    unfolding on_next
    moves_moved p e m h = rw (move_step n p, sym e, m) h

    pub moves_stopped : {k : Refusal} {trees : BudgetTrees} → 0 < n
        → out (next_answer r) t₁ ≡ next_move n t exhausted ready now → r ≡ next.Refused k trees
        → y ≡ out (leaves (refused (number_of k)) trees) t₁ → y ≡ move_all n t exhausted ready now
    unfolding on_next
    moves_stopped p e m h = rw (move_step n p, sym e, m) h

  pub moves_spent : {y : Out (Leaves (Unit {0}) BudgetTrees)} (n : ℕ) → n ≤ 0 → y ≡ last_move t exhausted ready
      → y ≡ move_all n t exhausted ready now
  unfolding move_all last_move
  moves_spent zero p h = h
  moves_spent (suc n) p h = absurd (omega arith)

pub ruleset moving = (onward, moves_emptied, moves_moved, moves_stopped, moves_spent)

-- The moves of one role, by the words of its roots.
set_same : {A : Type 0} (l : List A) (k : ℕ) (d : A) → set l k (get_or l k d) ≡ l
set_same [] k d = refl
set_same (x ∷ l) zero d = refl
set_same {A} (x ∷ l) (suc k) d = ap {B = List A} (λ r. x ∷ r) (set_same l k d)

no_exhausted : (moves : ℕ) (t : List ThreadRecord) (ready : Option ℕ) (now : ℕ)
    → move_all moves t None ready now ≡ out (leaves (value tt) (budget_trees None ready moves)) t
unfolding move_all head_of index.first or_damaged on_answer on_link
no_exhausted zero t ready now = refl
no_exhausted (suc moves) t ready now = refl

module _ (rows : List (List ℕ)) (role moves : ℕ) (t : List ThreadRecord) (now : ℕ) where
  abbrev the_roots : List Root
  the_roots = roots_of rows

  same_trees : (spent : Option ℕ) → spent ≡ root_at the_roots (budget_exhausted + role)
      → with_trees the_roots role (budget_trees spent (root_at the_roots (budget_ready + role)) moves) ≡ the_roots
  unfolding with_trees
  same_trees spent e =
      ap (λ (x : Option ℕ). set (set the_roots (budget_exhausted + role) (record { root = x })) (budget_ready + role)
      (record { root = root_at the_roots (budget_ready + role) })) e
      ∙ ap (λ (l : List Root). set l (budget_ready + role) (record { root = root_at the_roots (budget_ready + role) }))
      (set_same the_roots (budget_exhausted + role) empty_root)
      ∙ set_same the_roots (budget_ready + role) empty_root

  -- An empty exhausted tree is passed over.
  pub role_empty : {exhausted : Option ℕ} {r : Bool} → exhausted ≡ root_at (roots_of rows) (budget_exhausted + role)
      → is_some exhausted ≡ not r → r ≡ true
      → out (leaves (value moves) (roots_of rows)) t ≡ role_renewed role moves t (roots_of rows) now
  unfolding role_renewed on_out on_leaves
  role_empty {exhausted} {r} e test h =
      let none : None ≡ root_at the_roots (budget_exhausted + role) =
      sym (is_none_true exhausted (sym (none_told exhausted r test) ∙ h))
      ∙ e in
      rw (sym none, no_exhausted moves t (root_at the_roots (budget_ready + role)) now)
      (ap (λ l. out (leaves (value moves) l) t) (sym (same_trees None none)))

  module _ {s : Moved} {exhausted ready : Option ℕ} {t₁ : List ThreadRecord} {trees : BudgetTrees}
      {roots₁ : List Root} where
    pub role_moved : exhausted ≡ root_at (roots_of rows) (budget_exhausted + role) → ready ≡ root_at (roots_of rows)
        (budget_ready + role)
        → out (move_answer s) t₁ ≡ move_all moves t exhausted ready now → s ≡ move.Done trees
        → roots₁ ≡ with_trees (roots_of rows) role trees
        → out (leaves (value trees.moves) roots₁) t₁ ≡ role_renewed role moves t (roots_of rows) now
    unfolding role_renewed on_out on_leaves
    role_moved a b e m w = rw (sym a, sym b, sym e, m, w)

    pub role_stopped : {k : Refusal} → exhausted ≡ root_at (roots_of rows) (budget_exhausted + role)
        → ready ≡ root_at (roots_of rows) (budget_ready + role)
        → out (move_answer s) t₁ ≡ move_all moves t exhausted ready now → s ≡ move.Refused k trees
        → roots₁ ≡ with_trees (roots_of rows) role trees
        → out (leaves (refused (number_of k)) roots₁) t₁ ≡ role_renewed role moves t (roots_of rows) now
    unfolding role_renewed on_out on_leaves
    role_stopped a b e m w = rw (sym a, sym b, sym e, m, w)

-- Two roots stored one after the other.
pub trees_stored : {l₁ l₂ : List Root} (l : List Root) (role : ℕ) (trees : BudgetTrees)
    → l₁ ≡ set l (budget_exhausted + role) (record { root = trees.exhausted })
    → l₂ ≡ set l₁ (budget_ready + role) (record { root = trees.ready }) → l₂ ≡ with_trees l role trees
unfolding with_trees
trees_stored l role trees e₁ e₂ = rw (e₂, e₁)

pub ruleset one_role = (role_empty, role_moved, role_stopped, trees_stored)

-- The roles that are left go by the moves of the next one.
module _ (t : List ThreadRecord) (moves : ℕ) (roots : List Root) (now : ℕ) where
  roles_next : (n : ℕ)
      → renew_roles (suc n) moves t roots now
      ≡ on_out (role_renewed (2 - n) moves t roots now)
      (λ s t₁. on_leaves s (λ k l. out (leaves (refused k) l) t₁) (λ m l. renew_roles n m t₁ l now))
  unfolding renew_roles role_renewed given on_out on_leaves
  roles_next n = go
      (move_all moves t (root_at roots (budget_exhausted + (2 - n))) (root_at roots (budget_ready + (2 - n))) now)
    where
      go : (x : Out (Leaves (Unit {0}) BudgetTrees))
          → on_out x
          (λ s t₁. on_leaves s
          (λ k trees. out (leaves (refused k) (with_trees roots (2 - n) trees)) t₁)
          (λ u trees. renew_roles n trees.moves t₁ (with_trees roots (2 - n) trees) now))
          ≡ on_out (on_out {B = Out (Leaves ℕ (List Root))} x
          (λ s t₁. on_leaves s
          (λ k trees. out (leaves (refused k) (with_trees roots (2 - n) trees)) t₁)
          (λ u trees. out (leaves (value trees.moves) (with_trees roots (2 - n) trees)) t₁)))
          (λ s t₁. on_leaves s (λ k l. out (leaves (refused k) l) t₁) (λ m l. renew_roles n m t₁ l now))
      go (out (leaves (value u) trees) t₁) = refl
      go (out (leaves (refused k) trees) t₁) = refl

  roles_step : (n : ℕ) → 0 < n
      → renew_roles n moves t roots now
      ≡ on_out (role_renewed (3 - n) moves t roots now)
      (λ s t₁. on_leaves s (λ k l. out (leaves (refused k) l) t₁) (λ m l. renew_roles (n - 1) m t₁ l now))
  roles_step zero h = absurd (omega arith)
  roles_step (suc n) h =
      let role : 3 - suc n ≡ 2 - n = omega arith in
      let one : suc n - 1 ≡ n = omega arith in
      rw (role, one) (roles_next n)

  module _ {y : Out (Leaves (Unit {0}) (List Root))} {s : Result ℕ Refusal} {t₁ : List ThreadRecord} {roots₁ : List
      Root}
      (n : ℕ) where
    pub role_done : {m : ℕ} → 0 < n → out (leaves (by_number s) roots₁) t₁ ≡ role_renewed (3 - n) moves t roots now
        → s ≡ Ok m
        → y ≡ renew_roles (n - 1) m t₁ roots₁ now → y ≡ renew_roles n moves t roots now
    unfolding on_out on_leaves
    role_done p e m h = rw (roles_step n p, sym e, m) h

    pub role_refused : {k : Refusal} → 0 < n
        → out (leaves (by_number s) roots₁) t₁ ≡ role_renewed (3 - n) moves t roots now → s ≡ Err k
        → y ≡ out (leaves (refused (number_of k)) roots₁) t₁ → y ≡ renew_roles n moves t roots now
    unfolding on_out on_leaves
    role_refused p e m h = rw (roles_step n p, sym e, m) h

  pub roles_over : {y : Out (Leaves (Unit {0}) (List Root))} (n : ℕ) → n ≤ 0 → y ≡ out (leaves (value tt) roots) t
      → y ≡ renew_roles n moves t roots now
  unfolding renew_roles
  roles_over zero p h = h
  roles_over (suc n) p h = absurd (omega arith)

-- There are as many moves as rows.
pub roles_set_out : (rows : List (List ℕ)) (roots : List Root) (now : ℕ)
    → renew_roles 3 (length rows) (table rows) roots now
    ≡ whole (renew_roles 3 (length (table rows)) (table rows) roots now)
unfolding table
roles_set_out rows roots now =
    rw (length-map rows decoded) (setting_out (renew_roles 3 (length rows) (table rows) roots now))

pub ruleset roles = (onward, role_done, role_refused, roles_over)

-- By the queue's epoch.
module _ {y : Bool} {x : Option ℕ} (e : ℕ) where
  pub no_epoch : x ≡ None → y ≡ false → y ≡ is_epoch x e
  unfolding is_epoch
  no_epoch m h = rw m h

  pub some_epoch : {n : ℕ} → x ≡ Some n → y ≡ eqb n e → y ≡ is_epoch x e
  unfolding is_epoch
  some_epoch m h = rw m h

-- By a verdict that stands beside what a step left.
module _ {A B : Type 0} {y : A} {r : Result (Unit {0}) Refusal} {b : B} (g : ℕ → B → A) (f : Unit {0} → B → A) where
  pub step_accepted : r ≡ (Ok tt) → y ≡ f tt b → y ≡ on_leaves (leaves (by_number r) b) g f
  unfolding on_leaves
  step_accepted m h = rw m h

  pub step_refused : {n : Refusal} → r ≡ Err n → y ≡ g (number_of n) b
      → y ≡ on_leaves (leaves (by_number r) b) g f
  unfolding on_leaves
  step_refused m h = rw m h

pub ruleset steps = (no_epoch, some_epoch, step_accepted, step_refused)
