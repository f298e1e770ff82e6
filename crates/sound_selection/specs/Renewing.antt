-- The whole change of period on a sound queue: it is never refused, and the queue is sound after it, with no thread
-- left in an exhausted tree.
use Rattle.std.specs.Prelude.{ℕ, suc, ◌+◌, ◌-◌, ◌≤◌, ◌<◌, ◌≡◌, Bool, ◌≢◌, length, Some, Result}
use Rattle.std.proofs.Math.Path.{refl, sym}
use Rattle.std.proofs.Common.{ap, ◌∙◌, subst, arith}
use Rattle.std.proofs.Math.Bool.{true, false}
use mathlib.Core.List.{List}
use Rattle.refusal.specs.Answer.{value}
use Rattle.refusal.specs.Cases.{never, choose, given}
use Rattle.thread.specs.declared.ThreadRecord.{ThreadRecord}
use Rattle.rows.specs.Table.{Out, out, record_at}
use Rattle.lists.specs.Lists.{on_out}
use Rattle.queue.specs.declared.Root.{Root}
use Rattle.queue.specs.RunQueue.{CpuRunQueue, tree_count}
use Rattle.queue.specs.Queue.{root_of}
use Rattle.renewal.specs.declared.BudgetTrees.{BudgetTrees}
use Rattle.renewal.specs.Parts.{SelectionParts}
use Rattle.renewal.specs.Leaves.{Leaves, leaves, on_leaves}
use Rattle.renewal.specs.Renewal.{move_all, root_at, with_trees, renew_roles, is_epoch, renew}
use Rattle.selection.specs.Peek.{selection_parts, with_selection_parts}
use Rattle.sound_queue.specs.CountLaws.{count_most}
use Rattle.sound_queue.specs.Forest.{Forest}
use Rattle.sound_queue.specs.Sound.{Sound}
use Rattle.sound_queue.specs.Runtimes.{trees_sound}
use Rattle.sound_selection.specs.Changes.{bare_at, Shift, stays, shifts}
use Rattle.sound_selection.specs.ChangeLaws.{shift_trans}
use Rattle.sound_selection.specs.Moves.{spent, Drained, drains}
use Rattle.thread.specs.Filing.{budget_exhausted, budget_ready}

-- What a change of period, or none, leaves. Where the epoch was this one nothing has moved; where not, no exhausted
-- tree has a thread.
pub record Turned {queued : ℕ → Bool} {q : CpuRunQueue} {t : List ThreadRecord}
    (S : Sound queued q t) (now e : ℕ) (o : Out (Leaves (Unit {0}) SelectionParts)) : Type 0 where
  pub parts : SelectionParts
  pub table : List ThreadRecord
  pub is : o ≡ out (leaves (value tt) parts) table
  pub sound : Sound queued (with_selection_parts q parts) table
  pub len : length table ≡ length t
  pub shift : (j : ℕ) → Shift now (S.place j) (bare_at t j) (sound.place j) (bare_at table j)
  pub others : (j : ℕ) → queued j ≡ false → record_at table j ≡ record_at t j
  pub still : is_epoch q.budget_epoch e ≡ true → (j : ℕ) → sound.place j ≡ S.place j
  pub clear : is_epoch q.budget_epoch e ≡ false → (j : ℕ) → sound.place j < tree_count
      → sound.place j < budget_exhausted

-- One role, and then the others.
role_done : (left moves now : ℕ) (t s : List ThreadRecord) (roots : List Root) (x : BudgetTrees)
    → move_all moves t (root_at roots (budget_exhausted + (2 - left))) (root_at roots (budget_ready + (2 - left))) now
    ≡ out (leaves (value tt) x) s
    → renew_roles (suc left) moves t roots now ≡ renew_roles left x.moves s (with_trees roots (2 - left) x) now
unfolding renew_roles given on_out on_leaves
role_done left moves now t s roots x e = rw e

-- A tree that is empty stays so.
stays_empty : {now p : ℕ} {a : ThreadRecord} {p' : ℕ} {b : ThreadRecord} (n : ℕ) → budget_exhausted ≤ n
    → Shift now p a p' b → p ≢ n
    → p' ≢ n
stays_empty n g (stays e f) h z = h (sym e ∙ z)
stays_empty n g (shifts a c e f) h z = omega arith

module _ {queued : ℕ → Bool} {q : CpuRunQueue} {t : List ThreadRecord} (S : Sound queued q t)
    (now e : ℕ) where
  -- Nothing to do.
  turned_still : is_epoch q.budget_epoch e ≡ true → Turned S now e (out (leaves (value tt) (selection_parts q)) t)
  unfolding selection_parts with_selection_parts
  turned_still h = record {
    parts = selection_parts q;
    table = t;
    is = refl;
    sound = S;
    len = refl;
    shift = λ j. stays refl refl;
    others = λ j f. refl;
    still = λ f j. refl;
    clear = λ f. let z : true ≡ false = sym h ∙ f in never cc;
  }

  -- The three roles, one after the other.
  module _ (A : Drained S now 0 (move_all (length t) t (root_of q budget_exhausted) (root_of q budget_ready) now))
      (B : Drained A.renewed.sound now 1
      (move_all A.trees.moves A.table (root_of A.queue 10) (root_of A.queue 7) now))
      (C : Drained B.renewed.sound now 2
      (move_all B.trees.moves B.table (root_of B.queue 11) (root_of B.queue 8) now)) where
    abbrev first_roots : List Root
    first_roots = with_trees q.indices 0 A.trees

    abbrev second_roots : List Root
    second_roots = with_trees first_roots 1 B.trees

    abbrev third_roots : List Root
    third_roots = with_trees second_roots 2 C.trees

    after_second : B.queue.indices ≡ second_roots
    after_second = B.indices ∙ ap (λ (l : List Root). with_trees l 1 B.trees) A.indices

    after_third : C.queue.indices ≡ third_roots
    after_third = C.indices ∙ ap (λ (l : List Root). with_trees l 2 C.trees) after_second

    roles_done : renew_roles 3 (length t) t q.indices now ≡ out (leaves (value tt) third_roots) C.table
    unfolding renew_roles
    roles_done =
        role_done 2 (length t) now t A.table q.indices A.trees A.is
        ∙ role_done 1 A.trees.moves now A.table B.table first_roots B.trees
        (subst (λ (l : List Root). move_all A.trees.moves A.table (root_at l 10) (root_at l 7) now
        ≡ out (leaves (value tt) B.trees) B.table) A.indices B.is)
        ∙ role_done 0 B.trees.moves now B.table C.table second_roots C.trees
        (subst (λ (l : List Root). move_all B.trees.moves B.table (root_at l 11) (root_at l 8) now
        ≡ out (leaves (value tt) C.trees) C.table) after_second C.is)

    abbrev left_parts : SelectionParts
    left_parts = record { indices = third_roots; budget_epoch = Some e; halted = q.halted }

    whole_shift : (j : ℕ) → Shift now (S.place j) (bare_at t j) (C.renewed.sound.place j) (bare_at C.table j)
    whole_shift j = shift_trans (A.renewed.shift j) (shift_trans (B.renewed.shift j) (C.renewed.shift j))

    emptied : (j : ℕ) → C.renewed.sound.place j < tree_count → C.renewed.sound.place j < budget_exhausted
    emptied j l =
        let a : C.renewed.sound.place j ≢ budget_exhausted = stays_empty budget_exhausted (omega arith)
        (C.renewed.shift j)
        (stays_empty budget_exhausted (omega arith) (B.renewed.shift j) (A.none_left j)) in
        let b : C.renewed.sound.place j ≢ 10 = stays_empty 10 (omega arith) (C.renewed.shift j) (B.none_left j) in
        let c : C.renewed.sound.place j ≢ 11 = C.none_left j in
        omega arith

    turned_sound : Sound queued (with_selection_parts q left_parts) C.table
    unfolding with_selection_parts trees_sound
    turned_sound =
        trees_sound C.renewed.sound C.table refl (λ j. refl) (λ j. refl) (with_selection_parts q left_parts)
        C.renewed.sound.place
        (sym (C.renewed.beside.realtime ∙ B.renewed.beside.realtime ∙ A.renewed.beside.realtime))
        (sym (C.renewed.beside.fair ∙ B.renewed.beside.fair ∙ A.renewed.beside.fair))
        (sym (C.renewed.beside.total ∙ B.renewed.beside.total ∙ A.renewed.beside.total))
        (sym (C.renewed.beside.budgets ∙ B.renewed.beside.budgets ∙ A.renewed.beside.budgets))
        (sym (C.renewed.beside.halted ∙ B.renewed.beside.halted ∙ A.renewed.beside.halted))
        (subst (λ (l : List Root). Forest l C.table C.renewed.sound.place) after_third
        C.renewed.sound.forest) C.renewed.sound.stands C.renewed.sound.threads

    turned_by : is_epoch q.budget_epoch e ≡ false → Turned S now e (renew t (selection_parts q) now e)
    unfolding renew choose on_out on_leaves selection_parts turned_sound trees_sound
    turned_by h = record {
      parts = left_parts;
      table = C.table;
      is = rw (h, roles_done);
      sound = turned_sound;
      len = C.renewed.len ∙ B.renewed.len ∙ A.renewed.len;
      shift = whole_shift;
      others = λ j f. C.renewed.others j f ∙ B.renewed.others j f ∙ A.renewed.others j f;
      still = λ f. let z : true ≡ false = sym f ∙ h in never cc;
      clear = λ f. emptied;
    }

  turned_of : (x : Bool) → is_epoch q.budget_epoch e ≡ x → Turned S now e (renew t (selection_parts q) now e)
  unfolding renew choose selection_parts
  turned_of true h = rw h (turned_still h)
  turned_of false h =
      let A = drains queued now 0 (omega arith) (length t) q t S (count_most (length t) (spent S.place)) in
      let B = drains queued now 1 (omega arith) A.trees.moves A.queue A.table A.renewed.sound
      A.enough in
      let C = drains queued now 2 (omega arith) B.trees.moves B.queue B.table B.renewed.sound
      B.enough in
      turned_by A B C h

  -- A change of period on a sound queue.
  pub turned : Turned S now e (renew t (selection_parts q) now e)
  turned = turned_of (is_epoch q.budget_epoch e) refl
