-- Laws by which the functions meet the definitions, and that selection as they take it is `peek_next`.
use Rattle.std.specs.Prelude.{ℕ, zero, suc, ◌+◌, ◌-◌, ◌/◌, ◌<◌, ◌≤◌, min, ◌≡◌, Bool, ltb, length, get_or, set, take}
use Rattle.std.specs.Prelude.{Option, Some, Result, Ok, Err}
use Rattle.std.specs.Prelude.{drop}
use Rattle.std.proofs.Common.{arith, subst, ◌∙◌, length-take, length-drop, take-take, take_at, drop_at, get_or-take}
use Rattle.std.proofs.Common.{get_or-drop, get_or-append-add}
use Rattle.std.proofs.Math.Path.{refl, sym, ap}
use Rattle.std.proofs.Math.Bool.{true, false}
use mathlib.Core.List.{List, [], ◌∷◌, ◌++◌}
use Rattle.std.proofs.lemmas.List.{take-append-le}
use borrow.Author.Tests.{eq-eqb, ne_eqb}
use Rattle.refusal.specs.Answer.{Answer, value, refused, number_of, bad_config, queue_halted, bad_table, by_number}
use Rattle.refusal.specs.declared.Refusal.{Refusal}
use Rattle.refusal.specs.Cases.{choose, given, if_less, if_equal}
use Rattle.queue.specs.declared.Root.{Root}
use Rattle.queue.specs.RunQueue.{CpuRunQueue, tree_count}
use Rattle.lent_queue.specs.LentQueue.{queue_rows, priorities, tree_count, fair_row, root_rows, marks_row, total_word}
use Rattle.lent_queue.specs.LentQueue.{budgets_word, epoch_tag, epoch_word, mark_word, halted_from, queue_of}
use Rattle.lent_queue.specs.LentQueue.{with_marks}
use Rattle.lent_queue.specs.Frame.{ListFramed, RootFramed, MarksFramed, QueueFramed, RootsFramed}
use Rattle.lent_queue.specs.FrameLaws.{list_as_it_was, marks_as_they_were}
use Rattle.codec.specs.Codec.{word, epoch_from}
use Rattle.arbitration.specs.declared.CpuWindow.{CpuWindow}
use Rattle.window_config.specs.Config.{sound_config}
use Rattle.thread.specs.declared.CpuIndex.{CpuIndex}
use Rattle.thread.specs.declared.ThreadRecord.{ThreadRecord}
use Rattle.rows.specs.Table.{Out, out}
use Rattle.lists.specs.Lists.{on_answer, on_out}
use Rattle.queue.specs.Queue.{max_records}
use Rattle.queue.specs.PlanLaws.{too_many, not_too_many}
use Rattle.selection.specs.declared.Selection.{Selection}
use Rattle.renewal.specs.Parts.{SelectionParts}
use Rattle.renewal.specs.Leaves.{Leaves, leaves, on_leaves}
use Rattle.demands.specs.Demands.{of_current}
use Rattle.selection.specs.Heads.{no_heads, gather_heads}
use Rattle.renewal.specs.Renewal.{renew_roles, is_epoch, is_halt, renew}
use Rattle.renewal.specs.RootRows.{roots_of}
use Rattle.selection.specs.Peek.{Peeked, peeked, chosen, peek_running, peek_parts, peek_next, selection_parts}
use Rattle.selection.specs.Peek.{with_selection_parts, restored}
use Rattle.selection.specs.Steps.{Looked, looked, looked_at}
use Rattle.selection.specs.PeekLaws.{beside_parts, heads_apart}
use Rattle.lent_selection.specs.LentParts.{with_indices, with_epoch, with_mark, renewed_roots, renewed_queue}
use Rattle.lent_selection.specs.LentParts.{beside_queue, running_queue, peek_queue}
use Rattle.arbitration.specs.declared.Candidate.{Candidate}

-- The rows of the roots put back: the other rows are as they were.
module _ (rows part : List (List ℕ)) (size : length rows ≡ queue_rows) (of_part : length part ≡ tree_count) where
  abbrev front : List (List ℕ)
  front = take root_rows rows

  abbrev rear : List (List ℕ)
  rear = drop tree_count (drop root_rows rows)

  abbrev put : List (List ℕ)
  put = front ++ (part ++ rear)

  front_size : length front ≡ root_rows
  front_size = length-take root_rows rows ∙ (let least : min root_rows (length rows) ≡ root_rows = omega arith in least)

  lists_kept : take priorities put ≡ take priorities rows
  lists_kept =
      take-append-le priorities front (part ++ rear) (let s : length front ≡ root_rows = front_size in omega arith)
      ∙ take-take priorities root_rows rows (omega arith)

  list_kept : (p : ℕ) → p < root_rows → get_or put p [] ≡ get_or rows p []
  list_kept p h =
      sym (get_or-take root_rows put p [] h)
      ∙ ap (λ l. get_or l p []) (take_at front (part ++ rear) root_rows front_size)
      ∙ get_or-take root_rows rows p [] h

  fair_kept : get_or put fair_row [] ≡ get_or rows fair_row []
  fair_kept = list_kept fair_row (omega arith)

  roots_put : take tree_count (drop root_rows put) ≡ part
  roots_put =
      ap (take tree_count) (drop_at front (part ++ rear) root_rows front_size) ∙ take_at part rear tree_count of_part

  marks_kept : get_or put marks_row [] ≡ get_or rows marks_row []
  marks_kept =
      ap (λ n. get_or put n []) (let s : length front ≡ root_rows = front_size in
      let p : marks_row ≡ length front + (length part + 0) = omega arith in p)
      ∙ get_or-append-add front (part ++ rear) (length part + 0) []
      ∙ get_or-append-add part rear 0 []
      ∙ get_or-drop tree_count (drop root_rows rows) 0 []
      ∙ get_or-drop root_rows rows tree_count []

  root_put : (k : ℕ) → k < tree_count → get_or put (root_rows + k) [] ≡ get_or part k []
  root_put k h =
      sym (get_or-take tree_count (drop root_rows put) k [] h ∙ get_or-drop root_rows put k [])
      ∙ ap (λ l. get_or l k []) roots_put

  pub queue_framed : RootsFramed (take tree_count (drop root_rows rows)) part → QueueFramed rows put
  queue_framed f =
      record {
        list = λ p h. subst (ListFramed (get_or rows p [])) (sym (list_kept p h)) (list_as_it_was (get_or rows p []));
        root = λ k h. subst (λ w. RootFramed w (get_or put (root_rows + k) []))
            (get_or-take tree_count (drop root_rows rows) k [] h ∙ get_or-drop root_rows rows k [])
            (subst (RootFramed (get_or (take tree_count (drop root_rows rows)) k [])) (sym (root_put k h)) (f.root k));
        marks = subst (MarksFramed (get_or rows marks_row [])) (sym marks_kept)
            (marks_as_they_were (get_or rows marks_row []));
      }

  pub roots_stored : queue_of put ≡ with_indices (queue_of rows) (roots_of part)
  unfolding queue_of with_indices roots_of
  roots_stored = rw (lists_kept, fair_kept, roots_put, marks_kept)

pub part_size : (rows : List (List ℕ)) → length rows ≡ queue_rows
    → length (take tree_count (drop root_rows rows)) ≡ tree_count
part_size rows h =
    length-take tree_count (drop root_rows rows)
    ∙ ap (min tree_count) (length-drop root_rows rows ∙ ap (λ n. n - root_rows) h)

pub roots_framed : (rows part : List (List ℕ)) → length rows ≡ queue_rows
    → RootsFramed (take tree_count (drop root_rows rows)) part
    → QueueFramed rows (take root_rows rows ++ (part ++ drop tree_count (drop root_rows rows)))
roots_framed rows part h f = queue_framed rows part h (f.count ∙ part_size rows h) f

pub roots_renewed : {a : Answer (Unit {0})} {t₁ : List ThreadRecord} (t : List ThreadRecord) (rows part : List (List ℕ))
    (now : ℕ) → length rows ≡ queue_rows → length part ≡ length (take tree_count (drop root_rows rows))
    → out (leaves a (roots_of part)) t₁ ≡ renew_roles 3 (length t) t
    (roots_of (take tree_count (drop root_rows rows))) now
    → out (leaves a (queue_of (take root_rows rows ++ (part ++ drop tree_count (drop root_rows rows))))) t₁
    ≡ renewed_roots t (queue_of rows) now
unfolding renewed_roots queue_of roots_of on_out on_leaves
roots_renewed {a} {t₁} t rows part now h k s = rw (sym s, roots_stored rows part h (k ∙ part_size rows h)) (go a)
  where
    go : (a : Answer (Unit {0}))
        → out (leaves a (with_indices (queue_of rows) (roots_of part))) t₁
        ≡ on_leaves (leaves a (roots_of part))
        (λ n roots. out (leaves (refused n) (with_indices (queue_of rows) roots)) t₁)
        (λ u roots. out (leaves (value tt) (with_indices (queue_of rows) roots)) t₁)
    go (value u) = refl
    go (refused n) = refl

-- The row of counts, epoch and mark as it was but for the epoch, or for the mark.
module _ {q : CpuRunQueue} (rows : List (List ℕ)) (w : List ℕ) (s : q ≡ with_marks (queue_of rows) w) where
  pub epoch_stored : (e : ℕ) → word w total_word ≡ word (get_or rows marks_row []) total_word
      → word w budgets_word ≡ word (get_or rows marks_row []) budgets_word → word w epoch_tag ≡ 1
      → word w epoch_word ≡ e
      → word w mark_word ≡ word (get_or rows marks_row []) mark_word → q ≡ with_epoch (queue_of rows) e
  unfolding queue_of with_marks with_epoch epoch_from if_equal choose
  epoch_stored e total budgets tag when mark = s ∙ rw (total, budgets, tag, when, mark)

  pub mark_left : (n : ℕ) {r : ℕ} → r ≡ n → r ≡ queue_halted
      → word w total_word ≡ word (get_or rows marks_row []) total_word
      → word w budgets_word ≡ word (get_or rows marks_row []) budgets_word
      → word w epoch_tag ≡ word (get_or rows marks_row []) epoch_tag
      → word w epoch_word ≡ word (get_or rows marks_row []) epoch_word → word w mark_word ≡ 1
      → q ≡ with_mark (queue_of rows) n
  unfolding queue_of with_marks with_mark is_halt halted_from if_equal choose
  mark_left n {r} e m total budgets tag when mark = s ∙ rw
      (total, budgets, tag, when, mark, eq-eqb n queue_halted (sym e ∙ m))

pub no_mark_left : (rows : List (List ℕ)) (n : ℕ) {r : ℕ} → r ≡ n → (r ≡ queue_halted → ⊥)
    → queue_of rows ≡ with_mark (queue_of rows) n
unfolding with_mark is_halt choose
no_mark_left rows n {r} e m = rw (ne_eqb n queue_halted (λ z. m (e ∙ z)))

-- A queue with its own parts stored is as it was.
same_parts : (q : CpuRunQueue) → with_selection_parts q (selection_parts q) ≡ q
unfolding with_selection_parts selection_parts
same_parts q = refl

module _ (t : List ThreadRecord) (q : CpuRunQueue) (now e : ℕ) where
  pub renewed_already : {r : Bool} {last : Option ℕ} → last ≡ q.budget_epoch → r ≡ is_epoch last e → r ≡ true
      → out (leaves (value tt) q) t ≡ renewed_queue t q now e
  unfolding renewed_queue renew selection_parts choose on_out on_leaves
  renewed_already last test same =
      let now_same : is_epoch q.budget_epoch e ≡ true = ap (λ x. is_epoch x e) (sym last) ∙ sym test ∙ same in
      rw now_same (ap (λ x. out (leaves (value tt) x) t) (sym (same_parts q)))

  apart : renewed_queue t q now e
      ≡ choose (is_epoch q.budget_epoch e) (out (leaves (value tt) q) t)
      (on_out (renewed_roots t q now)
      (λ s t₁. on_leaves s
      (λ n q₁. out (leaves (refused n) (with_mark q₁ n)) t₁)
      (λ u q₁. out (leaves (value tt) (with_epoch q₁ e)) t₁)))
  unfolding renewed_queue renewed_roots renew selection_parts with_selection_parts with_indices with_mark with_epoch
      choose
      on_out on_leaves
  apart = go (is_epoch q.budget_epoch e) (renew_roles 3 (length t) t q.indices now)
    where
      go : (same : Bool) (x : Out (Leaves (Unit {0}) (List Root)))
          → on_out (choose same (out (leaves (value (tt {0})) (selection_parts q)) t)
          (on_out x
          (λ s t₁. on_leaves s
          (λ n roots. out (leaves (refused n)
          (record {
            indices = roots;
            budget_epoch = q.budget_epoch;
            halted = choose (is_halt n) true q.halted;
          })) t₁)
          (λ u roots. out (leaves (value (tt {0}))
          (record { indices = roots; budget_epoch = Some e; halted = q.halted })) t₁))))
          (λ s t₁. on_leaves s
          (λ n p. out (leaves (refused n) (with_selection_parts q p)) t₁)
          (λ u p. out (leaves (value (tt {0})) (with_selection_parts q p)) t₁))
          ≡ choose same (out (leaves (value (tt {0})) q) t)
          (on_out (on_out {B = Out (Leaves (Unit {0}) CpuRunQueue)} x
          (λ s t₁. on_leaves s
          (λ n roots. out (leaves (refused n) (with_indices q roots)) t₁)
          (λ u roots. out (leaves (value (tt {0})) (with_indices q roots)) t₁)))
          (λ s t₁. on_leaves s
          (λ n q₁. out (leaves (refused n) (with_mark q₁ n)) t₁)
          (λ u q₁. out (leaves (value (tt {0})) (with_epoch q₁ e)) t₁)))
      go true x = refl
      go false (out (leaves (value u) roots) t₁) = refl
      go false (out (leaves (refused n) roots) t₁) = refl

  changes : {r : Bool} {last : Option ℕ} → last ≡ q.budget_epoch → r ≡ is_epoch last e → r ≡ false
      → is_epoch q.budget_epoch e ≡ false
  changes a b c = ap (λ x. is_epoch x e) (sym a) ∙ sym b ∙ c

  module _ {r : Bool} {last : Option ℕ} {v : Result (Unit {0}) Refusal} {q₁ q₂ : CpuRunQueue} {t₁ : List ThreadRecord}
    where
      pub renewed_made : last ≡ q.budget_epoch → r ≡ is_epoch last e → r ≡ false
          → out (leaves (by_number v) q₁) t₁ ≡ renewed_roots t q now → v ≡ (Ok tt)
          → q₂ ≡ with_epoch q₁ e → out (leaves (value tt) q₂) t₁ ≡ renewed_queue t q now e
      unfolding choose on_out on_leaves
      renewed_made a b c s m f = rw (apart, changes a b c, sym s, m, f)

      pub renewed_refused : {n : Refusal} → last ≡ q.budget_epoch → r ≡ is_epoch last e → r ≡ false
          → out (leaves (by_number v) q₁) t₁ ≡ renewed_roots t q now → v ≡ Err n
          → q₂ ≡ with_mark q₁ (number_of n) → out (leaves (refused (number_of n)) q₂) t₁ ≡ renewed_queue t q now e
      unfolding choose on_out on_leaves
      renewed_refused a b c s m f = rw (apart, changes a b c, sym s, m, f)

pub ruleset renewals =
    (roots_renewed, epoch_stored, mark_left, no_mark_left, renewed_already, renewed_made, renewed_refused)

-- The heads beside the queue that the change of period left.
module _ (t : List ThreadRecord) (q : CpuRunQueue) (c : CpuIndex) (now : ℕ) (w : CpuWindow)
    (current : Option Candidate) where
  pub queue_looked : {a : Answer Selection} {w₁ : CpuWindow} {t₁ : List ThreadRecord}
      → out (looked a w₁) t₁ ≡ looked_at t q.indices c now w current
      → out (peeked a w₁ q) t₁ ≡ on_out (looked_at t q.indices c now w current) (λ x t₂. out (beside_queue q x) t₂)
  unfolding on_out
  queue_looked e = rw (sym e)

  looked_restored : (p : SelectionParts) (y : Out Looked)
      → on_out (on_out y (λ x t₂. out (beside_parts p x) t₂)) (λ x t₁. out (restored q x) t₁)
      ≡ on_out y (λ x t₂. out (beside_queue (with_selection_parts q p) x) t₂)
  unfolding on_out restored
  looked_restored p (out (looked a w₁) t₁) = refl

  running_apart : on_out (peek_running t (selection_parts q) c now w current) (λ x t₁. out (restored q x) t₁)
      ≡ running_queue t q c now w current
  unfolding peek_running running_queue renewed_queue given on_out on_leaves restored with_selection_parts
  running_apart = go (renew t (selection_parts q) now (now / w.config.period_ns))
    where
      heads : (p : SelectionParts) (t₁ : List ThreadRecord)
          → on_out (on_out (gather_heads tree_count t₁ p.indices c now no_heads (of_current current))
          (λ a t₂. on_answer a (λ n. out (peeked (refused n) w p) t₂) (λ h. chosen t₂ p now w h)))
          (λ x t₂. out (restored q x) t₂)
          ≡ on_out (looked_at t₁ p.indices c now w current) (λ x t₂. out (beside_queue (with_selection_parts q p) x) t₂)
      heads p t₁ =
          ap (λ y. on_out y (λ x t₂. out (restored q x) t₂)) (heads_apart t₁ p c now w current)
          ∙ looked_restored p (looked_at t₁ p.indices c now w current)

      go : (x : Out (Leaves (Unit {0}) SelectionParts))
          → on_out (on_out x
          (λ s t₁. on_leaves s
          (λ n p₁. out (peeked (refused n) w p₁) t₁)
          (λ u p₁. on_out (gather_heads tree_count t₁ p₁.indices c now no_heads (of_current current))
          (λ a t₂. on_answer a (λ n. out (peeked (refused n) w p₁) t₂) (λ h. chosen t₂ p₁ now w h)))))
          (λ x t₁. out (restored q x) t₁)
          ≡ on_out (on_out {B = Out (Leaves (Unit {0}) CpuRunQueue)} x
          (λ s t₁. on_leaves s
          (λ n p. out (leaves (refused n) (with_selection_parts q p)) t₁)
          (λ u p. out (leaves (value tt) (with_selection_parts q p)) t₁)))
          (λ s t₁. on_leaves s
          (λ n q₁. out (peeked (refused n) w q₁) t₁)
          (λ u q₁. on_out (looked_at t₁ q₁.indices c now w current) (λ x t₂. out (beside_queue q₁ x) t₂)))
      go (out (leaves (refused n) p) t₁) = refl
      go (out (leaves (value u) p) t₁) = heads p t₁

  -- Selection on the parts of a queue, put back, is selection as the lent shell takes it.
  peek_apart : peek_next t q c now w current ≡ peek_queue t q c now w current
  unfolding peek_next peek_parts peek_queue if_less choose on_out restored selection_parts
  peek_apart = go (ltb max_records (length t)) (sound_config w.config) q.halted (same_parts q)
    where
      go : (large sound halted : Bool) → with_selection_parts q (selection_parts q) ≡ q
          → on_out (choose large (out (peeked (refused bad_table) w (selection_parts q)) t)
          (choose sound
          (choose halted (out (peeked (refused queue_halted) w (selection_parts q)) t)
          (peek_running t (selection_parts q) c now w current))
          (out (peeked (refused bad_config) w (selection_parts q)) t)))
          (λ x t₁. out (restored q x) t₁)
          ≡ choose large (out (peeked (refused bad_table) w q) t)
          (choose sound (choose halted (out (peeked (refused queue_halted) w q) t) (running_queue t q c now w current))
          (out (peeked (refused bad_config) w q) t))
      go true sound halted e = ap (λ q. out (peeked (refused bad_table) w q) t) e
      go false false halted e = ap (λ q. out (peeked (refused bad_config) w q) t) e
      go false true true e = ap (λ q. out (peeked (refused queue_halted) w q) t) e
      go false true false e = running_apart

  pub peeked_so : {y : Out (Peeked CpuRunQueue)} → y ≡ peek_queue t q c now w current
      → y ≡ peek_next t q c now w current
  peeked_so h = h ∙ sym peek_apart

-- The rows of the roots are those of the queue.
pub roots_looked : {y : Out Looked} (t : List ThreadRecord) (rows : List (List ℕ)) (c : CpuIndex) (now : ℕ)
    (w : CpuWindow) (current : Option Candidate)
    → y ≡ looked_at t (roots_of (take tree_count (drop root_rows rows))) c now w current
    → y ≡ looked_at t (queue_of rows).indices c now w current
unfolding queue_of roots_of
roots_looked t rows c now w current h = h

pub ruleset peeks = (queue_looked, roots_looked, too_many, not_too_many)
