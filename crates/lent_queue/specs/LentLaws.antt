-- What a read gives of the lent queue, and what a store of one row leaves of it.
use Rattle.std.specs.Prelude.{ℕ, zero, suc, ◌+◌, ◌<◌, ◌≤◌, ◌≡◌, refl, Bool, length, get_or, set, take, drop, replicate}
use Rattle.std.specs.Prelude.{Option, Result, Ok, Err}
use Rattle.std.proofs.Common.{arith, ◌∙◌, get_or-take}
use Rattle.std.proofs.Math.Path.{sym, ap}
use mathlib.Core.List.{List, [], ◌∷◌, map}
use Rattle.std.proofs.Math.ListN.{get_or-map}
use Rattle.std.proofs.Math.Seq.{get_or-set_same, get_or-set_other, get_or-drop, take-set-le, take-set-lt, drop-set-lt}
use Rattle.std.proofs.Math.Seq.{drop-set-add}
use Rattle.refusal.specs.Answer.{number_of, by_number}
use Rattle.refusal.specs.declared.Refusal.{Refusal}
use Rattle.refusal.specs.Cases.{choose, if_equal}
use Rattle.thread.specs.declared.CpuIndex.{CpuIndex}
use Rattle.thread.specs.declared.ThreadRecord.{ThreadRecord}
use Rattle.rows.specs.Table.{Out}
use Rattle.thread.specs.declared.ThreadQueue.{ThreadQueue}
use Rattle.thread.specs.Membership.{empty_queue}
use Rattle.codec.specs.Codec.{word, link_from, epoch_from}
use Rattle.queue.specs.declared.Root.{Root}
use Rattle.queue.specs.RunQueue.{CpuRunQueue}
use Rattle.queue_work.specs.declared.Parts.{Parts}
use Rattle.queue.specs.declared.Filed.{Filed}
use Rattle.queue.specs.declared.Plan.{Plan}
use Rattle.queue.specs.Queue.{Step, empty_root, root_of, marked, stored, new_queue, fair_len, enqueue_call, remove_call}
use Rattle.queue.specs.Plan.{judgement, insertion_plan, insert_by, remove_filed}
use Rattle.queue.specs.PlanLaws.{kept, enqueue_planned, enqueue_refused, remove_judged, remove_refused}
use Rattle.lent_queue.specs.LentQueue.{queue_rows, priorities, tree_count, fair_row, root_rows, marks_row, head_tag}
use Rattle.lent_queue.specs.LentQueue.{head_word, tail_tag, tail_word, len_word, total_word, budgets_word, epoch_tag}
use Rattle.lent_queue.specs.LentQueue.{epoch_word, mark_word, list_from, root_from, halted_from, queue_of}
use Rattle.lent_queue.specs.LentQueue.{with_realtime, with_fair, with_root, with_counts, with_marks}

pub map_set : {A B : Type 0} (f : A → B) (l : List A) (i : ℕ) (a : A) → map f (set l i a) ≡ set (map f l) i (f a)
map_set f [] i a = refl
map_set f (x ∷ l) zero a = refl
map_set {A} {B} f (x ∷ l) (suc i) a = ap {B = List B} (λ r. f x ∷ r) (map_set f l i a)

module _ (rows : List (List ℕ)) where
  -- A priority's list is its row.
  pub list_read : (p : ℕ) → p < priorities
      → list_from (get_or rows p []) ≡ get_or (queue_of rows).realtime p empty_queue
  unfolding queue_of list_from link_from if_equal choose
  list_read p h =
      sym (get_or-map list_from (take priorities rows) p [] ∙ ap list_from (get_or-take priorities rows p [] h))

  -- A tree's root is its row.
  pub root_read : (k : ℕ) → k < tree_count
      → root_from (get_or rows (root_rows + k) []) ≡ get_or (queue_of rows).indices k empty_root
  unfolding queue_of root_from link_from if_equal choose
  root_read k h = sym (get_or-map root_from (take tree_count (drop root_rows rows)) k []
      ∙ ap root_from (get_or-take tree_count (drop root_rows rows) k [] h ∙ get_or-drop root_rows rows k []))

  pub real_time_stored : (p : ℕ) (w : List ℕ) {l : ThreadQueue} → list_from w ≡ l → p < priorities
      → queue_of (set rows p w) ≡ with_realtime (queue_of rows) p l
  unfolding queue_of with_realtime
  real_time_stored p w e h =
      rw (
        take-set-lt priorities rows p w h,
        map_set list_from (take priorities rows) p w,
        get_or-set_other rows p marks_row w [] (λ e. omega arith),
        get_or-set_other rows p fair_row w [] (λ e. omega arith),
        drop-set-lt root_rows rows p w (omega arith),
        e,
      )

  pub fair_stored : {x : List (List ℕ)} (w : List ℕ) {l : ThreadQueue} → x ≡ set rows fair_row w → list_from w ≡ l
      → length rows ≡ queue_rows → queue_of x ≡ with_fair (queue_of rows) l
  unfolding queue_of with_fair
  fair_stored w s e h =
      rw (
        s,
        take-set-le priorities rows fair_row w (omega arith),
        get_or-set_same rows fair_row w [] (omega arith),
        get_or-set_other rows fair_row marks_row w [] (λ e. omega arith),
        drop-set-lt root_rows rows fair_row w (omega arith),
        e,
      )

  pub root_stored : (k : ℕ) (w : List ℕ) {root : Option ℕ} → link_from (word w head_tag) (word w head_word) ≡ root
      → k < tree_count → queue_of (set rows (root_rows + k) w) ≡ with_root (queue_of rows) k root
  unfolding queue_of with_root root_from
  root_stored k w {root} e h =
      rw (
        take-set-le priorities rows (root_rows + k) w (omega arith),
        get_or-set_other rows (root_rows + k) marks_row w [] (λ e. omega arith),
        get_or-set_other rows (root_rows + k) fair_row w [] (λ e. omega arith),
        drop-set-add root_rows rows k w,
        take-set-lt tree_count (drop root_rows rows) k w h,
        map_set root_from (take tree_count (drop root_rows rows)) k w,
        stored,
      )
    where
      stored : root_from w ≡ record { root = root }
      stored = ap (λ (l : Option ℕ). record { root = l }) e

  pub marks_stored : {x : List (List ℕ)} (w : List ℕ) → x ≡ set rows marks_row w → length rows ≡ queue_rows
      → queue_of x ≡ with_marks (queue_of rows) w
  unfolding queue_of with_marks
  marks_stored w s h =
      rw (
        s,
        take-set-le priorities rows marks_row w (omega arith),
        get_or-set_same rows marks_row w [] (omega arith),
        get_or-set_other rows marks_row fair_row w [] (λ e. omega arith),
        drop-set-add root_rows rows tree_count w,
        take-set-le tree_count (drop root_rows rows) tree_count w (omega arith),
      )

  -- The row of counts, epoch and mark as it was but for the counts, or for the mark.
  module _ {q : CpuRunQueue} (w : List ℕ) (s : q ≡ with_marks (queue_of rows) w) where
    pub counts_stored : {a b : ℕ} → word w total_word ≡ a → word w budgets_word ≡ b
        → word w epoch_tag ≡ word (get_or rows marks_row []) epoch_tag
        → word w epoch_word ≡ word (get_or rows marks_row []) epoch_word
        → word w mark_word ≡ word (get_or rows marks_row []) mark_word → q ≡ with_counts (queue_of rows) a b
    unfolding queue_of with_counts with_marks
    counts_stored total budgets tag number mark = s ∙ rw (total, budgets, tag, number, mark)

    pub mark_stored : word w total_word ≡ word (get_or rows marks_row []) total_word
        → word w budgets_word ≡ word (get_or rows marks_row []) budgets_word
        → word w epoch_tag ≡ word (get_or rows marks_row []) epoch_tag
        → word w epoch_word ≡ word (get_or rows marks_row []) epoch_word → word w mark_word ≡ 1
        → q ≡ marked (queue_of rows)
    unfolding queue_of with_marks halted_from if_equal choose
    mark_stored total budgets tag number mark = s ∙ rw (total, budgets, tag, number, mark)

  pub root_of_row : (k : ℕ) {r : Option ℕ}
      → r ≡ link_from (word (get_or rows (root_rows + k) []) head_tag) (word (get_or rows (root_rows + k) []) head_word)
      → k < tree_count → r ≡ root_of (queue_of rows) k
  unfolding root_from
  root_of_row k e h = e ∙ ap (λ (x : Root). x.root) (root_read k h)

  pub list_of_row : (p : ℕ) {r : ThreadQueue} → r ≡ list_from (get_or rows p []) → p < priorities
      → r ≡ get_or (queue_of rows).realtime p empty_queue
  list_of_row p e h = e ∙ list_read p h

-- The fair list's length, of the list as it was read.
pub fair_length_lem : {n : ℕ} {l : ThreadQueue} (q : CpuRunQueue) → l ≡ q.fair → n ≡ l.len → n ≡ fair_len q
fair_length_lem q e h = h ∙ ap (λ (l : ThreadQueue). l.len) e

pub list_words_lem : (w : List ℕ) {l : ThreadQueue} → link_from (word w head_tag) (word w head_word) ≡ l.head
    → link_from (word w tail_tag) (word w tail_word) ≡ l.tail → word w len_word ≡ l.len → list_from w ≡ l
unfolding list_from
list_words_lem w head tail len = rw (head, tail, len)

-- The links that a row's words stand for and its length are the row's list.
pub list_made : (w : List ℕ) {head tail : Option ℕ} → head ≡ link_from (word w head_tag) (word w head_word)
    → tail ≡ link_from (word w tail_tag) (word w tail_word)
    → record { head = head; tail = tail; len = word w len_word } ≡ list_from w
list_made w head tail = sym (list_words_lem w (sym head) (sym tail) refl)

-- The list, the root and the counts stored in this order are the parts stored.
module _ (x : CpuRunQueue) (k : ℕ) (p : Parts) {x₁ x₂ x₃ : CpuRunQueue} where
  pub real_time_parts : (n : ℕ) → x₁ ≡ with_realtime x n p.list → x₂ ≡ with_root x₁ k p.root
      → x₃ ≡ with_counts x₂ p.realtime_len p.budget_threads
      → x₃ ≡ stored x k p (set x.realtime n p.list) x.fair
  unfolding with_realtime with_root with_counts
  real_time_parts n list root counts = counts ∙ rw root (rw list)

  pub fair_parts : x₁ ≡ with_fair x p.list → x₂ ≡ with_root x₁ k p.root
      → x₃ ≡ with_counts x₂ p.realtime_len p.budget_threads
      → x₃ ≡ stored x k p x.realtime p.list
  unfolding with_fair with_root with_counts
  fair_parts list root counts = counts ∙ rw root (rw list)

-- The mark is read before the plan is made.
module _ {y : Out (Step (Unit {0}))} (t : List ThreadRecord) (q : CpuRunQueue) (id : ℕ) (c : CpuIndex) {h : Bool} where
  pub enqueue_planned_by : (front : Bool) {r : Result Plan Refusal} {p : Plan} → h ≡ q.halted
      → by_number r ≡ insertion_plan t h id c → r ≡ Ok p → y ≡ insert_by front t q id p
      → y ≡ enqueue_call front t q id c
  enqueue_planned_by front m e = enqueue_planned t q id c front (e ∙ ap (λ h. insertion_plan t h id c) m)

  pub enqueue_refused_by : (front : Bool) {r : Result Plan Refusal} {n : Refusal} → h ≡ q.halted
      → by_number r ≡ insertion_plan t h id c → r ≡ Err n → y ≡ kept t q (number_of n)
      → y ≡ enqueue_call front t q id c
  enqueue_refused_by front m e = enqueue_refused t q id c front (e ∙ ap (λ h. insertion_plan t h id c) m)

  pub remove_judged_by : {r : Result Filed Refusal} {f : Filed} → h ≡ q.halted → by_number r ≡ judgement t h id
      → r ≡ Ok f → y ≡ remove_filed t q id c f → y ≡ remove_call t q id c
  remove_judged_by m e = remove_judged t q id c (e ∙ ap (λ h. judgement t h id) m)

  pub remove_refused_by : {r : Result Filed Refusal} {n : Refusal} → h ≡ q.halted → by_number r ≡ judgement t h id
      → r ≡ Err n → y ≡ kept t q (number_of n) → y ≡ remove_call t q id c
  remove_refused_by m e = remove_refused t q id c (e ∙ ap (λ h. judgement t h id) m)

pub new_rows : queue_of (replicate queue_rows (replicate 5 0)) ≡ new_queue
unfolding queue_of list_from root_from halted_from link_from epoch_from if_equal choose
new_rows = refl

pub ruleset stores = (
  real_time_stored,
  fair_stored,
  root_stored,
  marks_stored,
  counts_stored,
  mark_stored,
  root_of_row,
  list_of_row,
  fair_length_lem,
  list_words_lem,
)

pub ruleset lending =
    (real_time_parts, fair_parts, enqueue_planned_by, enqueue_refused_by, remove_judged_by, remove_refused_by)
