-- Laws by which a value stored to rows, and read from them, is the same queue; and a call on the rows is the call on
-- the value.
use Rattle.std.specs.Prelude.{ℕ, zero, suc, ◌+◌, ◌<◌, ◌≤◌, min, ◌≡◌, Bool, true, false, List, [], ◌∷◌, ◌++◌, map}
use Rattle.std.specs.Prelude.{Option, None}
use Rattle.std.specs.Prelude.{length, get_or, set, take, drop, replicate}
use Rattle.std.proofs.Common.{arith, sym, ap, ◌∙◌, append-nil, length-take, drop_of_length-le, take_all, take_at}
use Rattle.std.proofs.Common.{drop-drop, get_or-drop, get_or-append-add}
use Rattle.std.proofs.Math.Path.{refl, subst}
use Rattle.std.specs.Array.{IsFromFnResultFrom}
use denote.Param.Members.{Mut, Called}
use Rattle.std.proofs.lemmas.List.{length-map}
use Rattle.std.proofs.Math.ListN.{get_or-map}
use Rattle.std.proofs.Math.Seq.{drop-append-add}
use Rattle.refusal.specs.Answer.{Answer}
use Rattle.refusal.specs.Cases.{choose, if_equal}
use Rattle.arbitration.specs.declared.CpuWindow.{CpuWindow}
use Rattle.thread.specs.declared.CpuIndex.{CpuIndex}
use Rattle.thread.specs.declared.ThreadQueue.{ThreadQueue}
use Rattle.thread.specs.declared.ThreadRecord.{ThreadRecord}
use Rattle.thread.specs.Membership.{empty_queue}
use Rattle.rows.specs.Table.{out}
use Rattle.queue.specs.declared.Root.{Root}
use Rattle.queue.specs.RunQueue.{CpuRunQueue}
use Rattle.queue.specs.Queue.{step, empty_root, new_queue, enqueue_call, remove_call}
use Rattle.codec.specs.Codec.{link_from}
use Rattle.lent_queue.specs.LentQueue.{queue_rows, priorities, tree_count, root_rows, list_from, halted_from, queue_of}
use Rattle.lent_queue.specs.LentQueue.{with_fair, with_marks}
use Rattle.lent_queue.specs.LentLaws.{map_set}
use Rattle.selection.specs.declared.Selection.{Selection}
use Rattle.renewal.specs.Renewal.{root_at}
use Rattle.renewal.specs.RootRows.{roots_of, roots_length}
use Rattle.selection.specs.Peek.{peeked, peek_next}
use Rattle.lent_selection.specs.LentParts.{with_indices}
use Rattle.lent_selection.specs.LentLaws.{roots_stored, part_size}
use Rattle.run_queue.specs.Value.{lists_of, with_lists, MarksAre}
use Rattle.arbitration.specs.declared.Candidate.{Candidate}

-- The first so many of one list over those of another.
unfoldable pub overlaid : {A : Type 0} → ℕ → List A → List A → List A
overlaid k new old = take k new ++ drop k old

over_next : {A : Type 0} (k : ℕ) (new old : List A) (d : A) → k < length new → k < length old
    → set (overlaid k new old) k (get_or new k d) ≡ overlaid (suc k) new old
unfolding overlaid
over_next k [] old d h g = absurd (omega arith)
over_next k (x ∷ new) [] d h g = absurd (omega arith)
over_next zero (x ∷ new) (y ∷ old) d h g = refl
over_next {A} (suc k) (x ∷ new) (y ∷ old) d h g =
    ap {B = List A} (λ r. x ∷ r) (over_next k new old d (omega arith) (omega arith))

over_all : {A : Type 0} (k : ℕ) (new old : List A) → length new ≤ k → length old ≤ k → overlaid k new old ≡ new
unfolding overlaid
over_all k new old h g =
    ap (λ z. take k new ++ z) (drop_of_length-le old g) ∙ append-nil (take k new) ∙ take_all k new h

-- A list laid over another of the same length, one after the other.
module _ {A : Type 0} (new old : List A) where
  pub over_none : old ≡ overlaid 0 new old
  unfolding overlaid
  over_none = refl

  over_one : {x y : List A} {a : A} (n k : ℕ) (d : A) → x ≡ overlaid k new old → a ≡ get_or new k d → y ≡ set x k a
      → k < n
      → length new ≡ n → length old ≡ n → y ≡ overlaid (k + 1) new old
  over_one n k d e f s b h g =
      let one : suc k ≡ k + 1 = omega arith in
      s ∙ rw (e, f) (over_next k new old d (omega arith) (omega arith)) ∙ ap (λ n. overlaid n new old) one

  pub over_whole : {x : List A} (n k : ℕ) → x ≡ overlaid k new old → n ≤ k → length new ≡ n → length old ≡ n → x ≡ new
  over_whole n k e b h g = e ∙ over_all k new old (omega arith) (omega arith)

pub list_copied : {x y : List ThreadQueue} {l : ThreadQueue} (new old : List ThreadQueue) (k : ℕ)
    → x ≡ overlaid k new old
    → l ≡ get_or new k empty_queue → y ≡ set x k l → k < priorities → length new ≡ priorities → length old ≡ priorities
    → y ≡ overlaid (k + 1) new old
list_copied new old k = over_one new old priorities k empty_queue

pub root_copied : {x y : List Root} {r : Option ℕ} (new old : List Root) (k : ℕ) → x ≡ overlaid k new old
    → r ≡ root_at new k → y ≡ set x k (record { root = r }) → k < tree_count → length new ≡ tree_count
    → length old ≡ tree_count
    → y ≡ overlaid (k + 1) new old
root_copied new old k e f s =
    over_one new old tree_count k empty_root e (ap (λ (r : Option ℕ). record { root = r }) f) s

-- The lists, and the roots, are as many as their rows.
pub lists_size : (rows : List (List ℕ)) → length rows ≡ priorities → length (lists_of rows) ≡ priorities
unfolding lists_of
lists_size rows h = length-map rows list_from ∙ h

pub roots_size : (rows : List (List ℕ)) → length rows ≡ tree_count → length (roots_of rows) ≡ tree_count
roots_size rows h = roots_length rows ∙ h

-- A list is its row.
pub list_set : {l : ThreadQueue} (rows : List (List ℕ)) (k : ℕ) (w : List ℕ) → list_from w ≡ l
    → lists_of (set rows k w) ≡ set (lists_of rows) k l
unfolding lists_of
list_set rows k w e = map_set list_from rows k w ∙ ap (set (map list_from rows) k) e

pub list_got : {l : ThreadQueue} (rows : List (List ℕ)) (k : ℕ) → l ≡ list_from (get_or rows k [])
    → l ≡ get_or (lists_of rows) k empty_queue
unfolding lists_of list_from link_from if_equal choose
list_got rows k e = e ∙ sym (get_or-map list_from rows k [])

-- Two lists of the same elements, of which the second are read by a default.
same_at : {A : Type 0} (e : A) (xs ys : List A) → length xs ≡ length ys
    → ((k : ℕ) (d : A) → k < length xs → get_or xs k d ≡ get_or ys k e) → xs ≡ ys
same_at e [] [] long at = refl
same_at e [] (y ∷ ys) long at = absurd (omega arith)
same_at e (x ∷ xs) [] long at = absurd (omega arith)
same_at e (x ∷ xs) (y ∷ ys) long at =
    let first : x ≡ y = at 0 x (omega arith) in
    rw (first, same_at e xs ys (omega arith) (λ k d h. at (suc k) d (omega arith))) refl

-- What `array::from_fn` makes by a closure that stays as it is and answers by the place.
module _ {F B : Type 0} (g : Mut F (ℕ × Unit {0}) B) (f : F) (by_place : ℕ → B)
    (keeps : (i : ℕ) (y : B) (q : F) → Called g f (i, tt) y q → (q ≡ f) × (y ≡ by_place i)) where
  pub made_at : (j : ℕ) (e : F) (ys : List B) (i n k : ℕ) (d : B) → k ≡ i + j → j < n → e ≡ f
      → IsFromFnResultFrom g e ys i n → get_or ys k d ≡ by_place k
  made_at j e ys i zero k d there less same all = absurd (omega arith)
  made_at zero e ys i (suc n) k d there less same all =
      let here : k ≡ i = omega arith in
      rw here (all.2.1 d ∙ (keeps i all.1 all.0 (subst (λ (s : F). Called g s (i, tt) all.1 all.0) same all.3)).1)
  made_at (suc j) e ys i (suc n) k d there less same all =
      made_at j all.0 ys (i + 1) n k d (omega arith) (omega arith)
      (keeps i all.1 all.0 (subst (λ (s : F). Called g s (i, tt) all.1 all.0) same all.3)).0 all.4

-- Each list, and each root, made of its row.
module _ (rows : List (List ℕ)) where
  pub lists_made : {r : List ThreadQueue} → length r ≡ priorities → length rows ≡ priorities
      → ((k : ℕ) (d : ThreadQueue) → k < priorities → get_or r k d ≡ list_from (get_or rows k [])) → r ≡ lists_of rows
  lists_made {r} long size made =
      same_at empty_queue r (lists_of rows) (long ∙ sym (lists_size rows size))
      (λ k d h. list_got rows k (made k d (omega (arith, long, h))))

  pub roots_made : {r : List Root} → length r ≡ tree_count → length rows ≡ tree_count
      → ((k : ℕ) (d : Root) → k < tree_count → get_or r k d ≡ record { root = root_at (roots_of rows) k })
      → r ≡ roots_of rows
  roots_made {r} long size made =
      same_at empty_root r (roots_of rows) (long ∙ sym (roots_size rows size))
      (λ k d h. made k d (omega (arith, long, h)))

-- The queue with other rows for its lists.
module _ (rows part : List (List ℕ)) (of_part : length part ≡ priorities) where
  abbrev rear : List (List ℕ)
  rear = drop priorities rows

  lists_put_there : take priorities (part ++ rear) ≡ part
  lists_put_there = take_at part rear priorities of_part

  row_kept : (k : ℕ) → get_or (part ++ rear) (priorities + k) [] ≡ get_or rows (priorities + k) []
  row_kept k =
      ap (λ n. get_or (part ++ rear) (n + k) []) (sym of_part)
      ∙ get_or-append-add part rear k []
      ∙ get_or-drop priorities rows k []

  roots_kept : drop root_rows (part ++ rear) ≡ drop root_rows rows
  roots_kept =
      ap (λ n. drop (n + 1) (part ++ rear)) (sym of_part) ∙ drop-append-add part rear 1 ∙ drop-drop 1 priorities rows

  lists_stored : queue_of (part ++ rear) ≡ with_lists (queue_of rows) (lists_of part)
  unfolding queue_of with_lists lists_of
  lists_stored = rw (lists_put_there, row_kept 0, row_kept 13, roots_kept)

pub lists_put : {lists : List ThreadQueue} (rows part : List (List ℕ)) → length rows ≡ queue_rows
    → length part ≡ length (take priorities rows) → lists_of part ≡ lists
    → queue_of (part ++ drop priorities rows) ≡ with_lists (queue_of rows) lists
lists_put rows part h k e = lists_stored rows part (k ∙ taken) ∙ ap (with_lists (queue_of rows)) e
  where
    taken : length (take priorities rows) ≡ priorities
    taken = length-take priorities rows ∙ (let least : min priorities (length rows) ≡ priorities = omega arith in least)

pub lists_read : {r : List ThreadQueue} (rows : List (List ℕ)) → r ≡ lists_of (take priorities rows)
    → r ≡ (queue_of rows).realtime
unfolding queue_of lists_of
lists_read rows e = e

-- The roots stored over the rows of a queue.
pub roots_put : {roots : List Root} (rows part : List (List ℕ)) → length rows ≡ queue_rows
    → length part ≡ length (take tree_count (drop root_rows rows)) → roots_of part ≡ roots
    → queue_of (take root_rows rows ++ (part ++ drop tree_count (drop root_rows rows)))
    ≡ with_indices (queue_of rows) roots
roots_put rows part h k e = roots_stored rows part h (k ∙ part_size rows h) ∙ ap (with_indices (queue_of rows)) e

pub roots_read : {r : List Root} (rows : List (List ℕ)) → r ≡ roots_of (take tree_count (drop root_rows rows))
    → r ≡ (queue_of rows).indices
unfolding queue_of roots_of
roots_read rows e = e

-- All parts stored, whatever stood there before.
pub all_stored : {x₁ x₂ x₃ x₄ : CpuRunQueue} {w : List ℕ} (x₀ : CpuRunQueue) (realtime : List ThreadQueue) (total : ℕ)
    (fair : ThreadQueue)
    (indices : List Root) (epoch : Option ℕ) (budgets : ℕ) (halted : Bool)
    → x₁ ≡ with_lists x₀ realtime → x₂ ≡ with_fair x₁ fair → x₃ ≡ with_indices x₂ indices → x₄ ≡ with_marks x₃ w
    → MarksAre w total budgets epoch halted
    → x₄
    ≡ record {
      realtime = realtime;
      realtime_len = total;
      fair = fair;
      indices = indices;
      budget_epoch = epoch;
      budget_threads = budgets;
      halted = halted;
    }
unfolding with_lists with_fair with_indices with_marks
all_stored x₀ realtime total fair indices epoch budgets halted lists list roots marks m =
    marks ∙ rw roots (rw list (rw lists (rw (m.total_is, m.budgets_are, m.epoch_is, m.mark_is))))

-- All parts read.
pub all_read : {q : CpuRunQueue} {realtime : List ThreadQueue} {total : ℕ} {fair : ThreadQueue} {indices : List Root}
    {epoch : Option ℕ}
    {budgets : ℕ} {halted : Bool}
    → realtime ≡ q.realtime → total ≡ q.realtime_len → fair ≡ q.fair → indices ≡ q.indices
    → epoch ≡ q.budget_epoch
    → budgets ≡ q.budget_threads → halted ≡ q.halted
    → record {
      realtime = realtime;
      realtime_len = total;
      fair = fair;
      indices = indices;
      budget_epoch = epoch;
      budget_threads = budgets;
      halted = halted;
    }
    ≡ q
all_read a b c d e f g = rw (a, b, c, d, e, f, g)

-- A mark is not 0.
pub mark_set : {h : Bool} → h ≡ true → halted_from 1 ≡ h
unfolding halted_from if_equal choose
mark_set e = sym e

pub mark_clear : {h : Bool} → h ≡ false → halted_from 0 ≡ h
unfolding halted_from if_equal choose
mark_clear e = sym e

-- A new queue, by lists that are empty.
pub new_made : {list fair : ThreadQueue} → list ≡ empty_queue → fair ≡ empty_queue
    → record {
      realtime = replicate priorities list;
      realtime_len = 0;
      fair = fair;
      indices = replicate tree_count empty_root;
      budget_epoch = None;
      budget_threads = 0;
      halted = false;
    }
    ≡ new_queue
new_made e f = rw (e, f)

-- A call on the rows that a value was stored to, read back, is the call on the value.
module _ {x y v w : CpuRunQueue} {t₁ : List ThreadRecord} (t : List ThreadRecord) where
  pub enqueued : {a : Answer (Unit {0})} (front : Bool) (id : ℕ) (c : CpuIndex) → x ≡ v
      → out (step a y) t₁ ≡ enqueue_call front t x id c → w ≡ y → out (step a w) t₁ ≡ enqueue_call front t v id c
  enqueued {a} front id c e s f = ap (λ q. out (step a q) t₁) f ∙ s ∙ ap (λ q. enqueue_call front t q id c) e

  pub removed : {a : Answer (Unit {0})} (id : ℕ) (c : CpuIndex) → x ≡ v
      → out (step a y) t₁ ≡ remove_call t x id c → w ≡ y → out (step a w) t₁ ≡ remove_call t v id c
  removed {a} id c e s f = ap (λ q. out (step a q) t₁) f ∙ s ∙ ap (λ q. remove_call t q id c) e

  pub peeked_by_rows : {a : Answer Selection} {w₁ : CpuWindow} (c : CpuIndex) (now : ℕ) (window : CpuWindow)
      (current : Option Candidate)
      → x ≡ v → out (peeked a w₁ y) t₁ ≡ peek_next t x c now window current → w ≡ y
      → out (peeked a w₁ w) t₁ ≡ peek_next t v c now window current
  peeked_by_rows {a} {w₁} c now window current e s f =
      ap (λ q. out (peeked a w₁ q) t₁) f ∙ s ∙ ap (λ q. peek_next t q c now window current) e

pub ruleset calls = (enqueued, removed, peeked_by_rows)

pub ruleset copying = (over_none, over_whole, list_copied, root_copied, lists_size, roots_size, list_set, list_got)

pub ruleset values =
    (lists_put, lists_read, roots_put, roots_read, all_stored, all_read, mark_set, mark_clear, new_made)
