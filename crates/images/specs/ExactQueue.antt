-- What load and store take of a queue is exactly the encodings of queues.
use Rattle.std.specs.Prelude.{ℕ, zero, suc, ◌+◌, ◌<◌, ◌≤◌, ◌≡◌, Bool, ltb, take, drop, get_or}
use native.Mathlib.Omega.{arith}
use Rattle.std.proofs.Math.Path.{refl, sym, ap}
use Rattle.std.proofs.Common.{◌∙◌, length-take, length-drop, take-append-drop, drop_of_length-le, drop-cons, drop-drop}
use Rattle.std.proofs.Common.{drop_at, get_or-take, get_or-drop, length-take-le, ltb-true, lt-ltb}
use Rattle.std.proofs.Math.Bool.{true}
use mathlib.Core.List.{List, [], ◌∷◌, ◌++◌, map}
use Rattle.std.proofs.Math.ListN.{length}
use Rattle.std.proofs.lemmas.List.{length-map}
use Rattle.std.proofs.Math.Seq.{take_at, get_or_at}
use Rattle.refusal.specs.Cases.{choose, if_equal, less, not_less}
use Rattle.thread.specs.declared.ThreadQueue.{ThreadQueue}
use Rattle.queue.specs.declared.Root.{Root}
use Rattle.queue.specs.RunQueue.{CpuRunQueue}
use Rattle.codec.specs.Codec.{word}
use Rattle.lent_queue.specs.LentQueue.{queue_rows, fair_row, root_rows, marks_row, priorities, tree_count}
use Rattle.lent_queue.specs.LentQueue.{list_from, root_from, queue_of}
use Rattle.images.specs.Fits.{All, QueueFits}
use Rattle.images.specs.AllLaws.{all_at}
use Rattle.images.specs.Images.{queue_row_words}
use Rattle.images.specs.Encoded.{list_words, root_words, marks_words, encoded_queue}
use Rattle.images.specs.Encodes.{zeros, option_encodes, list_encodes, root_encodes, marks_encode}
use Rattle.images.specs.Encodes.{queue_row_encodes, all_from, queue_encodes}
use Rattle.images.specs.PartLaws.{both_first, both_second, both_hold, zeros_first, zeros_second, zeros_third}
use Rattle.images.specs.PartLaws.{laid_all, link_exact, epoch_exact, halted_exact, parts, wholes}
use Rattle.images.specs.PartLaws.{link_passes, epoch_passes, flag_passes}
use Rattle.images.specs.PartLaws.{link_stands, epoch_stands, halted_stands}

-- A row by its kind.
list_exact : (w : List ℕ) → length w ≡ queue_row_words → list_encodes w ≡ true → list_words (list_from w) ≡ w
unfolding list_encodes list_words list_from
list_exact w size h =
    let head : option_encodes (word w 0) (word w 1) ≡ true = search parts in
    let tail : option_encodes (word w 2) (word w 3) ≡ true = search parts in
    rw (link_exact (word w 0) (word w 1) head, link_exact (word w 2) (word w 3) tail) (laid_all queue_row_words w size)

root_exact : (w : List ℕ) → length w ≡ queue_row_words → root_encodes w ≡ true → root_words (root_from w) ≡ w
unfolding root_encodes root_words root_from
root_exact w size h =
    let head : option_encodes (word w 0) (word w 1) ≡ true = search parts in
    let spare : zeros (word w 2) (word w 3) (word w 4) ≡ true = search parts in
    let all : word w 0 ∷ word w 1 ∷ word w 2 ∷ word w 3 ∷ word w 4 ∷ [] ≡ w = laid_all queue_row_words w size in
    rw (link_exact (word w 0) (word w 1) head) (rw (
      zeros_first (word w 2) (word w 3) (word w 4) spare,
      zeros_second (word w 2) (word w 3) (word w 4) spare,
      zeros_third (word w 2) (word w 3) (word w 4) spare,
    ) at all)

marks_exact : (rows : List (List ℕ)) → length (get_or rows marks_row []) ≡ queue_row_words
    → marks_encode (get_or rows marks_row []) ≡ true → marks_words (queue_of rows) ≡ get_or rows marks_row []
unfolding marks_encode marks_words queue_of
marks_exact rows size h =
    let w : List ℕ = get_or rows marks_row [] in
    let epoch : option_encodes (word w 2) (word w 3) ≡ true = search parts in
    let mark : ltb (word w 4) 2 ≡ true = search parts in
    rw (epoch_exact (word w 2) (word w 3) epoch, halted_exact (word w 4) (ltb-true (word w 4) 2 mark))
    (laid_all queue_row_words w size)

list_passes : (l : ThreadQueue) → list_encodes (list_words l) ≡ true
unfolding list_encodes list_words
list_passes l = search (wholes, link_passes) depth 4

root_passes : (r : Root) → root_encodes (root_words r) ≡ true
unfolding root_encodes root_words zeros if_equal choose
root_passes r = rw (link_passes r.root)

marks_pass : (q : CpuRunQueue) → marks_encode (marks_words q) ≡ true
unfolding marks_encode marks_words
marks_pass q = search (lt-ltb _ 2 (flag_passes q.halted), wholes, epoch_passes) depth 4

list_stands : (l : ThreadQueue) → list_from (list_words l) ≡ l
unfolding list_words list_from
list_stands l = rw (link_stands l.head, link_stands l.tail)

root_stands : (r : Root) → root_from (root_words r) ≡ r
unfolding root_words root_from
root_stands r = rw (link_stands r.root)

-- The row at a place passes its test.
row_passes : (test : ℕ → List ℕ → Bool) (k : ℕ) (rows : List (List ℕ)) (i : ℕ) → all_from test k rows ≡ true
    → i < length rows → test (k + i) (get_or rows i []) ≡ true
unfolding all_from
row_passes test k [] i h g = absurd (omega arith)
row_passes test k (row ∷ rest) zero h g =
    let here : k + 0 ≡ k = omega arith in
    rw here (both_first (test k row) (all_from test (suc k) rest) h)
row_passes test k (row ∷ rest) (suc i) h g =
    let next : k + suc i ≡ suc k + i = omega arith in
    rw next (row_passes test (suc k) rest i (both_second (test k row) (all_from test (suc k) rest) h) (omega arith))

-- By where the row stands.
module _ (k : ℕ) (w : List ℕ) (h : queue_row_encodes k w ≡ true) where
  as_list : k < root_rows → list_encodes w ≡ true
  unfolding queue_row_encodes
  as_list g = less _ _ k root_rows g refl ∙ h

  as_root : root_rows ≤ k → k < marks_row → root_encodes w ≡ true
  unfolding queue_row_encodes
  as_root g l = less _ _ k marks_row l refl ∙ not_less _ _ k root_rows g refl ∙ h

  as_marks : marks_row ≤ k → marks_encode w ≡ true
  unfolding queue_row_encodes
  as_marks g = not_less _ _ k marks_row g refl ∙ not_less _ _ k root_rows (omega arith) refl ∙ h

-- Elements read and written again.
mapped_again : {A : Type 0} (f : List ℕ → A) (g : A → List ℕ) (rows : List (List ℕ))
    → ((k : ℕ) → k < length rows → g (f (get_or rows k [])) ≡ get_or rows k []) → map g (map f rows) ≡ rows
mapped_again f g [] h = refl
mapped_again f g (row ∷ rest) h =
    rw (h 0 (omega arith), mapped_again f g rest (λ k l. h (suc k) (omega arith)))

module _ (rows : List (List ℕ)) (size : length rows ≡ queue_rows)
    (wide : All (λ (r : List ℕ). length r ≡ queue_row_words) rows)
    (h : queue_encodes rows ≡ true) where
  long : (k : ℕ) → k < queue_rows → length (get_or rows k []) ≡ queue_row_words
  long k l = all_at (λ (r : List ℕ). length r ≡ queue_row_words) rows k [] wide (omega arith)

  passes : (k : ℕ) → k < queue_rows → queue_row_encodes k (get_or rows k []) ≡ true
  unfolding queue_encodes
  passes k l =
      let here : 0 + k ≡ k = omega arith in
      rw here at (row_passes queue_row_encodes 0 rows k h (omega arith))

  list_at_lem : (k : ℕ) → k < root_rows → list_words (list_from (get_or rows k [])) ≡ get_or rows k []
  list_at_lem k l =
      list_exact (get_or rows k []) (long k (omega arith)) (as_list k (get_or rows k []) (passes k (omega arith)) l)

  root_at_lem : (k : ℕ) → k < tree_count → root_words (root_from (get_or rows (root_rows + k) []))
      ≡ get_or rows (root_rows + k) []
  root_at_lem k l =
      root_exact (get_or rows (root_rows + k) []) (long (root_rows + k) (omega arith))
      (as_root (root_rows + k) (get_or rows (root_rows + k) []) (passes (root_rows + k) (omega arith)) (omega arith)
      (omega arith))

  lists_again : map list_words (map list_from (take priorities rows)) ≡ take priorities rows
  lists_again = mapped_again list_from list_words (take priorities rows) at_place
    where
      at_place : (k : ℕ) → k < length (take priorities rows)
          → list_words (list_from (get_or (take priorities rows) k [])) ≡ get_or (take priorities rows) k []
      at_place k l =
          let below : k < priorities = omega (arith, length-take priorities rows) in
          rw (get_or-take priorities rows k [] below) (list_at_lem k (omega arith))

  roots_again : map root_words (map root_from (take tree_count (drop root_rows rows)))
      ≡ take tree_count (drop root_rows rows)
  roots_again = mapped_again root_from root_words (take tree_count (drop root_rows rows)) at_place
    where
      at_place : (k : ℕ) → k < length (take tree_count (drop root_rows rows))
          → root_words (root_from (get_or (take tree_count (drop root_rows rows)) k []))
          ≡ get_or (take tree_count (drop root_rows rows)) k []
      at_place k l =
          let below : k < tree_count = omega (arith, length-take tree_count (drop root_rows rows)) in
          rw (get_or-take tree_count (drop root_rows rows) k [] below, get_or-drop root_rows rows k [])
          (root_at_lem k below)

  marks_last : drop marks_row rows ≡ get_or rows marks_row [] ∷ []
  marks_last =
      let behind : length rows ≤ 270 = omega arith in
      drop-cons rows marks_row [] (omega arith) ∙ ap (λ (l : List (List ℕ)). get_or rows marks_row [] ∷ l)
      (drop_of_length-le rows behind)

  from_roots : take tree_count (drop root_rows rows) ++ (get_or rows marks_row [] ∷ []) ≡ drop root_rows rows
  from_roots =
      rw (← marks_last, ← drop-drop tree_count root_rows rows) (take-append-drop tree_count (drop root_rows rows))

  from_fair : get_or rows fair_row [] ∷ drop root_rows rows ≡ drop fair_row rows
  from_fair = sym (drop-cons rows fair_row [] (omega arith))

  rows_again : map list_words (queue_of rows).realtime
      ++ list_words (queue_of rows).fair ∷ (map root_words (queue_of rows).indices ++ get_or rows marks_row [] ∷ [])
      ≡ rows
  unfolding queue_of
  rows_again =
      rw (lists_again, list_at_lem fair_row (omega arith), roots_again, from_roots, from_fair)
      (take-append-drop priorities rows)

  -- The rows are the encoding of their queue.
  pub queue_exact : encoded_queue (queue_of rows) ≡ rows
  unfolding encoded_queue
  queue_exact =
      rw (marks_exact rows (long marks_row (omega arith))
      (as_marks marks_row (get_or rows marks_row []) (passes marks_row (omega arith)) (omega arith))) rows_again

all_append : (test : ℕ → List ℕ → Bool) (k : ℕ) (a b : List (List ℕ)) → all_from test k a ≡ true
    → all_from test (k + length a) b ≡ true → all_from test k (a ++ b) ≡ true
unfolding all_from
all_append test k [] b h g =
    let here : k + 0 ≡ k = omega arith in
    rw here at g
all_append test k (row ∷ rest) b h g =
    let next : k + suc (length rest) ≡ suc k + length rest = omega arith in
    both_hold (test k row) (all_from test (suc k) (rest ++ b)) (both_first (test k row) (all_from test (suc k) rest) h)
    (all_append test (suc k) rest b (both_second (test k row) (all_from test (suc k) rest) h) (rw next at g))

at_list : (k : ℕ) (w : List ℕ) → k < root_rows → list_encodes w ≡ true → queue_row_encodes k w ≡ true
unfolding queue_row_encodes
at_list k w g h = sym (less _ _ k root_rows g refl) ∙ h

at_root : (k : ℕ) (w : List ℕ) → root_rows ≤ k → k < marks_row → root_encodes w ≡ true → queue_row_encodes k w ≡ true
unfolding queue_row_encodes
at_root k w g l h = sym (less _ _ k marks_row l refl ∙ not_less _ _ k root_rows g refl) ∙ h

at_marks : (k : ℕ) (w : List ℕ) → marks_row ≤ k → marks_encode w ≡ true → queue_row_encodes k w ≡ true
unfolding queue_row_encodes
at_marks k w g h = sym (not_less _ _ k marks_row g refl ∙ not_less _ _ k root_rows (omega arith) refl) ∙ h

lists_pass : (k : ℕ) (lists : List ThreadQueue) → k + length lists ≤ root_rows
    → all_from queue_row_encodes k (map list_words lists) ≡ true
unfolding all_from
lists_pass k [] h = refl
lists_pass k (l ∷ rest) h =
    both_hold (queue_row_encodes k (list_words l)) (all_from queue_row_encodes (suc k) (map list_words rest))
    (at_list k (list_words l) (omega arith) (list_passes l)) (lists_pass (suc k) rest (omega arith))

roots_pass : (k : ℕ) (roots : List Root) → root_rows ≤ k → k + length roots ≤ marks_row
    → all_from queue_row_encodes k (map root_words roots) ≡ true
unfolding all_from
roots_pass k [] g h = refl
roots_pass k (r ∷ rest) g h =
    both_hold (queue_row_encodes k (root_words r)) (all_from queue_row_encodes (suc k) (map root_words rest))
    (at_root k (root_words r) g (omega arith) (root_passes r)) (roots_pass (suc k) rest (omega arith) (omega arith))

mapped_stands : {A : Type 0} (f : List ℕ → A) (g : A → List ℕ) (xs : List A) → ((x : A) → f (g x) ≡ x)
    → map f (map g xs) ≡ xs
mapped_stands f g [] h = refl
mapped_stands f g (x ∷ rest) h = rw (h x, mapped_stands f g rest h)

module _ (q : CpuRunQueue) (f : QueueFits q) where
  many_lists : length (map list_words q.realtime) ≡ priorities
  many_lists = length-map q.realtime list_words ∙ f.lists_fit

  many_roots : length (map root_words q.indices) ≡ tree_count
  many_roots = length-map q.indices root_words ∙ f.roots_fit

  marks_at : (k : ℕ) → k ≡ marks_row → all_from queue_row_encodes k (marks_words q ∷ []) ≡ true
  unfolding all_from
  marks_at k e =
      both_hold (queue_row_encodes k (marks_words q)) true
      (at_marks k (marks_words q) (omega arith) (marks_pass q)) refl

  roots_at : (k : ℕ) → k ≡ root_rows → all_from queue_row_encodes k (map root_words q.indices ++ marks_words q ∷ [])
      ≡ true
  roots_at k e =
      all_append queue_row_encodes k (map root_words q.indices) (marks_words q ∷ [])
      (roots_pass k q.indices (omega arith) (omega (arith, f.roots_fit)))
      (marks_at (k + length (map root_words q.indices)) (omega (arith, many_roots)))

  fair_at : (k : ℕ) → k ≡ fair_row
      → all_from queue_row_encodes k (list_words q.fair ∷ (map root_words q.indices ++ marks_words q ∷ [])) ≡ true
  unfolding all_from
  fair_at k e =
      both_hold (queue_row_encodes k (list_words q.fair))
      (all_from queue_row_encodes (suc k) (map root_words q.indices ++ marks_words q ∷ []))
      (at_list k (list_words q.fair) (omega arith) (list_passes q.fair)) (roots_at (suc k) (omega arith))

  -- Its encoding passes the test and stands for it.
  pub queue_encodes_lem : queue_encodes (encoded_queue q) ≡ true
  unfolding queue_encodes encoded_queue
  queue_encodes_lem =
      all_append queue_row_encodes 0 (map list_words q.realtime)
      (list_words q.fair ∷ (map root_words q.indices ++ marks_words q ∷ []))
      (lists_pass 0 q.realtime (omega (arith, f.lists_fit)))
      (fair_at (0 + length (map list_words q.realtime)) (omega (arith, many_lists)))

  abbrev lists : List (List ℕ)
  lists = map list_words q.realtime

  abbrev roots : List (List ℕ)
  roots = map root_words q.indices

  lists_there : take priorities (encoded_queue q) ≡ lists
  unfolding encoded_queue
  lists_there = take_at lists (list_words q.fair ∷ (roots ++ marks_words q ∷ [])) priorities many_lists

  fair_there : get_or (encoded_queue q) fair_row [] ≡ list_words q.fair
  unfolding encoded_queue
  fair_there = get_or_at lists (list_words q.fair) (roots ++ marks_words q ∷ []) [] fair_row many_lists

  behind_fair : drop root_rows (encoded_queue q) ≡ roots ++ marks_words q ∷ []
  unfolding encoded_queue
  behind_fair =
      sym (drop-drop 1 fair_row (lists ++ list_words q.fair ∷ (roots ++ marks_words q ∷ [])))
      ∙ ap (drop 1) (drop_at lists (list_words q.fair ∷ (roots ++ marks_words q ∷ [])) fair_row many_lists)

  roots_there : take tree_count (drop root_rows (encoded_queue q)) ≡ roots
  roots_there = rw behind_fair (take_at roots (marks_words q ∷ []) tree_count many_roots)

  marks_there : get_or (encoded_queue q) marks_row [] ≡ marks_words q
  marks_there =
      sym (get_or-drop root_rows (encoded_queue q) tree_count [])
      ∙ rw behind_fair (get_or_at roots (marks_words q) [] [] tree_count many_roots)

  pub queue_stands : queue_of (encoded_queue q) ≡ q
  unfolding queue_of marks_words
  queue_stands =
      rw (
        lists_there,
        mapped_stands list_from list_words q.realtime list_stands,
        fair_there,
        list_stands q.fair,
        roots_there,
        mapped_stands root_from root_words q.indices root_stands,
        marks_there,
        epoch_stands q.budget_epoch,
        halted_stands q.halted,
      )

-- What 270 rows stand for fits, so rows that are the encoding of their queue pass.
pub queue_fits : (rows : List (List ℕ)) → length rows ≡ queue_rows → QueueFits (queue_of rows)
unfolding queue_of
queue_fits rows size =
    let room : tree_count ≤ length (drop root_rows rows) = rw (length-drop root_rows rows) (omega arith) in
    record {
      lists_fit = length-map (take priorities rows) list_from ∙ length-take-le priorities rows (omega arith);
      roots_fit =
          length-map (take tree_count (drop root_rows rows)) root_from
          ∙ length-take-le tree_count (drop root_rows rows) room;
    }

pub queue_only : (rows : List (List ℕ)) → length rows ≡ queue_rows → encoded_queue (queue_of rows) ≡ rows
    → queue_encodes rows ≡ true
queue_only rows size e = rw e at (queue_encodes_lem (queue_of rows) (queue_fits rows size))
