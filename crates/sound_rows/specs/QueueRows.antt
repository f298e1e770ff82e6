-- What calls leave of the rows of a queue: rows that encode still do, and a list, a root, or the counts, epoch and mark
-- that are left have every word as it was. The spare words of a root's row are as they were in any rows.
use Rattle.std.specs.Prelude.{ℕ, ◌+◌, ◌-◌, ◌<◌, ◌≡◌, refl, Bool, true, false, List, [], ◌∷◌, ◌++◌, ltb, length, get_or}
use Rattle.std.proofs.Common.{arith, sym, ap, subst, ◌∙◌, ltb-true, ltb-false}
use Rattle.refusal.specs.Cases.{choose, if_less}
use Rattle.thread.specs.declared.ThreadQueue.{ThreadQueue}
use Rattle.policy_words.specs.Encodes.{zeros, option_encodes}
use Rattle.codec.specs.Codec.{word, link_from, epoch_from}
use Rattle.codec.specs.Frame.{words_from, a_link, Part}
use Rattle.queue.specs.declared.Root.{Root}
use Rattle.lent_queue.specs.LentQueue.{queue_rows, tree_count, root_rows, marks_row, head_tag, head_word, total_word}
use Rattle.lent_queue.specs.LentQueue.{budgets_word, epoch_tag, epoch_word, mark_word, list_from, root_from}
use Rattle.lent_queue.specs.LentQueue.{halted_from}
use Rattle.lent_queue.specs.Frame.{spare_words, a_mark, ListFramed, RootFramed, MarksFramed, QueueFramed}
use Rattle.images.specs.Images.{queue_row_words}
use Rattle.images.specs.Encoded.{link_words, epoch_words, flag_word}
use Rattle.images.specs.Encodes.{list_encodes, root_encodes, marks_encode, queue_row_encodes, queue_encodes}
use Rattle.images.specs.PartLaws.{both_first, both_second, both_hold, link_exact, epoch_exact, halted_exact}
use Rattle.sound_rows.specs.Theorems.{part_encodes, same_words, all_stay}

-- The five words of a queue's row, one after the other.
abbrev pub queue_words : List ℕ → List ℕ
queue_words w = words_from w 0 queue_row_words

-- In any rows, whether they encode or not: the spare words of a root's row are as they were.
pub root_spare_kept : (b c : List (List ℕ)) (k : ℕ) → k < tree_count → QueueFramed b c
    → spare_words (get_or c (root_rows + k) []) ≡ spare_words (get_or b (root_rows + k) [])
root_spare_kept b c k h f = (f.root k h).spare

-- Whatever a call leaves of a row that encodes, encodes: of a list's row, of a root's, of that of counts, epoch and
-- mark.
list_stays : (w v : List ℕ) → ListFramed w v → list_encodes w ≡ true → list_encodes v ≡ true
unfolding list_encodes
list_stays w v f e =
    both_hold _ _ (part_encodes (both_first _ _ e) f.head) (part_encodes (both_second _ _ e) f.tail)

root_stays : (w v : List ℕ) → RootFramed w v → root_encodes w ≡ true → root_encodes v ≡ true
unfolding root_encodes
root_stays w v f e =
    both_hold _ _ (part_encodes (both_first _ _ e) f.head)
    (ap (λ (l : List ℕ). zeros (word l 0) (word l 1) (word l 2)) f.spare ∙ both_second _ _ e)

marks_stay : (w v : List ℕ) → MarksFramed w v → marks_encode w ≡ true → marks_encode v ≡ true
unfolding marks_encode
marks_stay w v f e =
    both_hold _ _ (part_encodes (both_first _ _ e) f.epoch) (part_encodes (both_second _ _ e) f.mark)

-- So of the row at any place of a queue, by the kind of row that stands there.
abbrev kind_encodes : Bool → Bool → List ℕ → Bool
kind_encodes list root w = choose list (list_encodes w) (choose root (root_encodes w) (marks_encode w))

row_stays : (b c : List (List ℕ)) (k : ℕ) → k < queue_rows → QueueFramed b c
    → queue_row_encodes k (get_or b k []) ≡ true → queue_row_encodes k (get_or c k []) ≡ true
unfolding queue_row_encodes if_less choose
row_stays b c k h f = by (ltb k root_rows) (ltb k marks_row) refl refl
  where
    by : (list root : Bool) → ltb k root_rows ≡ list → ltb k marks_row ≡ root
        → kind_encodes list root (get_or b k []) ≡ true → kind_encodes list root (get_or c k []) ≡ true
    by true root l r e = list_stays _ _ (f.list k (ltb-true k root_rows l)) e
    by false true l r e =
        let place : root_rows + (k - root_rows) ≡ k = omega (arith, ltb-false k root_rows l) in
        root_stays _ _ (subst (λ (j : ℕ). RootFramed (get_or b j []) (get_or c j [])) place
        (f.root (k - root_rows) (omega (arith, ltb-true k marks_row r, ltb-false k root_rows l)))) e
    by false false l r e =
        let place : marks_row ≡ k = omega (arith, h, ltb-false k marks_row r) in
        marks_stay _ _ (subst (λ (j : ℕ). MarksFramed (get_or b j []) (get_or c j [])) place f.marks) e

-- Rows that are a queue's encoding are one after any call.
pub queue_stays : (b c : List (List ℕ)) → length b ≡ queue_rows → length c ≡ queue_rows → QueueFramed b c
    → queue_encodes b ≡ true → queue_encodes c ≡ true
unfolding queue_encodes
queue_stays b c before after f e =
    all_stay queue_row_encodes 0 b c (after ∙ sym before)
    (λ k h.
    let here : 0 + k ≡ k = omega arith in
    rw here (row_stays b c k (omega (arith, h, before)) f)) e

-- Two words that encode and whose link, or epoch, is left are as they were.
option_same : {A : Type 0} (of : A → List ℕ) (from : ℕ → ℕ → A)
    → ((t n : ℕ) → option_encodes t n ≡ true → of (from t n) ≡ t ∷ n ∷ []) → {t n s m : ℕ} → option_encodes t n ≡ true
    → Part a_link (t ∷ n ∷ []) (s ∷ m ∷ []) → from s m ≡ from t n → s ∷ m ∷ [] ≡ t ∷ n ∷ []
option_same of from exact e p d = same_words of (exact _ _ e) (exact _ _ (part_encodes e p)) d

link_same : {t n s m : ℕ} → option_encodes t n ≡ true → Part a_link (t ∷ n ∷ []) (s ∷ m ∷ [])
    → link_from s m ≡ link_from t n → s ∷ m ∷ [] ≡ t ∷ n ∷ []
link_same = option_same link_words link_from link_exact

-- So is a word that encodes and whose mark is left.
mark_same : {n m : ℕ} → ltb n 2 ≡ true → Part a_mark (n ∷ []) (m ∷ []) → halted_from m ≡ halted_from n → m ≡ n
mark_same {n} {m} e p d =
    same_words flag_word (halted_exact n (ltb-true n 2 e)) (halted_exact m (ltb-true m 2 (part_encodes e p))) d

-- A row's words from those of its parts: a word by itself, and some words before others.
one_same : {n m : ℕ} → m ≡ n → m ∷ [] ≡ n ∷ []
one_same e = rw e

then_same : {a b c d : List ℕ} → c ≡ a → d ≡ b → c ++ d ≡ a ++ b
then_same e f = rw (e, f)

-- A list's row whose links encode and whose list a call leaves is as it was, word for word.
pub list_same : (b c : List (List ℕ)) (p : ℕ) → p < root_rows → QueueFramed b c → list_encodes (get_or b p []) ≡ true
    → list_from (get_or c p []) ≡ list_from (get_or b p []) → queue_words (get_or c p []) ≡ queue_words (get_or b p [])
unfolding list_encodes list_from
list_same b c p h f e d =
    then_same (link_same (both_first _ _ e) (f.list p h).head (ap (λ (l : ThreadQueue). l.head) d))
    (then_same (link_same (both_second _ _ e) (f.list p h).tail (ap (λ (l : ThreadQueue). l.tail) d))
    (one_same (ap (λ (l : ThreadQueue). l.len) d)))

-- A root's row whose first two words encode and whose root a call leaves is as it was, whatever its spare words are.
pub root_same : (b c : List (List ℕ)) (k : ℕ) → k < tree_count → QueueFramed b c
    → option_encodes (word (get_or b (root_rows + k) []) head_tag) (word (get_or b (root_rows + k) []) head_word) ≡ true
    → root_from (get_or c (root_rows + k) []) ≡ root_from (get_or b (root_rows + k) [])
    → queue_words (get_or c (root_rows + k) []) ≡ queue_words (get_or b (root_rows + k) [])
unfolding root_from
root_same b c k h f e d =
    then_same (link_same e (f.root k h).head (ap (λ (r : Root). r.root) d)) (f.root k h).spare

-- The row of counts, epoch and mark, where it encodes and a call leaves what it stands for, is as it was.
pub marks_same : (b c : List (List ℕ)) → QueueFramed b c → marks_encode (get_or b marks_row []) ≡ true
    → word (get_or c marks_row []) total_word ≡ word (get_or b marks_row []) total_word
    → word (get_or c marks_row []) budgets_word ≡ word (get_or b marks_row []) budgets_word
    → epoch_from (word (get_or c marks_row []) epoch_tag) (word (get_or c marks_row []) epoch_word)
    ≡ epoch_from (word (get_or b marks_row []) epoch_tag) (word (get_or b marks_row []) epoch_word)
    → halted_from (word (get_or c marks_row []) mark_word) ≡ halted_from (word (get_or b marks_row []) mark_word)
    → queue_words (get_or c marks_row []) ≡ queue_words (get_or b marks_row [])
unfolding marks_encode
marks_same b c f e total budgets epoch halted =
    then_same (one_same total)
    (then_same (one_same budgets)
    (then_same (option_same epoch_words epoch_from epoch_exact (both_first _ _ e) f.marks.epoch epoch)
    (one_same (mark_same (both_second _ _ e) f.marks.mark halted))))
