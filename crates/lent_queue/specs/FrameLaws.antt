-- Laws of what calls leave of the words of a queue's rows: nothing done and one thing after another keep within it, and
-- so does the store of each row.
use Rattle.std.specs.Prelude.{ℕ, ◌+◌, ◌<◌, ◌≡◌, refl, true, ◌≢◌, List, [], ◌∷◌, length, get_or, set}
use Rattle.std.proofs.Common.{arith, sym, ap, subst, ◌∙◌, get_or-set_other}
use Rattle.policy_words.specs.Encodes.{option_encodes}
use Rattle.policy_words.specs.EncodeLaws.{some_encodes}
use Rattle.codec.specs.Codec.{word}
use Rattle.codec.specs.Frame.{Part, kept, stored}
use Rattle.codec.specs.FrameLaws.{part_then}
use Rattle.rows.specs.Frame.{replaced_count, replaced_by}
use Rattle.lent_queue.specs.LentQueue.{priorities, tree_count, fair_row, root_rows, marks_row, head_tag, head_word}
use Rattle.lent_queue.specs.LentQueue.{tail_tag, tail_word, len_word, epoch_tag, epoch_word, mark_word}
use Rattle.lent_queue.specs.Frame.{head_words, tail_words, spare_words, epoch_words, mark_words, a_mark, ListFramed}
use Rattle.lent_queue.specs.Frame.{RootFramed, MarksFramed, QueueFramed, RootsFramed}

pub list_as_it_was : (w : List ℕ) → ListFramed w w
list_as_it_was w = record { head = kept refl; tail = kept refl }

root_as_it_was : (w : List ℕ) → RootFramed w w
root_as_it_was w = record { head = kept refl; spare = refl }

pub marks_as_they_were : (w : List ℕ) → MarksFramed w w
marks_as_they_were w = record { epoch = kept refl; mark = kept refl }

root_then : {w v u : List ℕ} → RootFramed w v → RootFramed v u → RootFramed w u
root_then p q = record { head = part_then p.head q.head; spare = q.spare ∙ p.spare }

pub queue_as_it_was : (b : List (List ℕ)) → QueueFramed b b
queue_as_it_was b =
    record {
      list = λ p h. list_as_it_was (get_or b p []);
      root = λ k h. root_as_it_was (get_or b (root_rows + k) []);
      marks = marks_as_they_were (get_or b marks_row []);
    }

pub queue_then : {b c d : List (List ℕ)} → QueueFramed b c → QueueFramed c d → QueueFramed b d
queue_then p q =
    record {
      list = λ k h.
          record {
            head = part_then (p.list k h).head (q.list k h).head;
            tail = part_then (p.list k h).tail (q.list k h).tail;
          };
      root = λ k h. root_then (p.root k h) (q.root k h);
      marks =
          record {
            epoch = part_then p.marks.epoch q.marks.epoch;
            mark = part_then p.marks.mark q.marks.mark;
          };
    }

pub roots_as_they_were : (b : List (List ℕ)) → RootsFramed b b
roots_as_they_were b = record { count = refl; root = λ k. root_as_it_was (get_or b k []) }

pub roots_then : {b c d : List (List ℕ)} → RootsFramed b c → RootsFramed c d → RootsFramed b d
roots_then p q = record { count = q.count ∙ p.count; root = λ k. root_then (p.root k) (q.root k) }

-- A row that is not stored.
module _ (b : List (List ℕ)) (i : ℕ) (w : List ℕ) (j : ℕ) (apart : j ≢ i) where
  same : get_or b j [] ≡ get_or (set b i w) j []
  same = sym (get_or-set_other b i j w [] apart)

  list_beside : ListFramed (get_or b j []) (get_or (set b i w) j [])
  list_beside = subst (ListFramed (get_or b j [])) same (list_as_it_was (get_or b j []))

  root_beside : RootFramed (get_or b j []) (get_or (set b i w) j [])
  root_beside = subst (RootFramed (get_or b j [])) same (root_as_it_was (get_or b j []))

  marks_beside : MarksFramed (get_or b j []) (get_or (set b i w) j [])
  marks_beside = subst (MarksFramed (get_or b j [])) same (marks_as_they_were (get_or b j []))

-- The row of a list stored with links that encode.
module _ (b : List (List ℕ)) (w : List ℕ) (head : option_encodes (word w head_tag) (word w head_word) ≡ true)
    (tail : option_encodes (word w tail_tag) (word w tail_word) ≡ true) where
  list_framed : (p : ℕ) → p < root_rows → QueueFramed b (set b p w)
  list_framed p h =
      record {
        list = λ j k.
            replaced_by ListFramed list_as_it_was b p w (record { head = stored head; tail = stored tail }) j;
        root = λ k l. root_beside b p w (root_rows + k) (λ e. omega (arith, h));
        marks = marks_beside b p w marks_row (λ e. omega (arith, h));
      }

  pub real_time_framed : (p : ℕ) → p < priorities → QueueFramed b (set b p w)
  real_time_framed p h = list_framed p (omega (arith, h))

  pub fair_framed : {c : List (List ℕ)} → c ≡ set b fair_row w → QueueFramed b c
  fair_framed e = subst (QueueFramed b) (sym e) (list_framed fair_row (omega arith))

-- The row of a root stored with a link that encodes, its spare words as they were.
module _ (b : List (List ℕ)) (w : List ℕ) (head : option_encodes (word w head_tag) (word w head_word) ≡ true) where
  rooted : {v : List ℕ} → word w tail_tag ≡ word v tail_tag → word w tail_word ≡ word v tail_word
      → word w len_word ≡ word v len_word → RootFramed v w
  rooted first second third = record { head = stored head; spare = rw (first, second, third) }

  pub root_framed : (k : ℕ) → k < tree_count → word w tail_tag ≡ word (get_or b (root_rows + k) []) tail_tag
      → word w tail_word ≡ word (get_or b (root_rows + k) []) tail_word
      → word w len_word ≡ word (get_or b (root_rows + k) []) len_word → QueueFramed b (set b (root_rows + k) w)
  root_framed k h first second third =
      record {
        list = λ j l. list_beside b (root_rows + k) w j (λ e. omega (arith, l));
        root = λ j l.
            replaced_by RootFramed root_as_it_was b (root_rows + k) w (rooted first second third) (root_rows + j);
        marks = marks_beside b (root_rows + k) w marks_row (λ e. omega (arith, h));
      }

  pub roots_framed : (k : ℕ) → word w tail_tag ≡ word (get_or b k []) tail_tag
      → word w tail_word ≡ word (get_or b k []) tail_word → word w len_word ≡ word (get_or b k []) len_word
      → RootsFramed b (set b k w)
  roots_framed k first second third =
      record {
        count = replaced_count b k w;
        root = replaced_by RootFramed root_as_it_was b k w (rooted first second third);
      }

-- The row of counts, epoch and mark stored: for the counts, for the mark, and for the epoch.
module _ (b : List (List ℕ)) (w : List ℕ) {c : List (List ℕ)} (s : c ≡ set b marks_row w) where
  marks_framed : MarksFramed (get_or b marks_row []) w → QueueFramed b c
  marks_framed m =
      subst (QueueFramed b) (sym s)
      (record {
        list = λ j l. list_beside b marks_row w j (λ e. omega (arith, l));
        root = λ j l. root_beside b marks_row w (root_rows + j) (λ e. omega (arith, l));
        marks = replaced_by MarksFramed marks_as_they_were b marks_row w m marks_row;
      })

  pub counts_framed : word w epoch_tag ≡ word (get_or b marks_row []) epoch_tag
      → word w epoch_word ≡ word (get_or b marks_row []) epoch_word
      → word w mark_word ≡ word (get_or b marks_row []) mark_word → QueueFramed b c
  counts_framed tag number mark =
      marks_framed (record { epoch = kept (rw (tag, number)); mark = kept (rw mark) })

  pub mark_framed : word w epoch_tag ≡ word (get_or b marks_row []) epoch_tag
      → word w epoch_word ≡ word (get_or b marks_row []) epoch_word → word w mark_word ≡ 1 → QueueFramed b c
  mark_framed tag number mark = marks_framed (record { epoch = kept (rw (tag, number)); mark = stored (rw mark) })

  pub epoch_framed : word w epoch_tag ≡ 1 → word w mark_word ≡ word (get_or b marks_row []) mark_word → QueueFramed b c
  epoch_framed tag mark =
      marks_framed
      (record {
        epoch = stored (ap (λ n. option_encodes n (word w epoch_word)) tag ∙ some_encodes (word w epoch_word));
        mark = kept (rw mark);
      })

pub ruleset queue_framing = (queue_as_it_was, queue_then)

pub ruleset roots_framing = (roots_as_they_were, roots_then)

pub ruleset row_framing = (real_time_framed, fair_framed, root_framed, counts_framed, mark_framed, epoch_framed)
