-- A thread put into one of the lists and taken out of it, and what else may change.
use Rattle.std.specs.Prelude.{◌≡◌, refl, Bool, ◌||◌, ◌≢◌, List, [], ◌∷◌, ◌++◌, ℕ, zero, suc, ◌≤◌, ◌<◌, length, Option}
use Rattle.std.specs.Prelude.{Some, None}
use Rattle.std.proofs.Common.{sym, ap, ◌∙◌, arith}
use Rattle.std.proofs.Math.Bool.{true, false}
use Rattle.std.proofs.Math.Dec.{eqb}
use borrow.Author.Tests.{eqb-true, eqb-false, eq-eqb, ne_eqb}
use Rattle.refusal.specs.Answer.{Answer}
use Rattle.refusal.specs.Cases.{choose}
use Rattle.thread.specs.declared.CpuIndex.{CpuIndex}
use Rattle.thread.specs.declared.QueueMembership.{QueueMembership}
use Rattle.thread.specs.declared.ThreadQueue.{ThreadQueue}
use Rattle.thread.specs.declared.ThreadRecord.{ThreadRecord}
use Rattle.thread.specs.Membership.{on_link}
use Rattle.rows.specs.Table.{Out, after, queue_links_at}
use Rattle.rows.specs.TableCases.{on_queue_links}
use Rattle.sound_lists.specs.Members.{has, first_or, without}
use Rattle.sound_lists.specs.MembersLaws.{has_append, has_without, or_right}
use Rattle.sound_lists.specs.Sound.{Linked, HoldsList, Accepted}
use Rattle.sound_lists.specs.Frame.{member_below, holds_frame}
use Rattle.sound_queue.specs.PlaceLaws.{placed_same, placed_other, joined_here, joined_else, left_here, left_else}
use Rattle.sound_queue.specs.Forest.{placed}
use Rattle.sound_queue.specs.Count.{count}
use Rattle.sound_queue.specs.CountLaws.{count_same, count_most, length_counts}
use Rattle.sound_queue.specs.Lists.{membership_at, Lists, list_count, threads_from, threads_of, relisted}

-- The lists stand in every table in which their threads have the same list links.
unfoldable pub lists_still : {lists : ℕ → ThreadQueue} {cpus : ℕ → CpuIndex} {t : List ThreadRecord} {row : ℕ → ℕ}
    (s : List ThreadRecord)
    → ((j : ℕ) → row j < list_count → queue_links_at s j ≡ queue_links_at t j) → Lists lists cpus t row
    → Lists lists cpus s row
lists_still {lists} {cpus} {t} {row} s h L = record {
  members = L.members;
  holds = λ n b. holds_frame (L.holds n b) s (λ j e. h j (inside j n b e));
  exact = L.exact;
}
  where
    inside : (j n : ℕ) → n < list_count → has j (L.members n) ≡ true → row j < list_count
    inside j n b e = let q = eqb-true (row j) n (sym (L.exact j n b) ∙ e) in omega arith

-- The lists' processors may be given by another function that is the same,
unfoldable pub lists_assigned : {lists : ℕ → ThreadQueue} {cpus : ℕ → CpuIndex} {t : List ThreadRecord} {row : ℕ → ℕ}
    (other : ℕ → CpuIndex) → ((n : ℕ) → cpus n ≡ other n) → Lists lists cpus t row → Lists lists other t row
lists_assigned other h L =
    record { members = L.members; holds = λ n b. rw (sym (h n)) (L.holds n b); exact = L.exact }

-- and so the rows of the threads.
unfoldable pub lists_same : {lists : ℕ → ThreadQueue} {cpus : ℕ → CpuIndex} {t : List ThreadRecord} {row : ℕ → ℕ}
    (other : ℕ → ℕ) → ((j : ℕ) → row j ≡ other j) → Lists lists cpus t row → Lists lists cpus t other
lists_same other h L =
    record { members = L.members; holds = L.holds; exact = λ j n b. L.exact j n b ∙ ap (λ m. eqb m n) (h j) }

module _ {lists : ℕ → ThreadQueue} {cpus : ℕ → CpuIndex} {t : List ThreadRecord} {row : ℕ → ℕ}
    (L : Lists lists cpus t row) where
  -- A list is as long as its threads are many.
  pub list_counts : (n : ℕ) → n < list_count → (lists n).len ≡ count (length t) (λ j. eqb (row j) n)
  list_counts n b =
      (L.holds n b).len ∙ length_counts (length t) (L.members n) (L.holds n b).distinct (member_below (L.holds n b))
      ∙ count_same (length t) (λ j. eqb (row j) n) (λ j. has j (L.members n)) (λ j l. L.exact j n b)

  module _ (n : ℕ) (b : n < list_count) (i : ℕ) where
    -- After an accepted call for i on list n, which made f of its threads: the other lists are as they were.
    unfoldable pub lists_after : {x : Out (Answer ThreadQueue)} (f : List ℕ → List ℕ) (cpu : CpuIndex)
        (A : Accepted t x (L.members n) i (f (L.members n)) (membership_at cpu n)) (lists' : ℕ → ThreadQueue)
        (row' : ℕ → ℕ) → lists' n ≡ A.list → ((m : ℕ) → m < list_count → m ≢ n → lists' m ≡ lists m)
        → ((m : ℕ) → m < list_count → m ≢ n → row i ≢ m)
        → ((j : ℕ) → has j (f (L.members n)) ≡ eqb (row' j) n)
        → ((j m : ℕ) → m < list_count → m ≢ n → eqb (row j) m ≡ eqb (row' j) m)
        → Lists lists' (placed n cpu cpus) (after x) row'
    unfolding relisted choose
    lists_after {x} f cpu A lists' row' e g apart here else = record {
      members = relisted n f L.members;
      holds = λ m c. holds_by m c (eqb m n) refl;
      exact = λ j m c. exact_by j m c (eqb m n) refl;
    }
      where
        holds_by : (m : ℕ) → m < list_count → (y : Bool) → eqb m n ≡ y
            → HoldsList (after x) (lists' m) (choose y (f (L.members m)) (L.members m))
            (membership_at (placed n cpu cpus m) m)
        holds_by m c true z = rw (eqb-true m n z, e, placed_same n cpu cpus) A.holds
        holds_by m c false z =
            rw (g m c (eqb-false m n z), placed_other n cpu cpus m (eqb-false m n z))
            (holds_frame (L.holds m c) (after x)
            (λ j h.
            let r = eqb-true (row j) m (sym (L.exact j m c) ∙ h) in
            (A.others j (L.exact j n b ∙ ne_eqb (row j) n (λ w. eqb-false m n z (sym r ∙ w)))
            (λ w. apart m c (eqb-false m n z) (ap row (sym w) ∙ r))).1))

        exact_by : (j m : ℕ) → m < list_count → (y : Bool) → eqb m n ≡ y
            → has j (choose y (f (L.members m)) (L.members m)) ≡ eqb (row' j) m
        exact_by j m c true z = rw (eqb-true m n z) (here j)
        exact_by j m c false z = L.exact j m c ∙ else j m c (eqb-false m n z)

    module _ {x : Out (Answer ThreadQueue)} (f : List ℕ → List ℕ) (cpu : CpuIndex)
        (A : Accepted t x (L.members n) i (f (L.members n)) (membership_at cpu n))
        (lists' : ℕ → ThreadQueue)
        (e : lists' n ≡ A.list) (g : (m : ℕ) → m < list_count → m ≢ n → lists' m ≡ lists m)
        (s : (j : ℕ) → j ≢ i → has j (f (L.members n)) ≡ has j (L.members n)) where
      -- A thread that stood in no list stands in list n.
      unfoldable pub list_joined : list_count ≤ row i → has i (f (L.members n)) ≡ true
          → Lists lists' (placed n cpu cpus) (after x) (placed i n row)
      list_joined o h = lists_after f cpu A lists' (placed i n row) e g (λ m c d z. omega arith)
          (joined_here list_count i n row b (λ j. has j (L.members n)) (λ j. has j (f (L.members n)))
          (λ j. L.exact j n b) s h)
          (λ j m c d. joined_else list_count i n row j m c d o)

      -- A thread that stood in list n stands in none.
      unfoldable pub list_left : row i ≡ n → has i (f (L.members n)) ≡ false
          → Lists lists' (placed n cpu cpus) (after x) (placed i list_count row)
      list_left o h = lists_after f cpu A lists' (placed i list_count row) e g (λ m c d z. d (sym z ∙ o))
          (left_here list_count i n row b (λ j. has j (L.members n)) (λ j. has j (f (L.members n)))
          (λ j. L.exact j n b) s h)
          (λ j m c d. left_else list_count i n row j m c d o)

-- Threads that are linked are read from the first on.
read_linked : (n : ℕ) (t : List ThreadRecord) (m : QueueMembership) (p : Option ℕ) (l : List ℕ) → length l ≤ n
    → Linked (queue_links_at t) m p l None → threads_from n t (first_or l None) ≡ l
unfolding threads_from on_link on_queue_links
read_linked zero t m p [] b h = refl
read_linked zero t m p (i ∷ l) b h = absurd (omega arith)
read_linked (suc n) t m p [] b h = refl
read_linked (suc n) t m p (i ∷ l) b h =
    rw h.here (ap (λ (s : List ℕ). i ∷ s) (read_linked n t m (Some i) l (omega arith) h.rest))

-- What one reads of a list is what it holds.
pub list_read : {t : List ThreadRecord} {q : ThreadQueue} {members : List ℕ} {m : QueueMembership}
    → HoldsList t q members m → threads_of t q ≡ members
list_read {t} {q} {members} {m} H = rw H.head (read_linked (length t) t m None members few H.linked)
  where
    few : length members ≤ length t
    few =
        let a = length_counts (length t) members H.distinct (member_below H) in
        let b = count_most (length t) (λ j. has j members) in
        omega arith

-- Who is in a sequence with one added at the back or at the front, or with one taken out.
module _ (i : ℕ) (l : List ℕ) where
  pub back_same : (j : ℕ) → j ≢ i → has j (l ++ i ∷ []) ≡ has j l
  back_same j e = has_append j l (i ∷ []) ∙ rw (ne_eqb j i e) (or_nothing (has j l))
    where
      or_nothing : (x : Bool) → x || false ≡ x
      or_nothing true = refl
      or_nothing false = refl

  pub back_here : has i (l ++ i ∷ []) ≡ true
  back_here = has_append i l (i ∷ []) ∙ or_right (has i l) (has i (i ∷ [])) (rw (eq-eqb i i refl))

  pub front_same : (j : ℕ) → j ≢ i → has j (i ∷ l) ≡ has j l
  front_same j e = rw (ne_eqb j i e)

  pub without_same : (j : ℕ) → j ≢ i → has j (without i l) ≡ has j l
  unfolding choose
  without_same j e = has_without j i l ∙ rw (ne_eqb j i e)

  pub without_here : has i (without i l) ≡ false
  unfolding choose
  without_here = has_without i i l ∙ rw (eq-eqb i i refl)
