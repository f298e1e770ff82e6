-- What each store does to the records' list links, and that it does nothing else. Every store is one record put through
-- a function that changes its list links alone.
use Rattle.std.specs.Prelude.{ℕ, zero, suc, ◌<◌, ◌≡◌, Bool, ◌≢◌, List, [], ◌∷◌, map, get_or, set, Option, Some, None}
use Rattle.std.specs.Prelude.{Ok, Err, Result}
use Rattle.refusal.specs.declared.Damaged.{Damaged}
use Rattle.refusal.specs.Answer.{damage}
use Rattle.std.proofs.Math.Path.{refl}
use Rattle.std.proofs.Common.{sym, ap, ◌∙◌, ltb-true, ltb-false}
use Rattle.std.proofs.Math.Bool.{true, false}
use Rattle.std.proofs.Math.Dec.{ltb}
use Rattle.std.proofs.Math.ListN.{length}
use Rattle.thread.specs.declared.QueueLinks.{QueueLinks}
use Rattle.thread.specs.declared.ThreadRecord.{ThreadRecord}
use Rattle.thread.specs.Membership.{empty_queue_links}
use Rattle.thread.specs.Records.{with_queue_links}
use Rattle.codec.specs.Codec.{decoded}
use Rattle.rows.specs.Table.{after, record_of, changed, record_at, queue_links_at, set_queue_links}
use Rattle.rows.specs.TableCases.{on_queue_links}
use Rattle.rows.specs.TableLaws.{after_set_queue_links, changed_beyond, reading_same, reading_other}
use Rattle.rows.specs.TableLaws.{queue_links_within, queue_links_beyond, queue_links_got_within, length_changed}
use Rattle.lists.specs.Lists.{set_next, set_previous, commit_insert, commit_remove}
use Rattle.sound_lists.specs.Sound.{without_lists}
use Rattle.sound_lists.specs.Stores.{next_is, previous_is, relinked, relinked_at}

-- Two reads that are the same read the same links.
pub same_read : (x y : QueueLinks) → ◌≡◌ {A = Result QueueLinks Damaged} (Ok x) (Ok y) → x ≡ y
same_read x y e = cc

module _ (t : List ThreadRecord) (i : ℕ) (g : QueueLinks → QueueLinks) where
  pub links_relinked_same : {l : QueueLinks} → queue_links_at t i ≡ Ok l
      → queue_links_at (changed t i (relinked g)) i ≡ Ok (g l)
  unfolding queue_links_at
  links_relinked_same {l} e =
      let h : i < length t = queue_links_got_within t i e in
      let k : (record_of t i).queue_links ≡ l = same_read (record_of t i).queue_links l
      (sym (queue_links_within t i h) ∙ e) in
      reading_same t i (relinked g) (λ (r : ThreadRecord). Ok r.queue_links) (Err damage)
      h ∙ rw k

  pub links_relinked_other : (j : ℕ) → j ≢ i → queue_links_at (changed t i (relinked g)) j ≡ queue_links_at t j
  unfolding queue_links_at
  links_relinked_other j h =
      reading_other t i (relinked g) (λ (r : ThreadRecord). Ok r.queue_links) (Err damage)
      j h

  pub record_relinked_other : (j : ℕ) → j ≢ i → record_at (changed t i (relinked g)) j ≡ record_at t j
  unfolding record_at
  record_relinked_other j h = reading_other t i (relinked g) (λ (r : ThreadRecord). Ok r) (Err damage) j h

-- The rest of every record stays as it was.
rest_set : (t : List ThreadRecord) (i : ℕ) (l : QueueLinks) (d : ThreadRecord)
    → map (with_queue_links empty_queue_links) (set t i (with_queue_links l (get_or t i d)))
    ≡ map (with_queue_links empty_queue_links) t
rest_set [] i l d = refl
rest_set (r ∷ t) zero l d = refl
rest_set (r ∷ t) (suc i) l d = ap (λ (s : List ThreadRecord). with_queue_links empty_queue_links r ∷ s)
    (rest_set t i l d)

pub rest_relinked : (t : List ThreadRecord) (i : ℕ) (g : QueueLinks → QueueLinks)
    → without_lists (changed t i (relinked g)) ≡ without_lists t
unfolding without_lists changed record_of
rest_relinked t i g = rest_set t i (g (get_or t i (decoded [])).queue_links) (decoded [])

-- The stores of the lists are such changes.
module _ (t : List ThreadRecord) (i : ℕ) where
  set_queue_links_is : (g : QueueLinks → QueueLinks)
      → after (set_queue_links t i (g (record_of t i).queue_links)) ≡ changed t i (relinked g)
  unfolding changed
  set_queue_links_is g = after_set_queue_links t i (g (record_of t i).queue_links)

  by_links : (g : QueueLinks → QueueLinks)
      → on_queue_links (queue_links_at t i) t (λ (l : QueueLinks). after (set_queue_links t i (g l)))
      ≡ changed t i (relinked g)
  unfolding on_queue_links
  by_links g = go (ltb i (length t)) refl
    where
      go : (b : Bool) → ltb i (length t) ≡ b
          → on_queue_links (queue_links_at t i) t (λ (l : QueueLinks). after (set_queue_links t i (g l)))
          ≡ changed t i (relinked g)
      go true e = rw (queue_links_within t i (ltb-true i (length t) e)) (set_queue_links_is g)
      go false e =
          rw (queue_links_beyond t i (ltb-false i (length t) e))
          (sym (changed_beyond t i (relinked g) (ltb-false i (length t) e)))

  pub set_next_is : (n : Option ℕ) → set_next t i n ≡ changed t i (relinked (next_is n))
  unfolding set_next
  set_next_is n = by_links (next_is n)

  pub set_previous_is : (p : Option ℕ) → set_previous t i p ≡ changed t i (relinked (previous_is p))
  unfolding set_previous
  set_previous_is p = by_links (previous_is p)

  pub commit_insert_is : (l : QueueLinks) → commit_insert t i l ≡ changed t i (relinked (λ (k : QueueLinks). l))
  unfolding commit_insert
  commit_insert_is l = set_queue_links_is (λ (k : QueueLinks). l)

  pub commit_remove_is : commit_remove t i ≡ changed t i (relinked (λ (k : QueueLinks). empty_queue_links))
  unfolding commit_remove
  commit_remove_is = set_queue_links_is (λ (k : QueueLinks). empty_queue_links)

-- A store at a link.
module _ (t : List ThreadRecord) (x : Option ℕ) (g : QueueLinks → QueueLinks) where
  pub links_at_same : (j : ℕ) {l : QueueLinks} → x ≡ Some j → queue_links_at t j ≡ Ok l
      → queue_links_at (relinked_at t x g) j ≡ Ok (g l)
  unfolding relinked_at
  links_at_same j {l} e h = rw e (links_relinked_same t j g h)

  pub links_at_other : (j : ℕ) → x ≢ Some j → queue_links_at (relinked_at t x g) j ≡ queue_links_at t j
  unfolding relinked_at
  links_at_other j h = go x h
    where
      go : (x : Option ℕ) → x ≢ Some j → queue_links_at (relinked_at t x g) j ≡ queue_links_at t j
      go None h = refl
      go (Some i) h = links_relinked_other t i g j (λ z. h (ap Some (sym z)))

  pub record_at_other : (j : ℕ) → x ≢ Some j → record_at (relinked_at t x g) j ≡ record_at t j
  unfolding relinked_at
  record_at_other j h = go x h
    where
      go : (x : Option ℕ) → x ≢ Some j → record_at (relinked_at t x g) j ≡ record_at t j
      go None h = refl
      go (Some i) h = record_relinked_other t i g j (λ z. h (ap Some (sym z)))

  pub rest_at : without_lists (relinked_at t x g) ≡ without_lists t
  unfolding relinked_at
  rest_at = go x
    where
      go : (x : Option ℕ) → without_lists (relinked_at t x g) ≡ without_lists t
      go None = refl
      go (Some i) = rest_relinked t i g

  pub length_at : length (relinked_at t x g) ≡ length t
  unfolding relinked_at
  length_at = go x
    where
      go : (x : Option ℕ) → length (relinked_at t x g) ≡ length t
      go None = refl
      go (Some i) = length_changed t i (relinked g)
