-- Laws of threads that are linked both ways: in two parts, with the same links, with another end.
use Rattle.std.specs.Prelude.{ℕ, ◌≡◌, refl, true, false, ◌≢◌, List, [], ◌∷◌, ◌++◌, eqb, Option, Some, None, Result, Ok}
use Rattle.std.proofs.Common.{sym, ◌∙◌, eqb-true}
use Rattle.thread.specs.declared.QueueLinks.{QueueLinks}
use Rattle.thread.specs.declared.QueueMembership.{QueueMembership}
use Rattle.sound_lists.specs.Members.{has, Distinct, first_or, last_or}
use Rattle.sound_lists.specs.MembersLaws.{has_first, has_rest, apart, not_both, first_append, last_has}
use Rattle.sound_lists.specs.MembersLaws.{some_not_none, or_cases}
use Rattle.sound_lists.specs.Sound.{Linked}
use Rattle.sound_lists.specs.Stores.{next_is, previous_is}
use Rattle.refusal.specs.declared.Damaged.{Damaged}

module _ (links : ℕ → Result QueueLinks Damaged) (m : QueueMembership) where
  pub linked_split : (p : Option ℕ) (a b : List ℕ) (e : Option ℕ) → Linked links m p (a ++ b) e
      → Linked links m p a (first_or b e) × Linked links m (last_or p a) b e
  linked_split p [] b e s = (tt, s)
  linked_split p (i ∷ a) b e s =
      let r = linked_split (Some i) a b e s.rest in
      (record { here = s.here ∙ rw (first_append a b e); rest = r.0 }, r.1)

  pub linked_join : (p : Option ℕ) (a b : List ℕ) (e : Option ℕ) → Linked links m p a (first_or b e)
      → Linked links m (last_or p a) b e → Linked links m p (a ++ b) e
  linked_join p [] b e s r = r
  linked_join p (i ∷ a) b e s r =
      record { here = s.here ∙ rw (first_append a b e); rest = linked_join (Some i) a b e s.rest r }

  -- The last thread's next is the end.
  pub last_links : (p : Option ℕ) (s : List ℕ) (e : Option ℕ) (j : ℕ) → Linked links m p s e → last_or None s ≡ Some j
      → (k : Option ℕ) × (links j ≡ Ok (record { previous = k; next = e; membership = m }))
  last_links p [] e j q y = absurd (some_not_none j (sym y))
  last_links p (i ∷ []) e j q y = let z : j ≡ i = cc in (p, rw z q.here)
  last_links p (i ∷ k ∷ s) e j q y = last_links (Some i) (k ∷ s) e j q.rest y

  -- Each thread has links with the list's membership.
  pub member_links : (p : Option ℕ) (s : List ℕ) (e : Option ℕ) (j : ℕ) → Linked links m p s e → has j s ≡ true
      → (k : Option ℕ) × (n : Option ℕ) × (links j ≡ Ok (record { previous = k; next = n; membership = m }))
  member_links p [] e j q h = not_both false h refl
  member_links p (i ∷ s) e j q h =
      or_cases (eqb j i) (has j s) h (λ z. (p, first_or s e, rw (eqb-true j i z) q.here))
      (λ z. member_links (Some i) s e j q.rest z)

module _ (links links' : ℕ → Result QueueLinks Damaged) (m : QueueMembership) where
  -- Threads whose links are as they were are linked as they were.
  pub linked_frame : (p : Option ℕ) (s : List ℕ) (e : Option ℕ) → ((j : ℕ) → has j s ≡ true → links' j ≡ links j)
      → Linked links m p s e → Linked links' m p s e
  linked_frame p [] e h q = tt
  linked_frame p (i ∷ s) e h q =
      record {
        here = h i (has_first i s) ∙ q.here;
        rest = linked_frame (Some i) s e (λ j z. h j (has_rest j i s z)) q.rest;
      }

  -- Another start: the first thread's previous is stored.
  pub linked_start : (p p' : Option ℕ) (s : List ℕ) (e : Option ℕ) → Distinct s
      → ((j : ℕ) → has j s ≡ true → first_or s None ≢ Some j → links' j ≡ links j)
      → ((j : ℕ) (l : QueueLinks) → first_or s None ≡ Some j → links j ≡ Ok l
      → links' j ≡ Ok (previous_is p' l))
      → Linked links m p s e → Linked links' m p' s e
  linked_start p p' [] e d f g q = tt
  linked_start p p' (i ∷ s) e d f g q = record {
    here = g i _ refl q.here;
    rest =
        linked_frame (Some i) s e
        (λ j z. f j (has_rest j i s z) (λ y. let w : j ≡ i = cc in apart j i s z d.first w)) q.rest;
  }

  -- Another end: the last thread's next is stored.
  pub linked_end : (p : Option ℕ) (s : List ℕ) (e e' : Option ℕ) → Distinct s
      → ((j : ℕ) → has j s ≡ true → last_or None s ≢ Some j → links' j ≡ links j)
      → ((j : ℕ) (l : QueueLinks) → last_or None s ≡ Some j → links j ≡ Ok l
      → links' j ≡ Ok (next_is e' l))
      → Linked links m p s e → Linked links' m p s e'
  linked_end p [] e e' d f g q = tt
  linked_end p (i ∷ []) e e' d f g q = record { here = g i _ refl q.here; rest = tt }
  linked_end p (i ∷ k ∷ s) e e' d f g q = record {
    here = f i (has_first i (k ∷ s)) (λ y. not_both (has i (k ∷ s)) (last_has k s i y) d.first) ∙ q.here;
    rest = linked_end (Some i) (k ∷ s) e e' d.rest (λ j z y. f j (has_rest j i (k ∷ s) z) y) g q.rest;
  }
