-- remove on a sound list: a thread of it is accepted, wherever it stands, and the list holds the others in the same
-- order.
use Rattle.std.specs.Prelude.{ℕ, ◌-◌, ◌≡◌, refl, true, false, ◌||◌, ◌≢◌, eqb, Option, Some, None, Ok}
use Rattle.std.proofs.Common.{arith, sym, ap, ◌∙◌, subst}
use mathlib.Core.List.{List, [], ◌∷◌, ◌++◌}
use borrow.Author.Tests.{ne_eqb}
use Rattle.refusal.specs.Answer.{value}
use Rattle.refusal.specs.Cases.{choose, if_equal}
use Rattle.thread.specs.declared.QueueLinks.{QueueLinks}
use Rattle.thread.specs.declared.QueueMembership.{QueueMembership}
use Rattle.thread.specs.declared.ThreadQueue.{ThreadQueue}
use Rattle.thread.specs.declared.ThreadRecord.{ThreadRecord}
use Rattle.thread.specs.Membership.{on_link, empty_queue_links}
use Rattle.thread.specs.MembershipLaws.{points_to_self, same_membership_self}
use Rattle.rows.specs.Table.{out, after, changed, record_at, queue_links_at}
use Rattle.rows.specs.TableCases.{on_queue_links}
use Rattle.lists.specs.Checks.{previous_valid, next_valid, validate_neighbors}
use Rattle.lists.specs.Lists.{on_out, update_previous_link, update_next_link, unlink, remove}
use Rattle.sound_lists.specs.Members.{has, first_or, last_or, without}
use Rattle.sound_lists.specs.MembersLaws.{apart, not_both, or_neither, has_append, last_some, last_member}
use Rattle.sound_lists.specs.MembersLaws.{first_member, last_append, split_at, Parts, parts, without_parts}
use Rattle.sound_lists.specs.MembersLaws.{length_parts}
use Rattle.sound_lists.specs.Sound.{Linked, HoldsList, Accepted}
use Rattle.sound_lists.specs.Stores.{next_is, previous_is, relinked, relinked_at}
use Rattle.sound_lists.specs.StoreLaws.{set_next_is, set_previous_is, commit_remove_is, links_relinked_same}
use Rattle.sound_lists.specs.StoreLaws.{links_relinked_other, record_relinked_other, rest_relinked}
use Rattle.sound_lists.specs.StoreLaws.{links_at_same, links_at_other, record_at_other, rest_at}
use Rattle.sound_lists.specs.LinkedLaws.{linked_split, linked_join, linked_start, linked_end, last_links}
use Rattle.sound_lists.specs.AcceptedLaws.{accepted_by}

-- The table once the two neighbours p and n go past the thread.
abbrev passed_over : List ThreadRecord → Option ℕ → Option ℕ → List ThreadRecord
passed_over t p n = relinked_at (relinked_at t p (next_is n)) n (previous_is p)

abbrev removed_table : List ThreadRecord → Option ℕ → Option ℕ → ℕ → List ThreadRecord
removed_table t p n id = changed (passed_over t p n) id (relinked (λ (k : QueueLinks). empty_queue_links))

abbrev removed_list : Option ℕ → Option ℕ → Option ℕ → Option ℕ → ℕ → ThreadQueue
removed_list h x p n k = record { head = on_link p n (λ i. h); tail = on_link n p (λ i. x); len = k }

unlink_is : (t : List ThreadRecord) (h x : Option ℕ) (old : ℕ) (p n : Option ℕ) (m : QueueMembership) (id k : ℕ)
    → unlink t (record { head = h; tail = x; len = old }) (record { previous = p; next = n; membership = m }) id k
    ≡ out (removed_list h x p n k) (removed_table t p n id)
unfolding unlink update_previous_link update_next_link on_link on_out relinked_at
unlink_is t h x old None None m id k = rw (commit_remove_is t id)
unlink_is t h x old None (Some j) m id k =
    rw (set_previous_is t j None, commit_remove_is (changed t j (relinked (previous_is None))) id)
unlink_is t h x old (Some i) None m id k =
    rw (set_next_is t i None, commit_remove_is (changed t i (relinked (next_is None))) id)
unlink_is t h x old (Some i) (Some j) m id k =
    rw (
      set_next_is t i (Some j),
      set_previous_is (changed t i (relinked (next_is (Some j)))) j (Some i),
      commit_remove_is (changed (changed t i (relinked (next_is (Some j)))) j
          (relinked (previous_is (Some i)))) id,
    )

-- The ends after the removal.
first_after : (a : List ℕ) (id : ℕ) (b : List ℕ) (h : Option ℕ) → h ≡ first_or (a ++ id ∷ b) None
    → on_link (last_or None a) (first_or b None) (λ i. h) ≡ first_or (a ++ b) None
unfolding on_link
first_after [] id b h e = refl
first_after (k ∷ a) id b h e = let y = last_some k a in rw y.1 e

last_after : (a : List ℕ) (id : ℕ) (b : List ℕ) (x : Option ℕ) → x ≡ last_or None (a ++ id ∷ b)
    → on_link (first_or b None) (last_or None a) (λ i. x) ≡ last_or None (a ++ b)
unfolding on_link
last_after a id [] x e = sym (last_append None a [])
last_after a id (k ∷ b) x e = e ∙ last_append None a (id ∷ k ∷ b) ∙ sym (last_append None a (k ∷ b))

-- Both neighbours, or the list's ends, point to the thread.
module _ (t : List ThreadRecord) (m : QueueMembership) (h x : Option ℕ) (old id : ℕ) where
  previous_points : (a b : List ℕ) (n : Option ℕ) → h ≡ first_or (a ++ id ∷ b) None
      → Linked (queue_links_at t) m None a (Some id)
      → previous_valid t (record { head = h; tail = x; len = old })
      (record { previous = last_or None a; next = n; membership = m }) id ≡ true
  unfolding previous_valid on_link on_queue_links
  previous_points [] b n e l = rw e (points_to_self id)
  previous_points (k ∷ a) b n e l =
      let y = last_some k a in
      rw (y.1, (last_links (queue_links_at t) m None (k ∷ a) (Some id) y.0 l y.1).1) (points_to_self id)

  next_points : (a b : List ℕ) (p : Option ℕ) → x ≡ last_or None (a ++ id ∷ b)
      → Linked (queue_links_at t) m (Some id) b None
      → next_valid t (record { head = h; tail = x; len = old })
      (record { previous = p; next = first_or b None; membership = m }) id ≡ true
  unfolding next_valid on_link on_queue_links
  next_points a [] p e l = rw (e ∙ last_append None a (id ∷ [])) (points_to_self id)
  next_points a (k ∷ b) p e l = rw l.here (points_to_self id)

module _ {t : List ThreadRecord} {q : ThreadQueue} {m : QueueMembership} (a : List ℕ) (id : ℕ) (b : List ℕ)
    (L : HoldsList t q (a ++ id ∷ b) m) where
  sides : Linked (queue_links_at t) m None a (Some id)
      × Linked (queue_links_at t) m (last_or None a) (id ∷ b) None
  sides = linked_split (queue_links_at t) m None a (id ∷ b) None L.linked

  valid : validate_neighbors t q (record {
    previous = last_or None a;
    next = first_or b None;
    membership = m;
  })
      id ≡ true
  unfolding validate_neighbors choose
  valid =
      rw (previous_points t m q.head q.tail q.len id a b (first_or b None) L.head sides.0)
      (next_points t m q.head q.tail q.len id a b (last_or None a) L.tail sides.1.rest)

  remove_is : remove t q id m
      ≡ out (value (removed_list q.head q.tail (last_or None a) (first_or b None) (q.len - 1)))
      (removed_table t (last_or None a) (first_or b None) id)
  unfolding remove on_queue_links choose if_equal on_out
  remove_is =
      rw (
        sides.1.here,
        same_membership_self m,
        ne_eqb q.len 0 (λ z. let n = L.len in let k = length_parts id a b in omega arith),
        valid,
        unlink_is t q.head q.tail q.len (last_or None a) (first_or b None) m id (q.len - 1),
      )

  not_last : (j : ℕ) → has j a ≡ false → last_or None a ≢ Some j
  not_last j o y = not_both (has j a) (last_member a j y) o

  not_first : (j : ℕ) → has j b ≡ false → first_or b None ≢ Some j
  not_first j o y = not_both (has j b) (first_member b j y) o

  removed_linked : Linked (queue_links_at (removed_table t (last_or None a) (first_or b None) id)) m None
      (a ++ b) None
  removed_linked =
      let p = last_or None a in
      let n = first_or b None in
      let P = parts a id b L.distinct in
      let u = relinked_at t p (next_is n) in
      let v = passed_over t p n in
      let g : QueueLinks → QueueLinks = λ k. empty_queue_links in
      linked_join (queue_links_at (removed_table t p n id)) m None a b None
      (linked_end (queue_links_at t) (queue_links_at (removed_table t p n id)) m None a (Some id) n P.left
      (λ j z y. links_relinked_other v id g j (apart j id a z P.not_left)
      ∙ links_at_other u n (previous_is p) j (not_first j (P.across j z)) ∙ links_at_other t p (next_is n) j y)
      (λ j l y e. links_relinked_other v id g j (apart j id a (last_member a j y) P.not_left)
      ∙ links_at_other u n (previous_is p) j (not_first j (P.across j (last_member a j y)))
      ∙ links_at_same t p (next_is n) j y e)
      sides.0)
      (linked_start (queue_links_at t) (queue_links_at (removed_table t p n id)) m (Some id) p b None P.right
      (λ j z y. links_relinked_other v id g j (apart j id b z P.not_right) ∙ links_at_other u n (previous_is p) j y
      ∙ links_at_other t p (next_is n) j (apart_left P j z))
      (λ j l y e. links_relinked_other v id g j (apart j id b (first_member b j y) P.not_right)
      ∙ links_at_same u n (previous_is p) j y
      (links_at_other t p (next_is n) j (apart_left P j (first_member b j y)) ∙ e))
      sides.1.rest)
    where
      apart_left : Parts a id b → (j : ℕ) → has j b ≡ true → last_or None a ≢ Some j
      apart_left P j z y = not_both (has j b) z (P.across j (last_member a j y))

  -- The removed record is in no list and has no neighbours.
  removed_empty : queue_links_at (removed_table t (last_or None a) (first_or b None) id) id
      ≡ Ok empty_queue_links
  removed_empty =
      let p = last_or None a in
      let n = first_or b None in
      let P = parts a id b L.distinct in
      let g : QueueLinks → QueueLinks = λ k. empty_queue_links in
      links_relinked_same (passed_over t p n) id g
      (links_at_other (relinked_at t p (next_is n)) n (previous_is p) id (not_first id P.not_right)
      ∙ links_at_other t p (next_is n) id (not_last id P.not_left) ∙ sides.1.here)

  removed_others : (j : ℕ) → has j (a ++ id ∷ b) ≡ false → j ≢ id
      → (record_at (removed_table t (last_or None a) (first_or b None) id) j ≡ record_at t j)
      × (queue_links_at (removed_table t (last_or None a) (first_or b None) id) j ≡ queue_links_at t j)
  removed_others j o d =
      let p = last_or None a in
      let n = first_or b None in
      let w = or_neither (has j a) (eqb j id || has j b) (sym (has_append j a (id ∷ b)) ∙ o) in
      let z = or_neither (eqb j id) (has j b) w.1 in
      let g : QueueLinks → QueueLinks = λ k. empty_queue_links in (
        record_relinked_other (passed_over t p n) id g j d
            ∙ record_at_other (relinked_at t p (next_is n)) n (previous_is p) j (not_first j z.1)
            ∙ record_at_other t p (next_is n) j (not_last j w.0),
        links_relinked_other (passed_over t p n) id g j d
            ∙ links_at_other (relinked_at t p (next_is n)) n (previous_is p) j (not_first j z.1)
            ∙ links_at_other t p (next_is n) j (not_last j w.0),
      )

  removed_holds : HoldsList (removed_table t (last_or None a) (first_or b None) id)
      (removed_list q.head q.tail (last_or None a) (first_or b None) (q.len - 1)) (a ++ b) m
  removed_holds = record {
    head = first_after a id b q.head L.head;
    tail = last_after a id b q.tail L.tail;
    len = let n = L.len in let k = length_parts id a b in omega arith;
    linked = removed_linked;
    distinct = (parts a id b L.distinct).joined;
  }

  remove_parts : Accepted t (remove t q id m) (a ++ id ∷ b) id (a ++ b) m
      × (queue_links_at (after (remove t q id m)) id ≡ Ok empty_queue_links)
  remove_parts =
      let p = last_or None a in
      let n = first_or b None in
      let g : QueueLinks → QueueLinks = λ k. empty_queue_links in (
        accepted_by (removed_list q.head q.tail p n (q.len - 1)) (removed_table t p n id) remove_is removed_holds
            (rest_relinked (passed_over t p n) id g ∙ rest_at (relinked_at t p (next_is n)) n (previous_is p)
            ∙ rest_at t p (next_is n)) removed_others,
        ap (λ (u : List ThreadRecord). queue_links_at u id) (ap after remove_is) ∙ removed_empty,
      )

-- A thread of a sound list is accepted; the list then holds the others in order, and the thread's record is in no list.
pub remove_holds : {t : List ThreadRecord} {q : ThreadQueue} {members : List ℕ} {m : QueueMembership} (id : ℕ)
    → HoldsList t q members m → has id members ≡ true
    → Accepted t (remove t q id m) members id (without id members) m
    × (queue_links_at (after (remove t q id m)) id ≡ Ok empty_queue_links)
remove_holds {t} {q} {members} {m} id L h = let c = split_at id members h in go c.0 c.1 c.2
  where
    go : (a b : List ℕ) → members ≡ a ++ id ∷ b → Accepted t (remove t q id m) members id (without id members) m
        × (queue_links_at (after (remove t q id m)) id ≡ Ok empty_queue_links)
    go a b e =
        let K : HoldsList t q (a ++ id ∷ b) m = subst (λ (s : List ℕ). HoldsList t q s m) e L in
        let P = parts a id b K.distinct in
        let w : without id members ≡ a ++ b = ap (without id) e ∙ without_parts id a b P.not_left P.not_right in
        let R = remove_parts a id b K in (
          subst (λ (s : List ℕ). Accepted t (remove t q id m) s id (without id members) m) (sym e)
              (subst (λ (s : List ℕ). Accepted t (remove t q id m) (a ++ id ∷ b) id s m) (sym w) R.0),
          R.1,
        )
