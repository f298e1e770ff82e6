-- push and push_front on a sound list: accepted, and the list holds the earlier threads in order with the new one at
-- the named end.
use Rattle.std.specs.Prelude.{ℕ, ◌+◌, ◌≡◌, refl, false, ◌≢◌, List, [], ◌∷◌, ◌++◌, Option, Some, None, Ok}
use Rattle.std.proofs.Common.{arith, sym, ap, ◌∙◌, length-append}
use Rattle.refusal.specs.Answer.{value}
use Rattle.refusal.specs.Cases.{given}
use Rattle.thread.specs.declared.QueueLinks.{QueueLinks}
use Rattle.thread.specs.declared.QueueMembership.{QueueMembership}
use Rattle.thread.specs.declared.ThreadQueue.{ThreadQueue}
use Rattle.thread.specs.declared.ThreadRecord.{ThreadRecord}
use Rattle.thread.specs.Membership.{on_link}
use Rattle.rows.specs.Table.{out, changed, queue_links_at}
use Rattle.rows.specs.TableLaws.{queue_links_within}
use Rattle.lists.specs.Lists.{on_answer, on_out, append, prepend, push, push_front}
use Rattle.sound_lists.specs.Members.{has, first_or, last_or}
use Rattle.sound_lists.specs.MembersLaws.{apart, not_both, last_some, last_member, first_member, last_append}
use Rattle.sound_lists.specs.MembersLaws.{distinct_append}
use Rattle.sound_lists.specs.Sound.{Linked, HoldsList, MayJoin, Accepted}
use Rattle.sound_lists.specs.Stores.{next_is, previous_is, relinked, relinked_at}
use Rattle.sound_lists.specs.StoreLaws.{set_next_is, set_previous_is, commit_insert_is, links_relinked_same}
use Rattle.sound_lists.specs.StoreLaws.{links_relinked_other, record_relinked_other, rest_relinked}
use Rattle.sound_lists.specs.StoreLaws.{links_at_same, links_at_other, record_at_other, rest_at}
use Rattle.sound_lists.specs.LinkedLaws.{linked_join, linked_start, linked_end}
use Rattle.sound_lists.specs.AcceptedLaws.{accepted_by, preflight_passes}

-- The table after `push`: the old tail goes on to the thread, and the thread's own links are stored.
abbrev appended_table : List ThreadRecord → ThreadQueue → ℕ → QueueMembership → List ThreadRecord
appended_table t q id m = changed (relinked_at t q.tail (next_is (Some id))) id
    (relinked (λ (k : QueueLinks). record { previous = q.tail; next = None; membership = m }))

abbrev appended_list : ThreadQueue → ℕ → ℕ → ThreadQueue
appended_list q id n = record { head = on_link q.tail (Some id) (λ k. q.head); tail = Some id; len = n }

append_is : (t : List ThreadRecord) (h x : Option ℕ) (k id : ℕ) (m : QueueMembership) (n : ℕ)
    → append t (record { head = h; tail = x; len = k }) id m n
    ≡ out (appended_list (record { head = h; tail = x; len = k }) id n)
    (appended_table t (record { head = h; tail = x; len = k }) id m)
unfolding append on_link given relinked_at
append_is t h None k id m n =
    rw (commit_insert_is t id (record { previous = None; next = None; membership = m }))
append_is t h (Some i) k id m n =
    rw (
      set_next_is t i (Some id),
      commit_insert_is (changed t i (relinked (next_is (Some id)))) id
          (record { previous = Some i; next = None; membership = m }),
    )

-- The table after `push_front`: the old head goes back to the thread, and the thread's own links are stored.
abbrev prepended_table : List ThreadRecord → ThreadQueue → ℕ → QueueMembership → List ThreadRecord
prepended_table t q id m = changed (relinked_at t q.head (previous_is (Some id))) id
    (relinked (λ (k : QueueLinks). record { previous = None; next = q.head; membership = m }))

abbrev prepended_list : ThreadQueue → ℕ → ℕ → ThreadQueue
prepended_list q id n = record { head = Some id; tail = on_link q.head (Some id) (λ k. q.tail); len = n }

prepend_is : (t : List ThreadRecord) (h x : Option ℕ) (k id : ℕ) (m : QueueMembership) (n : ℕ)
    → prepend t (record { head = h; tail = x; len = k }) id m n
    ≡ out (prepended_list (record { head = h; tail = x; len = k }) id n)
    (prepended_table t (record { head = h; tail = x; len = k }) id m)
unfolding prepend on_link given relinked_at
prepend_is t None x k id m n =
    rw (commit_insert_is t id (record { previous = None; next = None; membership = m }))
prepend_is t (Some i) x k id m n =
    rw (
      set_previous_is t i (Some id),
      commit_insert_is (changed t i (relinked (previous_is (Some id)))) id
          (record { previous = None; next = Some i; membership = m }),
    )

-- The other end after the insertion.
first_after : (s : List ℕ) (h x : Option ℕ) (id : ℕ) → h ≡ first_or s None → x ≡ last_or None s
    → on_link x (Some id) (λ k. h) ≡ first_or (s ++ id ∷ []) None
unfolding on_link
first_after [] h x id eh ex = rw ex
first_after (k ∷ s) h x id eh ex = let y = last_some k s in rw (ex, y.1) eh

last_after : (s : List ℕ) (h x : Option ℕ) (id : ℕ) → h ≡ first_or s None → x ≡ last_or None s
    → on_link h (Some id) (λ k. x) ≡ last_or (Some id) s
unfolding on_link
last_after [] h x id eh ex = rw eh
last_after (k ∷ s) h x id eh ex = rw eh ex

module _ {t : List ThreadRecord} {q : ThreadQueue} {members : List ℕ} {m : QueueMembership} (id : ℕ)
    (L : HoldsList t q members m) (J : MayJoin t q members id m) where
  not_tail : (j : ℕ) → has j members ≡ false → q.tail ≢ Some j
  not_tail j o y = not_both (has j members) (last_member members j (sym L.tail ∙ y)) o

  not_head : (j : ℕ) → has j members ≡ false → q.head ≢ Some j
  not_head j o y = not_both (has j members) (first_member members j (sym L.head ∙ y)) o

  appended_linked : Linked (queue_links_at (appended_table t q id m)) m None (members ++ id ∷ []) None
  appended_linked =
      let u = relinked_at t q.tail (next_is (Some id)) in
      let g : QueueLinks → QueueLinks = λ k. record { previous = q.tail; next = None; membership = m } in
      linked_join (queue_links_at (appended_table t q id m)) m None members (id ∷ []) None
      (linked_end (queue_links_at t) (queue_links_at (appended_table t q id m)) m None members None
      (Some id)
      L.distinct
      (λ j z n. links_relinked_other u id g j (apart j id members z J.outside)
      ∙ links_at_other t q.tail (next_is (Some id)) j (λ y. n (sym L.tail ∙ y)))
      (λ j l y e. links_relinked_other u id g j (apart j id members (last_member members j y) J.outside)
      ∙ links_at_same t q.tail (next_is (Some id)) j (L.tail ∙ y) e)
      L.linked)
      (record {
        here =
            links_relinked_same u id g (links_at_other t q.tail (next_is (Some id)) id (not_tail id J.outside)
            ∙ queue_links_within t id J.below)
            ∙ ap (λ (p : Option ℕ). Ok
            (record { previous = p; next = None; membership = m })) L.tail;
        rest = tt;
      })

  prepended_linked : Linked (queue_links_at (prepended_table t q id m)) m None (id ∷ members) None
  prepended_linked =
      let u = relinked_at t q.head (previous_is (Some id)) in
      let g : QueueLinks → QueueLinks = λ k. record { previous = None; next = q.head; membership = m } in
      record {
        here = links_relinked_same u id g
            (links_at_other t q.head (previous_is (Some id)) id (not_head id J.outside)
            ∙ queue_links_within t id J.below)
            ∙ ap (λ (p : Option ℕ). Ok
            (record { previous = None; next = p; membership = m })) L.head;
        rest =
            linked_start (queue_links_at t) (queue_links_at (prepended_table t q id m)) m None
            (Some id) members None L.distinct
            (λ j z n. links_relinked_other u id g j (apart j id members z J.outside)
            ∙ links_at_other t q.head (previous_is (Some id)) j (λ y. n (sym L.head ∙ y)))
            (λ j l y e. links_relinked_other u id g j (apart j id members (first_member members j y) J.outside)
            ∙ links_at_same t q.head (previous_is (Some id)) j (L.head ∙ y) e)
            L.linked;
      }

  push_is : push t q id m ≡ out (value (appended_list q id (q.len + 1))) (appended_table t q id m)
  unfolding push on_answer on_out
  push_is = rw (preflight_passes id L J, append_is t q.head q.tail q.len id m (q.len + 1))

  push_front_is : push_front t q id m ≡ out (value (prepended_list q id (q.len + 1))) (prepended_table t q id m)
  unfolding push_front on_answer on_out
  push_front_is = rw (preflight_passes id L J, prepend_is t q.head q.tail q.len id m (q.len + 1))

  -- A thread that may join a sound list is accepted as its last.
  pub push_holds : Accepted t (push t q id m) members id (members ++ id ∷ []) m
  push_holds =
      let u = relinked_at t q.tail (next_is (Some id)) in
      let g : QueueLinks → QueueLinks = λ k. record { previous = q.tail; next = None; membership = m } in
      accepted_by (appended_list q id (q.len + 1)) (appended_table t q id m) push_is
      (record {
        head = first_after members q.head q.tail id L.head L.tail;
        tail = sym (last_append None members (id ∷ []));
        len = let k = length-append members (id ∷ []) in let n = L.len in omega arith;
        linked = appended_linked;
        distinct = distinct_append members id J.outside L.distinct;
      })
      (rest_relinked u id g ∙ rest_at t q.tail (next_is (Some id)))
      (λ j o n. (
        record_relinked_other u id g j n ∙ record_at_other t q.tail (next_is (Some id)) j (not_tail j o),
        links_relinked_other u id g j n ∙ links_at_other t q.tail (next_is (Some id)) j (not_tail j o),
      ))

  -- A thread that may join a sound list is accepted as its first.
  pub push_front_holds : Accepted t (push_front t q id m) members id (id ∷ members) m
  push_front_holds =
      let u = relinked_at t q.head (previous_is (Some id)) in
      let g : QueueLinks → QueueLinks = λ k. record { previous = None; next = q.head; membership = m } in
      accepted_by (prepended_list q id (q.len + 1)) (prepended_table t q id m) push_front_is
      (record {
        head = refl;
        tail = last_after members q.head q.tail id L.head L.tail;
        len = let n = L.len in omega arith;
        linked = prepended_linked;
        distinct = record { first = J.outside; rest = L.distinct };
      })
      (rest_relinked u id g ∙ rest_at t q.head (previous_is (Some id)))
      (λ j o n. (
        record_relinked_other u id g j n ∙ record_at_other t q.head (previous_is (Some id)) j (not_head j o),
        links_relinked_other u id g j n ∙ links_at_other t q.head (previous_is (Some id)) j (not_head j o),
      ))
