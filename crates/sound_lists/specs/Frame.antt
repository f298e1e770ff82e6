-- What is outside a list may change in any way, and a list with no thread holds the empty sequence.
use Rattle.std.specs.Prelude.{ℕ, ◌<◌, ◌≡◌, refl, true, false, List, [], ◌∷◌, length, Option, None, Ok, Err}
use Rattle.refusal.specs.Answer.{damage}
use Rattle.std.proofs.Common.{sym, ◌∙◌}
use Rattle.thread.specs.declared.QueueMembership.{QueueMembership}
use Rattle.thread.specs.declared.ThreadQueue.{ThreadQueue}
use Rattle.thread.specs.declared.ThreadRecord.{ThreadRecord}
use Rattle.thread.specs.Membership.{empty_queue, is_none}
use Rattle.thread.specs.MembershipLaws.{is_none_true}
use Rattle.rows.specs.Table.{queue_links_at, changed}
use Rattle.rows.specs.TableLaws.{reading_other, queue_links_got_within}
use Rattle.sound_lists.specs.Members.{has, first_or}
use Rattle.sound_lists.specs.MembersLaws.{apart, some_not_none}
use Rattle.sound_lists.specs.Sound.{HoldsList}
use Rattle.sound_lists.specs.LinkedLaws.{linked_frame, member_links}

-- An empty list holds the empty sequence, in any table.
pub empty_holds : (t : List ThreadRecord) (m : QueueMembership) → HoldsList t empty_queue [] m
empty_holds t m = record { head = refl; tail = refl; len = refl; linked = tt; distinct = tt }

module _ {t : List ThreadRecord} {q : ThreadQueue} {members : List ℕ} {m : QueueMembership}
    (L : HoldsList t q members m) where
  -- A list whose head is none holds no thread.
  pub no_head_no_thread : is_none q.head ≡ true → members ≡ []
  no_head_no_thread e = go members (sym L.head ∙ is_none_true q.head e)
    where
      go : (s : List ℕ) → first_or s None ≡ None → s ≡ []
      go [] z = refl
      go (i ∷ s) z = absurd (some_not_none i z)

  -- Each thread of a list is a record of the table.
  pub member_below : (j : ℕ) → has j members ≡ true → j < length t
  member_below j h =
      let l = member_links (queue_links_at t) m None members None j L.linked h in
      queue_links_got_within t j l.2

  -- Each thread of a list has the list's membership.
  pub member_of : (j : ℕ) → has j members ≡ true
      → (p : Option ℕ) × (n : Option ℕ) × (queue_links_at t j
      ≡ Ok (record { previous = p; next = n; membership = m }))
  member_of j h = member_links (queue_links_at t) m None members None j L.linked h

  -- A table in which the members' links are as they were holds the same list.
  pub holds_frame : (t' : List ThreadRecord)
      → ((j : ℕ) → has j members ≡ true → queue_links_at t' j ≡ queue_links_at t j)
      → HoldsList t' q members m
  holds_frame t' h = record {
    head = L.head;
    tail = L.tail;
    len = L.len;
    linked = linked_frame (queue_links_at t) (queue_links_at t') m None members None h L.linked;
    distinct = L.distinct;
  }

  -- A record that is not a member may change in any way.
  pub holds_outside : (id : ℕ) (f : ThreadRecord → ThreadRecord) → has id members ≡ false
      → HoldsList (changed t id f) q members m
  unfolding queue_links_at
  holds_outside id f o = holds_frame (changed t id f)
      (λ j h. reading_other t id f (λ (r : ThreadRecord). Ok r.queue_links) (Err damage) j
      (apart j id members h o))
