-- Several lists in one table, each with its own membership: they share no thread, and a call on one leaves the others
-- as they were.
use Rattle.std.specs.Prelude.{ℕ, ◌≡◌, refl, Bool, true, false, ◌≢◌, List, Ok, Result}
use Rattle.refusal.specs.declared.Damaged.{Damaged}
use Rattle.std.proofs.Common.{sym, ap, ◌∙◌}
use Rattle.refusal.specs.Answer.{Answer}
use Rattle.thread.specs.declared.QueueLinks.{QueueLinks}
use Rattle.thread.specs.declared.QueueMembership.{QueueMembership}
use Rattle.thread.specs.declared.ThreadQueue.{ThreadQueue}
use Rattle.thread.specs.declared.ThreadRecord.{ThreadRecord}
use Rattle.rows.specs.Table.{Out, after, record_of}
use Rattle.rows.specs.TableLaws.{queue_links_within}
use Rattle.sound_lists.specs.Members.{has}
use Rattle.sound_lists.specs.MembersLaws.{apart}
use Rattle.sound_lists.specs.Sound.{HoldsList, Accepted}
use Rattle.sound_lists.specs.StoreLaws.{same_read}
use Rattle.sound_lists.specs.Frame.{member_of, member_below, holds_frame}

-- A number of a sequence is in it or not.
outside_unless : (b : Bool) → (b ≡ true → ⊥) → b ≡ false
outside_unless true h = absurd (h refl)
outside_unless false h = refl

same_membership_lem : {x y : QueueLinks} → ◌≡◌ {A = Result QueueLinks Damaged} (Ok x) (Ok y)
    → x.membership ≡ y.membership
same_membership_lem {x} {y} e = ap (λ (l : QueueLinks). l.membership) (same_read x y e)

module _ {t : List ThreadRecord} {q : ThreadQueue} {members : List ℕ} {m : QueueMembership}
    (L : HoldsList t q members m) where
  -- Two lists of different membership share no thread.
  pub lists_apart : {q' : ThreadQueue} {others : List ℕ} {k : QueueMembership} → HoldsList t q' others k → m ≢ k
      → (j : ℕ) → has j members ≡ true → has j others ≡ false
  lists_apart {q'} {others} {k} K d j h =
      outside_unless (has j others) (λ z. let a = member_of L j h in let b = member_of K j z in
      d (same_membership_lem (sym a.2 ∙ b.2)))

  -- A record whose membership is not the list's is not in it.
  pub record_apart : (id : ℕ) → (record_of t id).queue_links.membership ≢ m → has id members ≡ false
  record_apart id d =
      outside_unless (has id members)
      (λ z. let a = member_of L id z in
      d (same_membership_lem (sym (queue_links_within t id (member_below L id z)) ∙ a.2)))

  -- A call on a list that shares no thread with this one, and names none of it, leaves it as it was.
  pub other_list_holds : {x : Out (Answer ThreadQueue)} {others : List ℕ} {id : ℕ} {now : List ℕ} {k : QueueMembership}
      → Accepted t x others id now k → ((j : ℕ) → has j members ≡ true → has j others ≡ false) → has id members ≡ false
      → HoldsList (after x) q members m
  other_list_holds {x} {others} {id} A d o =
      holds_frame L (after x) (λ j h. (A.others j (d j h) (apart j id members h o)).1)
