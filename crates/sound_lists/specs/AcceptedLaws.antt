-- What the checks before a store find on a sound list, and how an accepted call comes to its conclusion.
use Rattle.std.specs.Prelude.{ℕ, suc, ◌+◌, ◌≡◌, true, false, ◌≢◌, length, Option, None, Ok}
use Rattle.std.proofs.Common.{arith, sym, ap, ◌∙◌, subst}
use mathlib.Core.List.{List, [], ◌∷◌}
use borrow.Author.Tests.{ne_eqb}
use Rattle.refusal.specs.Answer.{Answer, value}
use Rattle.refusal.specs.Cases.{choose, if_equal}
use Rattle.thread.specs.declared.QueueMembership.{QueueMembership}
use Rattle.thread.specs.declared.QueueMembership.TheVariants as membership
use Rattle.thread.specs.declared.ThreadQueue.{ThreadQueue}
use Rattle.thread.specs.declared.ThreadRecord.{ThreadRecord}
use Rattle.thread.specs.Membership.{on_link, on_membership, is_none, is_unqueued}
use Rattle.thread.specs.MembershipLaws.{same_membership_self}
use Rattle.rows.specs.Table.{Out, out, answer, after, record_at, queue_links_at}
use Rattle.rows.specs.TableCases.{on_queue_links, on_record}
use Rattle.rows.specs.TableLaws.{record_within}
use Rattle.lists.specs.Checks.{max_length, head_agrees, tail_agrees, ends_agree, preflight_insert}
use Rattle.sound_lists.specs.Members.{has, first_or, last_or}
use Rattle.sound_lists.specs.MembersLaws.{last_some}
use Rattle.sound_lists.specs.Sound.{Linked, HoldsList, MayJoin, Accepted, without_lists}
use Rattle.sound_lists.specs.LinkedLaws.{last_links}

-- A call that comes to a list and a table for which all is shown.
pub accepted_by : {t : List ThreadRecord} {x : Out (Answer ThreadQueue)} {members : List ℕ} {id : ℕ} {now : List ℕ}
    {m : QueueMembership} (list : ThreadQueue) (t' : List ThreadRecord)
    → x ≡ out (value list) t' → HoldsList t' list now m → without_lists t' ≡ without_lists t
    → ((j : ℕ) → has j members ≡ false → j ≢ id
    → (record_at t' j ≡ record_at t j) × (queue_links_at t' j ≡ queue_links_at t j))
    → Accepted t x members id now m
accepted_by {t} {x} {members} {id} {now} {m} list t' e h r o =
    let s : t' ≡ after x = sym (ap after e) in
    record {
      list = list;
      accepted = ap answer e;
      holds = subst (λ (u : List ThreadRecord). HoldsList u list now m) s h;
      rest = ap without_lists (sym s) ∙ r;
      others =
          λ j z n. (
            ap (λ (u : List ThreadRecord). record_at u j) (sym s) ∙ (o j z n).0,
            ap (λ (u : List ThreadRecord). queue_links_at u j) (sym s) ∙ (o j z n).1,
          );
    }

unqueued_holds : (x : QueueMembership) → x ≡ membership.None → is_unqueued x ≡ true
unfolding is_unqueued on_membership
unqueued_holds x e = rw e

module _ (t : List ThreadRecord) (m : QueueMembership) where
  head_agrees_lem : (k : ℕ) {n : Option ℕ}
      → queue_links_at t k ≡ Ok (record { previous = None; next = n; membership = m })
      → head_agrees t k m ≡ true
  unfolding head_agrees on_queue_links choose is_none on_link
  head_agrees_lem k e = rw (e, same_membership_self m)

  tail_agrees_lem : (k : ℕ) {p : Option ℕ}
      → queue_links_at t k ≡ Ok (record { previous = p; next = None; membership = m })
      → tail_agrees t k m ≡ true
  unfolding tail_agrees on_queue_links choose is_none on_link
  tail_agrees_lem k e = rw (e, same_membership_self m)

  ends_agree_lem : (h x : Option ℕ) (n : ℕ) (s : List ℕ) → h ≡ first_or s None → x ≡ last_or None s → n ≡ length s
      → Linked (queue_links_at t) m None s None
      → ends_agree t (record { head = h; tail = x; len = n }) m ≡ true
  unfolding ends_agree on_link if_equal choose
  ends_agree_lem h x n [] eh ex en q = rw (eh, ex, en)
  ends_agree_lem h x n (k ∷ s) eh ex en q =
      let y = last_some k s in
      rw (eh, ex, y.1, en, ne_eqb (suc (length s)) 0 (λ z. omega arith), head_agrees_lem k q.here)
      (tail_agrees_lem y.0 (last_links (queue_links_at t) m None (k ∷ s) None y.0 q y.1).1)

-- A thread that may join a sound list passes the checks.
pub preflight_passes : {t : List ThreadRecord} {q : ThreadQueue} {members : List ℕ} {m : QueueMembership} (id : ℕ)
    → HoldsList t q members m → MayJoin t q members id m
    → preflight_insert t q id m ≡ value (q.len + 1)
unfolding preflight_insert on_record choose if_equal
preflight_passes {t} {q} {members} {m} id L J =
    rw (
      record_within t id J.below,
      unqueued_holds _ J.unqueued,
      J.assigned,
      ne_eqb q.len max_length (λ z. let r = J.room in omega arith),
      ends_agree_lem t m q.head q.tail q.len members L.head L.tail L.len L.linked,
    )
