-- The calls on a list by itself that is in order: on up to 4,096 records, with a number of the table, they do what the
-- queue's forms do (what is refused before that is in specs/Calls.antt).
use Rattle.std.specs.Prelude.{◌≡◌, List, [], ◌∷◌, ◌++◌, ℕ, ◌≤◌, length, Ok}
use Rattle.std.proofs.Common.{sym, subst}
use Rattle.std.proofs.Math.Bool.{true}
use Rattle.refusal.specs.Answer.{Answer}
use Rattle.thread.specs.declared.QueueMembership.{QueueMembership}
use Rattle.thread.specs.declared.ThreadQueue.{ThreadQueue}
use Rattle.thread.specs.declared.ThreadRecord.{ThreadRecord}
use Rattle.thread.specs.Membership.{empty_queue_links}
use Rattle.rows.specs.Table.{Out, after, queue_links_at, max_records}
use Rattle.lists.specs.Calls.{push_call, push_front_call, remove_call}
use Rattle.sound_lists.specs.Members.{has, without}
use Rattle.sound_lists.specs.Sound.{HoldsList, MayJoin, Accepted}
use Rattle.sound_lists.specs.Frame.{member_below}
use Rattle.sound_lists.proofs.Insertion.{push_holds, push_front_holds}
use Rattle.sound_lists.proofs.Removal.{remove_holds}
use Rattle.sound_lists.specs.Calls.{call_is}

-- On a table of up to 4,096 records with a sound list.
module _ {t : List ThreadRecord} {q : ThreadQueue} {members : List ℕ} {m : QueueMembership} (id : ℕ)
    (L : HoldsList t q members m) (n : length t ≤ max_records) where
  pub push_call_holds : MayJoin t q members id m → Accepted t (push_call t q id m) members id (members ++ id ∷ []) m
  push_call_holds J = subst (λ (x : Out (Answer ThreadQueue)). Accepted t x members id (members ++ id ∷ []) m)
      (sym (call_is t q id m n J.below).0) (push_holds id L J)

  pub push_front_call_holds : MayJoin t q members id m
      → Accepted t (push_front_call t q id m) members id (id ∷ members) m
  push_front_call_holds J = subst (λ (x : Out (Answer ThreadQueue)). Accepted t x members id (id ∷ members) m)
      (sym (call_is t q id m n J.below).1) (push_front_holds id L J)

  pub remove_call_holds : has id members ≡ true
      → Accepted t (remove_call t q id m) members id (without id members) m
      × (queue_links_at (after (remove_call t q id m)) id ≡ Ok empty_queue_links)
  remove_call_holds h = subst (λ (x : Out (Answer ThreadQueue)). Accepted t x members id (without id members) m
      × (queue_links_at (after x) id ≡ Ok empty_queue_links))
      (sym (call_is t q id m n (member_below L id h)).2) (remove_holds id L h)
