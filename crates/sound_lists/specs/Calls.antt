-- The calls on a list by itself, on any table: what is refused before the queue's forms changes nothing, and every
-- other call is the queue's form of it. What they do to a list that is in order is in proofs/Calls.antt.
use Rattle.std.specs.Prelude.{◌≡◌, Bool, List, ℕ, ◌≤◌, ◌<◌, ltb, length}
use Rattle.std.proofs.Math.Path.{refl}
use Rattle.std.proofs.Math.Bool.{true, false}
use Rattle.refusal.specs.Answer.{Answer, bad_table, no_thread}
use Rattle.refusal.specs.Cases.{choose, if_less}
use Rattle.thread.specs.declared.QueueMembership.{QueueMembership}
use Rattle.thread.specs.declared.ThreadQueue.{ThreadQueue}
use Rattle.thread.specs.declared.ThreadRecord.{ThreadRecord}
use Rattle.rows.specs.Table.{Out, max_records}
use Rattle.rows.specs.Asked.{asked_table, asked, unchanged}
use Rattle.rows.specs.AskedLaws.{asked_many, asked_outside, asked_within}
use Rattle.lists.specs.Lists.{push, push_front, remove}
use Rattle.lists.specs.Calls.{push_call, push_front_call, remove_call}
use Rattle.sound_lists.specs.Sound.{KeptIfRefused}
use Rattle.sound_lists.specs.Refusals.{push_refused, push_front_refused, remove_refused}

-- On any table and list, sound or not.
module _ (t : List ThreadRecord) (q : ThreadQueue) (id : ℕ) (m : QueueMembership) where
  -- More than 4,096 records are BadTable, whatever the number is, and nothing changes.
  pub many_refused : max_records < length t
      → (push_call t q id m ≡ unchanged t bad_table) × (push_front_call t q id m ≡ unchanged t bad_table)
      × (remove_call t q id m ≡ unchanged t bad_table)
  unfolding push_call push_front_call remove_call
  many_refused h = (
    asked_many t id (unchanged t) (push t q id m) h,
    asked_many t id (unchanged t) (push_front t q id m) h,
    asked_many t id (unchanged t) (remove t q id m) h,
  )

  -- Then a number outside of the table is NoThread, and nothing changes.
  pub outside_refused : length t ≤ max_records → length t ≤ id
      → (push_call t q id m ≡ unchanged t no_thread) × (push_front_call t q id m ≡ unchanged t no_thread)
      × (remove_call t q id m ≡ unchanged t no_thread)
  unfolding push_call push_front_call remove_call
  outside_refused n h = (
    asked_outside t id (unchanged t) (push t q id m) n h,
    asked_outside t id (unchanged t) (push_front t q id m) n h,
    asked_outside t id (unchanged t) (remove t q id m) n h,
  )

  -- Every other call is the queue's form of it.
  pub call_is : length t ≤ max_records → id < length t
      → (push_call t q id m ≡ push t q id m) × (push_front_call t q id m ≡ push_front t q id m)
      × (remove_call t q id m ≡ remove t q id m)
  unfolding push_call push_front_call remove_call
  call_is n h = (
    asked_within t id (unchanged t) (push t q id m) n h,
    asked_within t id (unchanged t) (push_front t q id m) n h,
    asked_within t id (unchanged t) (remove t q id m) n h,
  )

  asked_kept : (x : Out (Answer ThreadQueue)) → KeptIfRefused t x → KeptIfRefused t (asked t id (unchanged t) x)
  unfolding asked asked_table if_less choose
  asked_kept x k = go (ltb max_records (length t)) (ltb id (length t))
    where
      go : (many below : Bool)
          → KeptIfRefused t (choose many (unchanged t bad_table) (choose below x (unchanged t no_thread)))
      go true below = λ n e. refl
      go false true = k
      go false false = λ n e. refl

  -- A call that is refused, by whichever number, leaves the table as it was.
  pub call_refused : KeptIfRefused t (push_call t q id m) × KeptIfRefused t (push_front_call t q id m)
      × KeptIfRefused t (remove_call t q id m)
  unfolding push_call push_front_call remove_call
  call_refused = (
    asked_kept (push t q id m) (push_refused t q id m),
    asked_kept (push_front t q id m) (push_front_refused t q id m),
    asked_kept (remove t q id m) (remove_refused t q id m),
  )
