-- On any table and any list: a call that is refused leaves the table as it was.
use Rattle.std.specs.Prelude.{ℕ, ◌-◌, refl, Bool, List, eqb, Result, Ok, Err}
use Rattle.std.proofs.Math.Bool.{true, false}
use Rattle.refusal.specs.Answer.{Answer, value, refused, damaged}
use Rattle.refusal.specs.Cases.{never, choose, if_equal}
use Rattle.thread.specs.declared.QueueLinks.{QueueLinks}
use Rattle.thread.specs.declared.QueueMembership.{QueueMembership}
use Rattle.thread.specs.declared.ThreadQueue.{ThreadQueue}
use Rattle.thread.specs.declared.ThreadRecord.{ThreadRecord}
use Rattle.thread.specs.Membership.{same_membership}
use Rattle.rows.specs.Table.{Out, out, queue_links_at}
use Rattle.rows.specs.TableCases.{on_queue_links}
use Rattle.lists.specs.Checks.{preflight_insert, validate_neighbors}
use Rattle.lists.specs.Lists.{on_answer, on_out, append, prepend, push, push_front, unlink, remove}
use Rattle.sound_lists.specs.Sound.{KeptIfRefused}
use Rattle.refusal.specs.declared.Damaged.{Damaged}

module _ (t : List ThreadRecord) where
  kept_refused : (k : ℕ) → KeptIfRefused t (out (refused k) t)
  kept_refused k n e = refl

  -- What was stored was not refused.
  kept_stored : (x : Out ThreadQueue) → KeptIfRefused t (on_out x (λ s t₁. out (value s) t₁))
  unfolding on_out
  kept_stored (out s t₁) n e = never cc

  kept_answer : (x : Answer ℕ) (f : ℕ → Out ThreadQueue)
      → KeptIfRefused t (on_answer x (λ n. out (refused n) t) (λ n. on_out (f n) (λ s t₁. out (value s) t₁)))
  unfolding on_answer
  kept_answer (value n) f = kept_stored (f n)
  kept_answer (refused k) f = kept_refused k

  kept_choice : (b : Bool) (x y : Out (Answer ThreadQueue)) → KeptIfRefused t x → KeptIfRefused t y
      → KeptIfRefused t (choose b x y)
  unfolding choose
  kept_choice true x y p q = p
  kept_choice false x y p q = q

  kept_read : (x : Result QueueLinks Damaged) (f : QueueLinks → Out (Answer ThreadQueue))
      → ((l : QueueLinks) → KeptIfRefused t (f l)) → KeptIfRefused t (on_queue_links x (out (refused damaged) t) f)
  unfolding on_queue_links
  kept_read (Ok l) f h = h l
  kept_read (Err _) f h = kept_refused damaged

  module _ (q : ThreadQueue) (id : ℕ) (m : QueueMembership) where
    pub push_refused : KeptIfRefused t (push t q id m)
    unfolding push
    push_refused = kept_answer (preflight_insert t q id m) (append t q id m)

    pub push_front_refused : KeptIfRefused t (push_front t q id m)
    unfolding push_front
    push_front_refused = kept_answer (preflight_insert t q id m) (prepend t q id m)

    pub remove_refused : KeptIfRefused t (remove t q id m)
    unfolding remove if_equal
    remove_refused =
        kept_read (queue_links_at t id)
        (λ l. choose (same_membership l.membership m)
        (choose (eqb q.len 0) (out (refused damaged) t)
        (choose (validate_neighbors t q l id) (on_out (unlink t q l id (q.len - 1)) (λ s t₁. out (value s) t₁))
        (out (refused damaged) t)))
        (out (refused damaged) t))
        (λ l. kept_choice (same_membership l.membership m)
        (choose (eqb q.len 0) (out (refused damaged) t)
        (choose (validate_neighbors t q l id) (on_out (unlink t q l id (q.len - 1)) (λ s t₁. out (value s) t₁))
        (out (refused damaged) t)))
        (out (refused damaged) t)
        (kept_choice (eqb q.len 0) (out (refused damaged) t)
        (choose (validate_neighbors t q l id) (on_out (unlink t q l id (q.len - 1)) (λ s t₁. out (value s) t₁))
        (out (refused damaged) t))
        (kept_refused damaged)
        (kept_choice (validate_neighbors t q l id) (on_out (unlink t q l id (q.len - 1)) (λ s t₁. out (value s) t₁))
        (out (refused damaged) t)
        (kept_stored (unlink t q l id (q.len - 1))) (kept_refused damaged)))
        (kept_refused damaged))
