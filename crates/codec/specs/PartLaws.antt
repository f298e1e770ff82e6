-- Laws of links and memberships: the words that are stored for each variant stand for it.
use Rattle.std.specs.Prelude.{ℕ, ◌%◌, ◌≡◌, refl, Option, Some, None}
use Rattle.std.proofs.Math.Path.{sym}
use Rattle.refusal.specs.Cases.{choose, if_equal}
use Rattle.thread.specs.declared.CpuIndex.{CpuIndex}
use Rattle.thread.specs.declared.QueueMembership.{QueueMembership}
use Rattle.thread.specs.declared.QueueMembership.TheVariants as membership
use Rattle.codec.specs.Codec.{link_from, membership_from}

module _ {x : Option ℕ} where
  pub no_link_words : x ≡ None → link_from 0 0 ≡ x
  unfolding link_from if_equal choose
  no_link_words h = sym h

  pub some_link_words : {n : ℕ} → x ≡ Some n → link_from 1 n ≡ x
  unfolding link_from if_equal choose
  some_link_words h = sym h

module _ {x : QueueMembership} where
  pub unqueued_words : x ≡ membership.None → membership_from 0 0 0 ≡ x
  unfolding membership_from if_equal choose
  unqueued_words h = sym h

  pub real_time_words : {c : CpuIndex} {p : ℕ} (n m : ℕ) → n % 256 ≡ c.0 → m % 256 ≡ p
      → x ≡ membership.ReadyRealTime c p → membership_from 1 n m ≡ x
  unfolding membership_from if_equal choose
  real_time_words n m e f h = rw (h, e, f)

  pub ready_fair_words : {c : CpuIndex} (n : ℕ) → n % 256 ≡ c.0 → x ≡ membership.ReadyFair c → membership_from 2 n 0 ≡ x
  unfolding membership_from if_equal choose
  ready_fair_words n e h = rw (h, e)

  pub waiting_words : {q : ℕ} → x ≡ membership.Waiting q → membership_from 3 q 0 ≡ x
  unfolding membership_from if_equal choose
  waiting_words h = sym h

  pub terminated_words : x ≡ membership.Terminated → membership_from 4 0 0 ≡ x
  unfolding membership_from if_equal choose
  terminated_words h = sym h

pub ruleset parts = (
  no_link_words,
  some_link_words,
  unqueued_words,
  real_time_words,
  ready_fair_words,
  waiting_words,
  terminated_words,
)
