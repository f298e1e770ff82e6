-- Laws of links and memberships: going by which it is, and what a test that holds says.
use Rattle.std.specs.Prelude.{ℕ, ◌≡◌, refl, Bool, true, false, not, eqb, Option, Some, None, is_some}
use Rattle.std.proofs.Common.{sym, ap, ◌∙◌, eq-eqb, eqb-true}
use Rattle.refusal.specs.Cases.{never, choose, if_equal}
use Rattle.thread.specs.declared.CpuIndex.{CpuIndex}
use Rattle.thread.specs.declared.QueueMembership.{QueueMembership}
use Rattle.thread.specs.declared.QueueMembership.TheVariants as membership
use Rattle.thread.specs.Membership.{on_link, on_membership, on_cpu, is_none, points_to, is_unqueued, is_ready_real_time}
use Rattle.thread.specs.Membership.{is_ready_fair, is_waiting, is_terminated, same_membership}

module _ {A : Type 0} {y : A} {x : Option ℕ} (a : A) (f : ℕ → A) where
  pub no_link : x ≡ None → y ≡ a → y ≡ on_link x a f
  unfolding on_link
  no_link e h = rw e h

  pub some_link : {n : ℕ} → x ≡ Some n → y ≡ f n → y ≡ on_link x a f
  unfolding on_link
  some_link e h = rw e h

module _ {A : Type 0} {y : A} {x : QueueMembership} (a : A) (f : CpuIndex → ℕ → A) (g : CpuIndex → A) (w : ℕ → A)
    (d : A) where
  pub in_none_lem : x ≡ membership.None → y ≡ a → y ≡ on_membership x a f g w d
  unfolding on_membership
  in_none_lem e h = rw e h

  pub in_real_time : {c : CpuIndex} {p : ℕ} → x ≡ membership.ReadyRealTime c p → y ≡ f c p
      → y ≡ on_membership x a f g w d
  unfolding on_membership
  in_real_time e h = rw e h

  pub in_fair : {c : CpuIndex} → x ≡ membership.ReadyFair c → y ≡ g c → y ≡ on_membership x a f g w d
  unfolding on_membership
  in_fair e h = rw e h

  pub in_waiting : {q : ℕ} → x ≡ membership.Waiting q → y ≡ w q → y ≡ on_membership x a f g w d
  unfolding on_membership
  in_waiting e h = rw e h

  pub in_terminated : x ≡ membership.Terminated → y ≡ d → y ≡ on_membership x a f g w d
  unfolding on_membership
  in_terminated e h = rw e h

module _ {A : Type 0} {y : A} {r x : Option CpuIndex} (a : A) (f : CpuIndex → A) where
  pub no_cpu : r ≡ x → r ≡ None → y ≡ a → y ≡ on_cpu x a f
  unfolding on_cpu
  no_cpu e m h = rw (sym e ∙ m) h

  pub some_cpu : {c : CpuIndex} → r ≡ x → r ≡ Some c → y ≡ f c → y ≡ on_cpu x a f
  unfolding on_cpu
  some_cpu e m h = rw (sym e ∙ m) h

pub ruleset memberships =
    (no_link, some_link, in_none_lem, in_real_time, in_fair, in_waiting, in_terminated, no_cpu, some_cpu)

-- `Option::is_none` of a link, as std says it.
pub none_told : (x : Option ℕ) (r : Bool) → is_some x ≡ not r → r ≡ is_none x
unfolding is_none on_link
none_told None true e = refl
none_told None false e = never cc
none_told (Some n) true e = never cc
none_told (Some n) false e = refl

-- A test of two numbers that gives true says that they are equal.
equal_true : (n m : ℕ) (a : Bool) → if_equal n m a false ≡ true → (n ≡ m) × (a ≡ true)
unfolding if_equal choose
equal_true n m a h = go (eqb n m) refl h
  where
    go : (b : Bool) → eqb n m ≡ b → choose b a false ≡ true → (n ≡ m) × (a ≡ true)
    go true e k = (eqb-true n m e, k)
    go false e k = never cc

equal_self : {A : Type 0} (n : ℕ) (a b : A) → if_equal n n a b ≡ a
unfolding if_equal choose
equal_self n a b = rw (eq-eqb n n refl)

pub is_none_true : (l : Option ℕ) → is_none l ≡ true → l ≡ None
unfolding is_none on_link
is_none_true None h = refl
is_none_true (Some n) h = never cc

pub points_to_true : (l : Option ℕ) (id : ℕ) → points_to l id ≡ true → l ≡ Some id
unfolding points_to on_link
points_to_true None id h = never cc
points_to_true (Some n) id h = ap Some (equal_true n id true h).0

pub points_to_self : (id : ℕ) → points_to (Some id) id ≡ true
unfolding points_to on_link
points_to_self id = equal_self id true false

pub is_unqueued_true : (m : QueueMembership) → is_unqueued m ≡ true → m ≡ membership.None
unfolding is_unqueued on_membership
is_unqueued_true membership.None h = refl
is_unqueued_true (membership.ReadyRealTime c p) h = never cc
is_unqueued_true (membership.ReadyFair c) h = never cc
is_unqueued_true (membership.Waiting q) h = never cc
is_unqueued_true membership.Terminated h = never cc

pub same_membership_self : (m : QueueMembership) → same_membership m m ≡ true
unfolding same_membership is_unqueued is_ready_real_time is_ready_fair is_waiting is_terminated on_membership
same_membership_self membership.None = refl
same_membership_self (membership.ReadyRealTime c p) =
    rw (equal_self c.0 (if_equal p p true false) false) (equal_self p true false)
same_membership_self (membership.ReadyFair c) = equal_self c.0 true false
same_membership_self (membership.Waiting q) = equal_self q true false
same_membership_self membership.Terminated = refl

-- Two memberships that the test joins are the same.
pub same_membership_true : (m other : QueueMembership) → same_membership m other ≡ true → m ≡ other
unfolding same_membership is_unqueued is_ready_real_time is_ready_fair is_waiting is_terminated on_membership
same_membership_true membership.None membership.None h = refl
same_membership_true (membership.ReadyRealTime c p) (membership.ReadyRealTime d q) h =
    let parts : (c.0 ≡ d.0) × (if_equal p q true false ≡ true) = equal_true c.0 d.0 (if_equal p q true false) h in
    rw (parts.0, (equal_true p q true parts.1).0)
same_membership_true (membership.ReadyFair c) (membership.ReadyFair d) h = rw (equal_true c.0 d.0 true h).0
same_membership_true (membership.Waiting p) (membership.Waiting q) h = rw (equal_true p q true h).0
same_membership_true membership.Terminated membership.Terminated h = refl
same_membership_true membership.None (membership.ReadyRealTime d q) h = never cc
same_membership_true membership.None (membership.ReadyFair d) h = never cc
same_membership_true membership.None (membership.Waiting q) h = never cc
same_membership_true membership.None membership.Terminated h = never cc
same_membership_true (membership.ReadyRealTime c p) membership.None h = never cc
same_membership_true (membership.ReadyRealTime c p) (membership.ReadyFair d) h = never cc
same_membership_true (membership.ReadyRealTime c p) (membership.Waiting q) h = never cc
same_membership_true (membership.ReadyRealTime c p) membership.Terminated h = never cc
same_membership_true (membership.ReadyFair c) membership.None h = never cc
same_membership_true (membership.ReadyFair c) (membership.ReadyRealTime d q) h = never cc
same_membership_true (membership.ReadyFair c) (membership.Waiting q) h = never cc
same_membership_true (membership.ReadyFair c) membership.Terminated h = never cc
same_membership_true (membership.Waiting p) membership.None h = never cc
same_membership_true (membership.Waiting p) (membership.ReadyRealTime d q) h = never cc
same_membership_true (membership.Waiting p) (membership.ReadyFair d) h = never cc
same_membership_true (membership.Waiting p) membership.Terminated h = never cc
same_membership_true membership.Terminated membership.None h = never cc
same_membership_true membership.Terminated (membership.ReadyRealTime d q) h = never cc
same_membership_true membership.Terminated (membership.ReadyFair d) h = never cc
same_membership_true membership.Terminated (membership.Waiting q) h = never cc
