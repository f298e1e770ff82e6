-- Laws of these orders: a candidate more asks for what was asked and for what it asks, and for no more.
use Rattle.std.specs.Prelude.{ℕ, ◌≡◌, Bool, true, false, List, Option, Some, None}
use Rattle.std.proofs.Math.Path.{refl, ap, subst}
use Rattle.std.proofs.Common.{sym, ◌∙◌}
use Rattle.refusal.specs.Cases.{never, choose, given}
use Rattle.std.specs.declared.cmp.Ordering.{Ordering}
use Rattle.std.specs.declared.cmp.Ordering.TheVariants.{Less, Equal, Greater}
use Rattle.order.specs.Order.{compare_parts, on_ordering}
use Rattle.order.specs.StrictOrder.{flipped, turned_about, equal_only, less_transitive}
use Rattle.policy.specs.declared.SchedulingPolicy.{SchedulingPolicy}
use Rattle.policy.specs.declared.SchedulingPolicy.TheVariants as policy
use Rattle.policy.specs.PolicyCases.{on_policy}
use Rattle.algorithms.specs.declared.Wide.{Wide}
use Rattle.arbitration.specs.declared.Candidate.{Candidate}
use Rattle.demands.specs.declared.Gathered.{Gathered}
use Rattle.demands.specs.Demands.{demand_of, either, joined, add_demand, compare_passes, lesser_pass, on_pass}
use Rattle.demands.specs.Demands.{lowest_pass}
use Rattle.demands.specs.Demands.{gathered}
use Rattle.sound_selection.specs.Within.{AtMost, less, same, Implies, pass_parts, PassWithin, Within, alone}

pub at_most_trans : {a b c : List ℕ} → AtMost a b → AtMost b c → AtMost a c
at_most_trans {a} {b} {c} (less e) (less f) = less (less_transitive a b c e f)
at_most_trans {a} (less e) (same f) = less (subst (λ (x : List ℕ). compare_parts a x ≡ Less) f e)
at_most_trans {a} {b} {c} (same e) (less f) = less (subst (λ (x : List ℕ). compare_parts x c ≡ Less) (sym e) f)
at_most_trans (same e) (same f) = same (e ∙ f)

-- Less one way is not Less the other way.
pub not_both_less : (a b : List ℕ) → compare_parts a b ≡ Less → compare_parts b a ≡ Less → ⊥
unfolding flipped
not_both_less a b e f = let z : Less ≡ Greater = sym f ∙ turned_about a b ∙ ap flipped e in never cc

pub at_most_both : {a b : List ℕ} → AtMost a b → AtMost b a → a ≡ b
at_most_both {a} {b} (less e) (less f) = absurd (not_both_less a b e f)
at_most_both (less e) (same f) = sym f
at_most_both (same e) q = e

-- By how two compare.
pub compared : {A : Type 0} (a b : List ℕ) → (compare_parts a b ≡ Less → A) → (a ≡ b → A)
    → (compare_parts b a ≡ Less → A) → A
unfolding flipped
compared {A} a b f g h = go (compare_parts a b) refl
  where
    go : (o : Ordering) → compare_parts a b ≡ o → A
    go Less e = f e
    go Equal e = g (equal_only a b e)
    go Greater e = h (turned_about a b ∙ ap flipped e)

-- The lesser of two passes is one of them, and at most both.
module _ (old new : Wide) where
  pub lesser_is : (o : Ordering) → compare_passes new old ≡ o → lesser_pass old new ≡ on_ordering o new old old
  unfolding lesser_pass
  lesser_is o e = rw e

  lesser_by : (P : Wide → Type 0) → (AtMost (pass_parts new) (pass_parts old) → P new)
      → (AtMost (pass_parts old) (pass_parts new) → P old) → P (lesser_pass old new)
  unfolding compare_passes on_ordering flipped
  lesser_by P f g = go (compare_passes new old) refl
    where
      go : (o : Ordering) → compare_passes new old ≡ o → P (lesser_pass old new)
      go Less e = subst P (sym (lesser_is Less e)) (f (less e))
      go Equal e = subst P (sym (lesser_is Equal e)) (g (same (sym (equal_only (pass_parts new) (pass_parts old) e))))
      go Greater e =
          subst P (sym (lesser_is Greater e)) (g (less (turned_about (pass_parts new) (pass_parts old) ∙ ap flipped e)))

  lesser_old : AtMost (pass_parts (lesser_pass old new)) (pass_parts old)
  lesser_old = lesser_by (λ p. AtMost (pass_parts p) (pass_parts old)) (λ h. h) (λ h. same refl)

  lesser_new : AtMost (pass_parts (lesser_pass old new)) (pass_parts new)
  lesser_new = lesser_by (λ p. AtMost (pass_parts p) (pass_parts new)) (λ h. same refl) (λ h. h)

  lesser_most : (b : Wide) → AtMost (pass_parts b) (pass_parts old) → AtMost (pass_parts b) (pass_parts new)
      → AtMost (pass_parts b) (pass_parts (lesser_pass old new))
  lesser_most b p q = lesser_by (λ x. AtMost (pass_parts b) (pass_parts x)) (λ h. q) (λ h. p)

pub pass_refl : (x : Option Wide) → PassWithin x x
pass_refl None = tt
pass_refl (Some a) = same refl

pub pass_trans : (x y z : Option Wide) → PassWithin x y → PassWithin y z → PassWithin x z
pass_trans None y z p q = tt
pass_trans (Some a) None z p q = absurd p
pass_trans (Some a) (Some b) None p q = absurd q
pass_trans (Some a) (Some b) (Some c) p q = at_most_trans q p

same_pass : (a b : Wide) → pass_parts a ≡ pass_parts b → a ≡ b
same_pass a b e =
    let h : a.high ≡ b.high = cc in
    let l : a.low ≡ b.low = cc in
    λ i. record { high = h i; low = l i }

pass_both : (x y : Option Wide) → PassWithin x y → PassWithin y x → x ≡ y
pass_both None None p q = refl
pass_both None (Some b) p q = absurd q
pass_both (Some a) None p q = absurd p
pass_both (Some a) (Some b) p q = ap Some (same_pass a b (at_most_both q p))

-- The lowest pass with one more, by the policy of that one.
module _ (new : Wide) where
  abbrev with_one : SchedulingPolicy → Option Wide → Option Wide
  with_one p l = on_policy p (λ priority. l)
      (on_pass l (Some new) (λ old. given (lesser_pass old new) Some)) l l

  pass_old : (p : SchedulingPolicy) (l : Option Wide) → PassWithin l (with_one p l)
  unfolding on_policy on_pass given
  pass_old (policy.Fifo a) l = pass_refl l
  pass_old policy.Fair None = tt
  pass_old policy.Fair (Some old) = lesser_old old new
  pass_old policy.Budget l = pass_refl l
  pass_old policy.Idle l = pass_refl l

  pass_new : (p : SchedulingPolicy) (l : Option Wide) → PassWithin (with_one p None) (with_one p l)
  unfolding on_policy on_pass given
  pass_new (policy.Fifo a) l = tt
  pass_new policy.Fair None = same refl
  pass_new policy.Fair (Some old) = lesser_new old new
  pass_new policy.Budget l = tt
  pass_new policy.Idle l = tt

  pass_most : (p : SchedulingPolicy) (l z : Option Wide) → PassWithin l z → PassWithin (with_one p None) z
      → PassWithin (with_one p l) z
  unfolding on_policy on_pass given
  pass_most (policy.Fifo a) l z f g = f
  pass_most policy.Fair None z f g = g
  pass_most policy.Fair (Some old) None f g = absurd f
  pass_most policy.Fair (Some old) (Some b) f g = lesser_most old new b f g
  pass_most policy.Budget l z f g = f
  pass_most policy.Idle l z f g = f

either_first : (x y : Bool) → x ≡ true → choose x true y ≡ true
unfolding choose
either_first x y e = rw e

either_second : (x y : Bool) → y ≡ true → choose x true y ≡ true
unfolding choose
either_second true y e = refl
either_second false y e = e

either_of : (x y z : Bool) → Implies x z → Implies y z → Implies (choose x true y) z
unfolding choose
either_of true y z f g e = f refl
either_of false y z f g e = g e

bool_both : (x y : Bool) → Implies x y → Implies y x → x ≡ y
bool_both true y f g = sym (f refl)
bool_both false true f g = g refl
bool_both false false f g = refl

pub within_refl : (a : Gathered) → Within a a
within_refl a =
    record {
      protected = λ e. e;
      fair = λ e. e;
      sensitive = λ e. e;
      eligible = λ e. e;
      any = λ e. e;
      lowest = pass_refl a.fair_min_pass;
    }

pub within_trans : {a b c : Gathered} → Within a b → Within b c → Within a c
within_trans {a} {b} {c} p q = record {
  protected = λ e. q.protected (p.protected e);
  fair = λ e. q.fair (p.fair e);
  sensitive = λ e. q.sensitive (p.sensitive e);
  eligible = λ e. q.eligible (p.eligible e);
  any = λ e. q.any (p.any e);
  lowest = pass_trans a.fair_min_pass b.fair_min_pass c.fair_min_pass p.lowest q.lowest;
}

-- Within each other, the two are the same.
pub within_both : (a b : Gathered) → Within a b → Within b a → a ≡ b
within_both a b p q =
    let x = bool_both a.demand.protected b.demand.protected p.protected q.protected in
    let y = bool_both a.demand.fair b.demand.fair p.fair q.fair in
    let z = bool_both a.demand.window_sensitive b.demand.window_sensitive p.sensitive q.sensitive in
    let u = bool_both a.demand.eligible_budget b.demand.eligible_budget p.eligible q.eligible in
    let v = bool_both a.demand.any_budget b.demand.any_budget p.any q.any in
    let w = pass_both a.fair_min_pass b.fair_min_pass p.lowest q.lowest in
    λ i. record {
      demand = record {
        protected = x i;
        fair = y i;
        window_sensitive = z i;
        eligible_budget = u i;
        any_budget = v i;
      };
      fair_min_pass = w i;
    }

-- One candidate more.
module _ (g : Gathered) (c : Candidate) where
  -- What was asked for is,
  pub gathered_old : Within g (gathered g c)
  unfolding gathered given add_demand joined either lowest_pass
  gathered_old = record {
    protected = either_first g.demand.protected (demand_of c).protected;
    fair = either_first g.demand.fair (demand_of c).fair;
    sensitive = either_first g.demand.window_sensitive (demand_of c).window_sensitive;
    eligible = either_first g.demand.eligible_budget (demand_of c).eligible_budget;
    any = either_first g.demand.any_budget (demand_of c).any_budget;
    lowest = pass_old c.fair_pass c.parameters.policy g.fair_min_pass;
  }

  -- and what it asks for,
  pub gathered_new : Within (alone c) (gathered g c)
  unfolding gathered given add_demand joined either choose lowest_pass
  gathered_new = record {
    protected = either_second g.demand.protected (demand_of c).protected;
    fair = either_second g.demand.fair (demand_of c).fair;
    sensitive = either_second g.demand.window_sensitive (demand_of c).window_sensitive;
    eligible = either_second g.demand.eligible_budget (demand_of c).eligible_budget;
    any = either_second g.demand.any_budget (demand_of c).any_budget;
    lowest = pass_new c.fair_pass c.parameters.policy g.fair_min_pass;
  }

  -- and no more.
  pub gathered_most : (z : Gathered) → Within g z → Within (alone c) z → Within (gathered g c) z
  unfolding gathered given add_demand joined either choose lowest_pass
  gathered_most z p q = record {
    protected =
        either_of g.demand.protected (demand_of c).protected z.demand.protected p.protected q.protected;
    fair = either_of g.demand.fair (demand_of c).fair z.demand.fair p.fair q.fair;
    sensitive =
        either_of g.demand.window_sensitive (demand_of c).window_sensitive z.demand.window_sensitive
        p.sensitive q.sensitive;
    eligible =
        either_of g.demand.eligible_budget (demand_of c).eligible_budget z.demand.eligible_budget
        p.eligible q.eligible;
    any = either_of g.demand.any_budget (demand_of c).any_budget z.demand.any_budget p.any q.any;
    lowest =
        pass_most c.fair_pass c.parameters.policy g.fair_min_pass z.fair_min_pass p.lowest
        q.lowest;
  }
