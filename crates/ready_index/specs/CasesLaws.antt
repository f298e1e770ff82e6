-- The laws by which proofs of code go by an answer: r is what the call gave, x what its contract says of it.
use Rattle.std.specs.Prelude.{◌≡◌, List, Option, Result, Ok, Err, ℕ}
use Rattle.refusal.specs.Answer.{damage}
use Rattle.std.proofs.Common.{sym, ◌∙◌}
use Rattle.order.specs.OrderLaws.{orderings}
use Rattle.thread.specs.declared.Links.{Links}
use Rattle.thread.specs.declared.ThreadRecord.{ThreadRecord}
use Rattle.ready_index.specs.declared.Way.{Way}
use Rattle.ready_index.specs.declared.Way.TheVariants as way
use Rattle.ready_index.specs.declared.Sought.{Sought}
use Rattle.ready_index.specs.declared.Sought.TheVariants as sought
use Rattle.rotations.specs.CasesLaws.{balancings}
use Rattle.rows.specs.Table.{Out, out}
use Rattle.ready_index.specs.Cases.{on_rooted, on_way, on_sought}
use Rattle.refusal.specs.declared.Damaged.{Damaged}

module _ {A : Type 0} {y : A} {t : List ThreadRecord} (a : List ThreadRecord → A) where
  pub rooted_root : {r : Result (Option ℕ) Damaged} {x : Out (Result (Option ℕ) Damaged)} {l : Option ℕ} (f : Option ℕ
      → List ThreadRecord → A) → out r t ≡ x
      → r ≡ Ok l → y ≡ f l t → y ≡ on_rooted x a f
  unfolding on_rooted
  rooted_root f e m h = rw (sym e) (rw m h)

  pub rooted_damaged : {r : Result (Option ℕ) Damaged} {x : Out (Result (Option ℕ) Damaged)} (f : Option ℕ
      → List ThreadRecord → A) → out r t ≡ x
      → r ≡ (Err damage) → y ≡ a t → y ≡ on_rooted x a f
  unfolding on_rooted
  rooted_damaged f e m h = rw (sym e) (rw m h)

module _ {A : Type 0} {y : A} {r x : Way} (a e : A) (f g : Option ℕ → A) where
  pub way_left : {l : Option ℕ} → r ≡ x → r ≡ way.Left l → y ≡ f l → y ≡ on_way x a e f g
  unfolding on_way
  way_left p m h = rw (sym p ∙ m) h

  pub way_right : {l : Option ℕ} → r ≡ x → r ≡ way.Right l → y ≡ g l → y ≡ on_way x a e f g
  unfolding on_way
  way_right p m h = rw (sym p ∙ m) h

  pub way_equal : r ≡ x → r ≡ way.Equal → y ≡ e → y ≡ on_way x a e f g
  unfolding on_way
  way_equal p m h = rw (sym p ∙ m) h

  pub way_damaged : r ≡ x → r ≡ way.Damaged → y ≡ a → y ≡ on_way x a e f g
  unfolding on_way
  way_damaged p m h = rw (sym p ∙ m) h

module _ {A : Type 0} {y : A} {r x : Sought} (a : A) (k : Links → A) (f g : Option ℕ → A) where
  pub sought_left : {l : Option ℕ} → r ≡ x → r ≡ sought.Left l → y ≡ f l → y ≡ on_sought x a k f g
  unfolding on_sought
  sought_left p m h = rw (sym p ∙ m) h

  pub sought_right : {l : Option ℕ} → r ≡ x → r ≡ sought.Right l → y ≡ g l → y ≡ on_sought x a k f g
  unfolding on_sought
  sought_right p m h = rw (sym p ∙ m) h

  pub sought_found : {l : Links} → r ≡ x → r ≡ sought.Found l → y ≡ k l → y ≡ on_sought x a k f g
  unfolding on_sought
  sought_found p m h = rw (sym p ∙ m) h

  pub sought_damaged : r ≡ x → r ≡ sought.Damaged → y ≡ a → y ≡ on_sought x a k f g
  unfolding on_sought
  sought_damaged p m h = rw (sym p ∙ m) h

-- A root made of a link's parts is the answer that has them.
pub of_parts : {r : Result (Option ℕ) Damaged} {l x : Option ℕ} → r ≡ Ok l → l ≡ x → Ok x ≡ r
of_parts e m = rw (e, m)

-- An answer made anew and the table with it.
pub made_anew : {r s : Result (Option ℕ) Damaged} {t : List ThreadRecord} {x : Out (Result (Option ℕ) Damaged)} → r ≡ s
    → out s t ≡ x → out r t ≡ x
made_anew e h = rw e h

pub ruleset answers = (
  orderings,
  balancings,
  rooted_root,
  rooted_damaged,
  way_left,
  way_right,
  way_equal,
  way_damaged,
  sought_left,
  sought_right,
  sought_found,
  sought_damaged,
)
