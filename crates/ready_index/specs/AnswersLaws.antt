-- An answer is told by its number or its values, and what is told alike is alike.
use Rattle.std.specs.Prelude.{◌≡◌, refl, List, Option, Result, Ok, Err, ℕ, Bool, true, false}
use Rattle.refusal.specs.Answer.{or_damaged, damage}
use Rattle.std.proofs.Common.{ap}
use Rattle.refusal.specs.Cases.{never}
use Rattle.thread.specs.declared.ThreadRecord.{ThreadRecord}
use Rattle.rows.specs.Table.{Out, out}
use Rattle.rows.specs.Asked.{answering}
use Rattle.ready_index.specs.Cases.{on_rooted}
use Rattle.ready_index.specs.CasesLaws.{rooted_root, rooted_damaged}
use Rattle.refusal.specs.declared.Damaged.{Damaged}

-- An answer told: x is what the definition gives.
pub least_told : {r x : Result (Option ℕ) Damaged} → r ≡ x → or_damaged r ≡ or_damaged x
least_told e = ap or_damaged e

pub contained_told : {r x : Result Bool Damaged} → r ≡ x → or_damaged r ≡ or_damaged x
contained_told e = ap or_damaged e

-- And beside the table that the call left.
pub rooted_told : {r : Result (Option ℕ) Damaged} {t : List ThreadRecord} {x : Out (Result (Option ℕ) Damaged)}
    → out r t ≡ x
    → out (or_damaged r) t ≡ answering or_damaged x
unfolding answering
rooted_told e = ap (answering or_damaged) e

-- What is told alike is alike.
pub same_contained : (r x : Result Bool Damaged) → or_damaged r ≡ or_damaged x → r ≡ x
unfolding or_damaged
same_contained (Ok true) (Ok true) e = refl
same_contained (Ok true) (Ok false) e = never cc
same_contained (Ok true) (Err _) e = never cc
same_contained (Ok false) (Ok true) e = never cc
same_contained (Ok false) (Ok false) e = refl
same_contained (Ok false) (Err _) e = never cc
same_contained (Err _) (Ok true) e = never cc
same_contained (Err _) (Ok false) e = never cc
same_contained (Err _) (Err _) e = refl

pub same_rooted : (r : Result (Option ℕ) Damaged) (t : List ThreadRecord) (x : Out (Result (Option ℕ) Damaged))
    → out (or_damaged r) t ≡ answering or_damaged x → out r t ≡ x
unfolding answering or_damaged
same_rooted (Ok i) t (out (Ok j) s) e =
    let k : i ≡ j = cc in
    let l : t ≡ s = cc in
    rw (k, l)
same_rooted (Ok i) t (out (Err _) s) e = never cc
same_rooted (Err _) t (out (Ok j) s) e = never cc
same_rooted (Err _) t (out (Err _) s) e = let l : t ≡ s = cc in rw l

-- By what a call was told of the tree's root.
module _ {A : Type 0} {y : A} {t : List ThreadRecord} {r : Result (Option ℕ) Damaged} (a : List ThreadRecord → A)
    (f : Option ℕ → List ThreadRecord → A) (x : Out (Result (Option ℕ) Damaged)) where
  pub root_answered : {l : Option ℕ} → out (or_damaged r) t ≡ answering or_damaged x → r ≡ Ok l → y ≡ f l t
      → y ≡ on_rooted x a f
  root_answered e m h = rooted_root a f (same_rooted r t x e) m h

  pub damage_answered : out (or_damaged r) t ≡ answering or_damaged x → r ≡ (Err damage) → y ≡ a t
      → y ≡ on_rooted x a f
  damage_answered e m h = rooted_damaged a f (same_rooted r t x e) m h

pub ruleset rootings = (root_answered, damage_answered)
