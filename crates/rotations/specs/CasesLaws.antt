-- The laws by which proofs of code go by an answer.
use Rattle.std.specs.Prelude.{◌≡◌, List, ℕ, Result, Ok, Err}
use Rattle.refusal.specs.Answer.{or_damaged, damage}
use Rattle.std.proofs.Common.{sym, ◌∙◌}
use Rattle.refusal.specs.Cases.{cases}
use Rattle.avl.specs.RotationLaws.{leaning}
use Rattle.thread.specs.declared.ThreadRecord.{ThreadRecord}
use Rattle.thread.specs.MembershipLaws.{no_link, some_link, memberships}
use Rattle.rows.specs.TableCases.{links_got, links_damaged, made, not_made, tables}
use Rattle.rows.specs.Table.{Out, out}
use Rattle.rows.specs.Asked.{answering}
use Rattle.rotations.specs.AnswersLaws.{same_turn}
use Rattle.rotations.specs.Cases.{on_height, on_turned}
use Rattle.refusal.specs.declared.Damaged.{Damaged}

module _ {A : Type 0} {y : A} (a : A) where
  pub height_got : {r x : Result ℕ Damaged} {n : ℕ} (f : ℕ → A) → r ≡ x → r ≡ Ok n → y ≡ f n → y ≡ on_height x a f
  unfolding on_height
  height_got f e m h = rw (sym e ∙ m) h

  pub height_damaged : {r x : Result ℕ Damaged} (f : ℕ → A) → r ≡ x → r ≡ (Err damage) → y ≡ a → y ≡ on_height x a f
  unfolding on_height
  height_damaged f e m h = rw (sym e ∙ m) h

module _ {A : Type 0} {y : A} {t : List ThreadRecord} (a : List ThreadRecord → A) where
  pub turned_root : {r : Result ℕ Damaged} {x : Out (Result ℕ Damaged)} {i : ℕ} (f : ℕ → List ThreadRecord → A)
      → out r t ≡ x
      → r ≡ Ok i → y ≡ f i t → y ≡ on_turned x a f
  unfolding on_turned
  turned_root f e m h = rw (sym e) (rw m h)

  pub turned_damaged : {r : Result ℕ Damaged} {x : Out (Result ℕ Damaged)} (f : ℕ → List ThreadRecord → A)
      → out r t ≡ x → r ≡ (Err damage)
      → y ≡ a t → y ≡ on_turned x a f
  unfolding on_turned
  turned_damaged f e m h = rw (sym e) (rw m h)

-- By what a call of another crate was told.
module _ {A : Type 0} {y : A} {t : List ThreadRecord} {r : Result ℕ Damaged} (a : List ThreadRecord → A)
    (f : ℕ → List ThreadRecord → A) (x : Out (Result ℕ Damaged)) where
  pub top_answered : {i : ℕ} → out (or_damaged r) t ≡ answering or_damaged x → r ≡ Ok i → y ≡ f i t
      → y ≡ on_turned x a f
  top_answered e m h = turned_root a f (same_turn r t x e) m h

  pub damage_answered : out (or_damaged r) t ≡ answering or_damaged x → r ≡ (Err damage) → y ≡ a t
      → y ≡ on_turned x a f
  damage_answered e m h = turned_damaged a f (same_turn r t x e) m h

pub ruleset balancings = (cases, memberships, tables, top_answered, damage_answered)

pub ruleset turnings = (cases, leaning, memberships, tables, height_got, height_damaged, turned_root, turned_damaged)

-- Going by links and stores alone.
pub ruleset rotatings = (no_link, some_link, links_got, links_damaged, made, not_made)

-- Going by links, two heights and the lean alone.
pub ruleset by_lean = (leaning, tables, height_got, height_damaged)
