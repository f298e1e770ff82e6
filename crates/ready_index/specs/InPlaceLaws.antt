-- A step of the way up, which stores one link and balances the node by the links that it has since, is what the
-- definition says.
use Rattle.std.specs.Prelude.{◌≡◌, refl, List, ℕ, get_or, Option, Result, Ok, Err}
use Rattle.refusal.specs.Answer.{or_damaged, damage}
use Rattle.std.proofs.Common.{sym, ◌∙◌, eq-eqb, ne_eqb}
use Rattle.refusal.specs.Cases.{choose}
use Rattle.thread.specs.declared.Links.{Links}
use Rattle.thread.specs.declared.ThreadRecord.{ThreadRecord}
use Rattle.rows.specs.Table.{Out, out, after, links_at, set_links, set_left, set_right}
use Rattle.rows.specs.TableCases.{on_links, on_made, made, not_made}
use Rattle.rows.specs.TableLaws.{links_got_within, links_set_links_same, set_left_links, set_right_links}
use Rattle.rows.specs.AnswersLaws.{same_links}
use Rattle.rows.specs.Asked.{answering}
use Rattle.rotations.specs.AnswersLaws.{same_turn}
use Rattle.rotations.specs.Balance.{balance}
use Rattle.rotations.specs.InPlace.{balance_by}
use Rattle.rotations.specs.InPlaceLaws.{by_its_links}
use Rattle.ready_index.specs.declared.Step.{Step}
use Rattle.ready_index.specs.Index.{hung, rebuild_step}
use Rattle.ready_index.specs.Path.{step_of}
use Rattle.refusal.specs.declared.Damaged.{Damaged}

climbed : (t : List ThreadRecord) (s : Step) (sub : Option ℕ) {l m : Links} → links_at t s.id ≡ Ok l
    → hung s l sub ≡ m
    → on_made (set_links t s.id m) (out (Err damage)) (λ t₁. balance_by t₁ s.id m.left m.right)
    ≡ rebuild_step t s sub
unfolding rebuild_step on_links on_made
climbed t s sub {l} {m} e f =
    rw (e, f) (go (set_links t s.id m) (links_set_links_same t s.id m (links_got_within t s.id e)))
  where
    go : (x : Out (Result (Unit {0}) Damaged)) → links_at (after x) s.id ≡ Ok m
        → on_made x (out (Err damage)) (λ t₁. balance_by t₁ s.id m.left m.right)
        ≡ on_made x (out (Err damage)) (λ t₁. balance t₁ s.id)
    go (out (Ok _) t₁) k = by_its_links t₁ s.id k
    go (out (Err _) t₁) k = refl

read_as : (t : List ThreadRecord) (i : ℕ) {x : Result Links Damaged} → or_damaged x ≡ or_damaged (links_at t i)
    → x ≡ links_at t i
read_as t i {x} e = same_links x (links_at t i) e

-- By what was read of the node, x, and by the side that the step's row says: with 0 the left one.
module _ {y : Out (Result ℕ Damaged)} {x : Result Links Damaged} (t : List ThreadRecord) (step : List ℕ) (sub : Option
    ℕ) where
  pub up_from_nowhere : or_damaged x ≡ or_damaged (links_at t (get_or step 0 0)) → x ≡ (Err damage)
      → y ≡ out (Err damage) t → y ≡ rebuild_step t (step_of step) sub
  unfolding rebuild_step on_links
  up_from_nowhere e m h = rw (sym (read_as t (get_or step 0 0) e) ∙ m) h

  pub up_from_left : {l : Links} → or_damaged x ≡ or_damaged (links_at t (get_or step 0 0)) → x ≡ Ok l
      → get_or step 1 0 ≡ 0
      → y ≡ on_made (set_left t (get_or step 0 0) sub) (out (Err damage))
      (λ t₁. balance_by t₁ (get_or step 0 0) sub l.right) → y ≡ rebuild_step t (step_of step) sub
  unfolding hung choose
  up_from_left e m p h =
      (rw (set_left_links t (get_or step 0 0) (sym (read_as t (get_or step 0 0) e) ∙ m) sub) at h)
      ∙ climbed t (step_of step) sub (sym (read_as t (get_or step 0 0) e) ∙ m) (rw (eq-eqb (get_or step 1 0) 0 p))

  pub up_from_right : {l : Links} → or_damaged x ≡ or_damaged (links_at t (get_or step 0 0)) → x ≡ Ok l
      → (get_or step 1 0 ≡ 0 → ⊥)
      → y ≡ on_made (set_right t (get_or step 0 0) sub) (out (Err damage))
      (λ t₁. balance_by t₁ (get_or step 0 0) l.left sub) → y ≡ rebuild_step t (step_of step) sub
  unfolding hung choose
  up_from_right e m p h =
      (rw (set_right_links t (get_or step 0 0) (sym (read_as t (get_or step 0 0) e) ∙ m) sub) at h)
      ∙ climbed t (step_of step) sub (sym (read_as t (get_or step 0 0) e) ∙ m) (rw (ne_eqb (get_or step 1 0) 0 p))

-- What balancing gave, handed on.
pub handed_up : {r : Result ℕ Damaged} {s : List ThreadRecord} (t : List ThreadRecord) (i : ℕ) (left right : Option ℕ)
    → out (or_damaged r) s ≡ answering or_damaged (balance_by t i left right)
    → out r s ≡ balance_by t i left right
handed_up {r} {s} t i left right e = same_turn r s (balance_by t i left right) e

-- Few laws, so that a search for what is not so comes to its end.
pub ruleset step_up = (up_from_nowhere, up_from_left, up_from_right, made, not_made, handed_up)
