-- Laws for going by what the ways down answered: r is what the call gave, on the path as it left it.
use Rattle.std.specs.Prelude.{◌≡◌, List, ℕ, ◌-◌, length, Option, Result, Ok, Err}
use Rattle.refusal.specs.Answer.{damage}
use Rattle.std.proofs.Common.{sym}
use Rattle.thread.specs.declared.Links.{Links}
use Rattle.thread.specs.declared.TreeKey.{TreeKey}
use Rattle.thread.specs.declared.ThreadRecord.{ThreadRecord}
use Rattle.rows.specs.Table.{Out}
use Rattle.ready_index.specs.declared.Step.{Step}
use Rattle.ready_index.specs.declared.Searched.{Searched}
use Rattle.ready_index.specs.declared.Searched.TheVariants as searched
use Rattle.ready_index.specs.declared.Succeeded.{Succeeded}
use Rattle.ready_index.specs.declared.Succeeded.TheVariants as succeeded
use Rattle.ready_index.specs.Cases.{on_rooted}
use Rattle.ready_index.specs.CasesLaws.{answers}
use Rattle.ready_index.specs.Index.{max_path, Walk, on_walk, Search, on_search, Successor, on_successor, rebuild}
use Rattle.ready_index.specs.Index.{insert_at, remove_at}
use Rattle.ready_index.specs.Path.{stack, walk_of, search_of, successor_of}
use Rattle.refusal.specs.declared.Damaged.{Damaged}

module _ {A : Type 0} {y : A} {r : Result ℕ Damaged} {x : Walk} (a : A) (f : List Step → A) (rows : List (List ℕ)) where
  pub reached : (n : ℕ) → walk_of r rows ≡ x → r ≡ Ok n → y ≡ f (stack rows 0 n) → y ≡ on_walk x a f
  unfolding on_walk walk_of
  reached n e m h = rw (sym e) (rw m h)

  pub not_reached : walk_of r rows ≡ x → r ≡ (Err damage) → y ≡ a → y ≡ on_walk x a f
  unfolding on_walk walk_of
  not_reached e m h = rw (sym e) (rw m h)

module _ {A : Type 0} {y : A} {r : Searched} {x : Search} (a : A) (f : List Step → Links → ℕ → A)
    (rows : List (List ℕ)) where
  pub was_found : (n : ℕ) (l : Links) → search_of r rows ≡ x → r ≡ searched.Found n l
      → y ≡ f (stack rows 0 n) l (length rows - n) → y ≡ on_search x a f
  unfolding on_search search_of
  was_found n l e m h = rw (sym e) (rw m h)

  pub not_found : search_of r rows ≡ x → r ≡ searched.Damaged → y ≡ a → y ≡ on_search x a f
  unfolding on_search search_of
  not_found e m h = rw (sym e) (rw m h)

module _ {A : Type 0} {y : A} {r : Succeeded} {x : Successor} (a : A) (f : List Step → ℕ → Option ℕ → A)
    (rows : List (List ℕ)) (first : ℕ) where
  pub has_next : (n i : ℕ) (l : Option ℕ) → successor_of r rows first ≡ x → r ≡ succeeded.Next n i l
      → y ≡ f (stack rows first n) i l → y ≡ on_successor x a f
  unfolding on_successor successor_of
  has_next n i l e m h = rw (sym e) (rw m h)

  pub no_next : successor_of r rows first ≡ x → r ≡ succeeded.Damaged → y ≡ a → y ≡ on_successor x a f
  unfolding on_successor successor_of
  no_next e m h = rw (sym e) (rw m h)

-- The steps are the same on the path as a later call left it.
pub same_steps : {A : Type 0} {y : A} {s : List Step} (z : List Step) (t : List ThreadRecord) (sub : Option ℕ)
    (a : List ThreadRecord → A) (f : Option ℕ → List ThreadRecord → A) → s ≡ z
    → y ≡ on_rooted (rebuild s t sub) a f → y ≡ on_rooted (rebuild z t sub) a f
same_steps z t sub a f e h = rw (sym e) h

-- The whole path is lent, so that its length is the room.
module _ {y : Out (Result (Option ℕ) Damaged)} (t : List ThreadRecord) (rows : List (List ℕ)) (key : TreeKey) (root :
    Option ℕ) (id : ℕ) where
  pub insert_lent : length rows ≡ max_path → y ≡ insert_at t (length rows) key root id
      → y ≡ insert_at t max_path key root id
  insert_lent e h = rw e at h

  pub remove_lent : length rows ≡ max_path → y ≡ remove_at t (length rows) key root id
      → y ≡ remove_at t max_path key root id
  remove_lent e h = rw e at h

pub ruleset ways = (answers, reached, not_reached, was_found, not_found, has_next, no_next)
