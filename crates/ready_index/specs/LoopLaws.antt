-- Laws by which each loop goes on from step to step: what is left to do gives what the loop set out to give.
use Rattle.std.specs.Prelude.{◌≡◌, Bool, List, [], ◌∷◌, ltb, get_or, set, Option, Some, None, Result, Ok, Err}
use Rattle.refusal.specs.Answer.{damage}
use Rattle.std.proofs.Math.Path.{refl}
use Rattle.std.proofs.Common.{sym, ◌∙◌, length-set}
use Rattle.std.proofs.Math.Bool.{true, false}
use native.Mathlib.Omega.{arith}
use Rattle.std.proofs.Math.Numerals.{unary_clauses}
use Prim.Native.Nat.{ℕ, zero, suc, ◌+◌, ◌-◌, ◌<◌, ◌≤◌}
use Rattle.std.proofs.Math.ListN.{length}
use borrow.Author.Tests.{ltb-true, ltb-false}
use Rattle.refusal.specs.Cases.{choose, if_less, if_equal}
use Rattle.thread.specs.declared.Links.{Links}
use Rattle.thread.specs.declared.TreeKey.{TreeKey}
use Rattle.thread.specs.declared.ThreadRecord.{ThreadRecord}
use Rattle.thread.specs.Membership.{on_link}
use Rattle.rows.specs.Table.{Out, out, links_at}
use Rattle.rows.specs.TableCases.{on_links}
use Rattle.ready_index.specs.declared.Step.{Step}
use Rattle.ready_index.specs.declared.Sought.{Sought}
use Rattle.ready_index.specs.declared.Sought.TheVariants as sought
use Rattle.ready_index.specs.declared.Searched.{Searched}
use Rattle.ready_index.specs.declared.Searched.TheVariants as searched
use Rattle.ready_index.specs.declared.Succeeded.{Succeeded}
use Rattle.ready_index.specs.declared.Succeeded.TheVariants as succeeded
use Rattle.rotations.specs.Cases.{on_turned}
use Rattle.ready_index.specs.Cases.{on_way, on_sought}
use Rattle.ready_index.specs.CasesLaws.{answers}
use Rattle.ready_index.specs.Index.{descend, way_at, look_for, Walk, bottom, lost, walk, rebuild_step, rebuild}
use Rattle.ready_index.specs.Index.{sought_at, Search, found, missing, search, Successor, next, none, successor}
use Rattle.ready_index.specs.Path.{step_of, stack, walk_of, walk_steps, last_sought, search_of, search_steps}
use Rattle.ready_index.specs.Path.{successor_of, successor_steps}
use Rattle.ready_index.specs.PathLaws.{kept, push, pop, no_steps}
use Rattle.refusal.specs.declared.Damaged.{Damaged}

-- What a loop set out to give; shut, so that no law of a step applies to it.
pub whole : {A : Type 0} → A → A
whole x = x

module _ {A : Type 0} (x : A) where
  pub setting_out : x ≡ whole x
  unfolding whole
  setting_out = refl

  pub onward : {y : A} (w : A) → x ≡ whole w → y ≡ x → y ≡ whole w
  onward w e h = h ∙ e

  pub arrived : {y : A} → y ≡ whole x → y ≡ x
  unfolding whole
  arrived h = h

module _ (t : List ThreadRecord) (i : ℕ) where
  descend_step : (n : ℕ) → 0 < n
      → descend n t i ≡ on_links (links_at t i) (Err damage) (λ l. on_link l.left (Ok (Some i)) (descend (n - 1) t))
  unfolding descend
  descend_step zero h = absurd (omega arith)
  descend_step (suc n) h = simp unary_clauses

  pub to_the_left : {y : Result (Option ℕ) Damaged} (n : ℕ) → 0 < n
      → y ≡ on_links (links_at t i) (Err damage) (λ l. on_link l.left (Ok (Some i)) (descend (n - 1) t))
      → y ≡ descend n t i
  to_the_left n p h = h ∙ sym (descend_step n p)

  pub too_deep : {y : Result (Option ℕ) Damaged} (n : ℕ) → n ≤ 0 → y ≡ (Err damage) → y ≡ descend n t i
  unfolding descend
  too_deep zero p h = h
  too_deep (suc n) p h = absurd (omega arith)

pub ruleset descent = (answers, onward, to_the_left, too_deep)

module _ (t : List ThreadRecord) (key : TreeKey) (id : ℕ) (at : Option ℕ) where
  abbrev look_further : ℕ → Result Bool Damaged
  look_further n =
      on_link at (Ok false)
      (λ i. on_way (way_at t key i) (Err damage) (if_equal i id (Ok true) (Ok false))
      (λ l. look_for (n - 1) t key id l)
      (λ l. look_for (n - 1) t key id l))

  look_step : (n : ℕ) → 0 < n → look_for n t key id at ≡ look_further n
  unfolding look_for
  look_step zero h = absurd (omega arith)
  look_step (suc n) h = simp unary_clauses

  pub looking : {y : Result Bool Damaged} (n : ℕ) → 0 < n → y ≡ look_further n → y ≡ look_for n t key id at
  looking n p h = h ∙ sym (look_step n p)

  pub looked_too_far : {y : Result Bool Damaged} (n : ℕ) → n ≤ 0 → y ≡ (Err damage) → y ≡ look_for n t key id at
  unfolding look_for
  looked_too_far zero p h = h
  looked_too_far (suc n) p h = absurd (omega arith)

pub ruleset lookup = (answers, onward, looking, looked_too_far)

module _ (t : List ThreadRecord) (key : TreeKey) (at : Option ℕ) where
  pub walk_set_out : (rows : List (List ℕ))
      → walk (length rows - 0) t key at (stack rows 0 0) ≡ whole (walk (length rows) t key at [])
  unfolding stack
  walk_set_out rows =
      let all : length rows - 0 ≡ length rows = omega arith in rw all (setting_out (walk (length rows) t key at []))

  walk_step : (s : List Step) (n : ℕ) → 0 < n
      → walk n t key at s
      ≡ on_link at (bottom s)
      (λ i. on_way (way_at t key i) lost lost
      (λ l. walk (n - 1) t key l (record { id = i; right = false } ∷ s))
      (λ l. walk (n - 1) t key l (record { id = i; right = true } ∷ s)))
  unfolding walk
  walk_step s zero h = absurd (omega arith)
  walk_step s (suc n) h = simp unary_clauses

  pub walking : {y : Walk} (s : List Step) (m n : ℕ) → n < m
      → y
      ≡ on_link at (bottom s)
      (λ i. on_way (way_at t key i) lost lost
      (λ l. walk (m - (n + 1)) t key l (record { id = i; right = false } ∷ s))
      (λ l. walk (m - (n + 1)) t key l (record { id = i; right = true } ∷ s)))
      → y ≡ walk (m - n) t key at s
  walking s m n p h =
      let room : 0 < m - n = omega arith in
      let one : m - n - 1 ≡ m - (n + 1) = omega arith in
      rw (walk_step s (m - n) room, one) h

  pub walked_far : {y : Walk} (s : List Step) (m n : ℕ) → m ≤ n → y ≡ on_link at (bottom s) (λ i. lost)
      → y ≡ walk (m - n) t key at s
  unfolding walk
  walked_far s m n p h = let full : m - n ≡ 0 = omega arith in rw full h

  -- What is left of the way once a step was stored.
  pub walk_stored : {w : Walk} (rows : List (List ℕ)) (n : ℕ) (row : List ℕ) → n < length rows
      → walk (length rows - (n + 1)) t key at (step_of row ∷ stack rows 0 n) ≡ w
      → walk (length (set rows n row) - (n + 1)) t key at (stack (set rows n row) 0 (n + 1)) ≡ w
  walk_stored rows n row p h =
      let end : n ≡ 0 + n = omega arith in rw (length-set rows n row, push rows 0 n n row end p) h

pub walk_bottom : {w : Walk} (rows : List (List ℕ)) (n : ℕ) → bottom (stack rows 0 n) ≡ w
    → walk_of (Ok n) rows ≡ w
unfolding walk_of
walk_bottom rows n h = h

pub walk_lost : {w : Walk} (rows : List (List ℕ)) → lost ≡ w → walk_of (Err damage) rows ≡ w
unfolding walk_of
walk_lost rows h = h

pub ruleset walks = (answers, onward, walking, walked_far, walk_stored, walk_bottom, walk_lost)

-- How far the walk may have come.
pub bottom_steps : (n m : ℕ) → n ≤ m → walk_steps (Ok n) ≤ m
unfolding walk_steps
bottom_steps n m h = h

pub lost_steps : (m : ℕ) → walk_steps (Err damage) ≤ m
unfolding walk_steps
lost_steps m = omega arith

pub walk_within : (r : Result ℕ Damaged) (n m : ℕ) → walk_steps r ≤ m → r ≡ Ok n → 0 + n ≤ m
unfolding walk_steps
walk_within r n m h e = let h : n ≤ m = rw e at h in omega arith

module _ {y : Out (Result (Option ℕ) Damaged)} (rows : List (List ℕ)) (first n : ℕ) (t : List ThreadRecord) (sub :
    Option ℕ) where
  pub up : 0 < n
      → y ≡ on_turned (rebuild_step t (step_of (get_or rows (first + (n - 1)) [])) sub) (out (Err damage))
      (λ top t₁. rebuild (stack rows first (n - 1)) t₁ (Some top))
      → y ≡ rebuild (stack rows first n) t sub
  unfolding rebuild
  up p h = rw (pop rows first n p) h

  pub on_top : n ≤ 0 → y ≡ out (Ok sub) t → y ≡ rebuild (stack rows first n) t sub
  unfolding rebuild
  on_top p h = rw (no_steps rows first n p) h

pub ruleset ascent = (answers, onward, up, on_top)

module _ (rows : List (List ℕ)) (n : ℕ) (full : length rows - n ≡ 0) where
  last_by : (x : Sought) → search_of
      (on_sought x searched.Damaged (λ l. searched.Found n l) (λ l. searched.Damaged) (λ l. searched.Damaged)) rows
      ≡ on_sought x missing (λ l. found (stack rows 0 n) l 0) (λ l. missing) (λ l. missing)
  unfolding on_sought search_of
  last_by (sought.Left l) = refl
  last_by (sought.Right l) = refl
  last_by (sought.Found l) = rw full
  last_by sought.Damaged = refl

  last_at_lem : (t : List ThreadRecord) (key : TreeKey) (id : ℕ) (at : Option ℕ)
      → search_of (on_link at searched.Damaged
      (λ i. on_sought (sought_at t key id i) searched.Damaged (λ l. searched.Found n l) (λ l. searched.Damaged)
      (λ l. searched.Damaged))) rows
      ≡ on_link at missing (λ i. on_sought (sought_at t key id i) missing (λ l. found (stack rows 0 n) l 0)
      (λ l. missing)
      (λ l. missing))
  unfolding on_link search_of
  last_at_lem t key id None = refl
  last_at_lem t key id (Some i) = last_by (sought_at t key id i)

module _ (t : List ThreadRecord) (key : TreeKey) (id : ℕ) (at : Option ℕ) where
  pub search_set_out : (rows : List (List ℕ))
      → search (length rows - 0) t key id at (stack rows 0 0) ≡ whole (search (length rows) t key id at [])
  unfolding stack
  search_set_out rows =
      let all : length rows - 0 ≡ length rows = omega arith in
      rw all (setting_out (search (length rows) t key id at []))

  search_step : (s : List Step) (n : ℕ) → 0 < n
      → search n t key id at s
      ≡ on_link at missing
      (λ i. on_sought (sought_at t key id i) missing (λ l. found s l n)
      (λ l. search (n - 1) t key id l (record { id = i; right = false } ∷ s))
      (λ l. search (n - 1) t key id l (record { id = i; right = true } ∷ s)))
  unfolding search
  search_step s zero h = absurd (omega arith)
  search_step s (suc n) h = simp unary_clauses

  pub searching : {y : Search} (s : List Step) (m n : ℕ) → n < m
      → y
      ≡ on_link at missing
      (λ i. on_sought (sought_at t key id i) missing (λ l. found s l (m - n))
      (λ l. search (m - (n + 1)) t key id l (record { id = i; right = false } ∷ s))
      (λ l. search (m - (n + 1)) t key id l (record { id = i; right = true } ∷ s)))
      → y ≡ search (m - n) t key id at s
  searching s m n p h =
      let room : 0 < m - n = omega arith in
      let one : m - n - 1 ≡ m - (n + 1) = omega arith in
      rw (search_step s (m - n) room, one) h

  -- A full path: what the search finds where it ended.
  last_found : (rows : List (List ℕ)) (n : ℕ) → length rows ≤ n
      → search_of (last_sought t key id at n) rows ≡ search (length rows - n) t key id at (stack rows 0 n)
  unfolding search last_sought
  last_found rows n p = let full : length rows - n ≡ 0 = omega arith in rw full (last_at_lem rows n full t key id at)

  pub searched_far : {w : Search} {r : Searched} (rows : List (List ℕ)) (n : ℕ) → length rows ≤ n
      → r ≡ last_sought t key id at n → search (length rows - n) t key id at (stack rows 0 n) ≡ w → search_of r rows ≡ w
  searched_far rows n p e h = rw e (last_found rows n p ∙ h)

  pub search_stored : {w : Search} (rows : List (List ℕ)) (n : ℕ) (row : List ℕ) → n < length rows
      → search (length rows - (n + 1)) t key id at (step_of row ∷ stack rows 0 n) ≡ w
      → search (length (set rows n row) - (n + 1)) t key id at (stack (set rows n row) 0 (n + 1)) ≡ w
  search_stored rows n row p h =
      let end : n ≡ 0 + n = omega arith in rw (length-set rows n row, push rows 0 n n row end p) h

pub search_found : {w : Search} (rows : List (List ℕ)) (n : ℕ) (l : Links)
    → found (stack rows 0 n) l (length rows - n) ≡ w → search_of (searched.Found n l) rows ≡ w
unfolding search_of
search_found rows n l h = h

pub search_missing : {w : Search} (rows : List (List ℕ)) → missing ≡ w → search_of searched.Damaged rows ≡ w
unfolding search_of
search_missing rows h = h

pub ruleset searches = (answers, onward, searching, searched_far, search_stored, search_found, search_missing)

pub found_steps : (n : ℕ) (l : Links) (m : ℕ) → n ≤ m → search_steps (searched.Found n l) ≤ m
unfolding search_steps
found_steps n l m h = h

pub missing_steps : (m : ℕ) → search_steps searched.Damaged ≤ m
unfolding search_steps
missing_steps m = omega arith

last_steps_by : (x : Sought) (n m : ℕ) → n ≤ m
    → search_steps (on_sought x searched.Damaged (λ l. searched.Found n l) (λ l. searched.Damaged)
    (λ l. searched.Damaged)) ≤ m
unfolding on_sought search_steps
last_steps_by (sought.Left l) n m h = omega arith
last_steps_by (sought.Right l) n m h = omega arith
last_steps_by (sought.Found l) n m h = h
last_steps_by sought.Damaged n m h = omega arith

last_steps_at : (t : List ThreadRecord) (key : TreeKey) (id : ℕ) (at : Option ℕ) (n m : ℕ) → n ≤ m
    → search_steps (last_sought t key id at n) ≤ m
unfolding last_sought on_link search_steps
last_steps_at t key id None n m h = omega arith
last_steps_at t key id (Some i) n m h = last_steps_by (sought_at t key id i) n m h

pub last_steps : {r : Searched} (t : List ThreadRecord) (key : TreeKey) (id : ℕ) (at : Option ℕ) (n m : ℕ)
    → r ≡ last_sought t key id at n → n ≤ m → search_steps r ≤ m
last_steps t key id at n m e h = rw e (last_steps_at t key id at n m h)

pub search_within : (r : Searched) (n : ℕ) (l : Links) (m : ℕ) → search_steps r ≤ m → r ≡ searched.Found n l → n ≤ m
unfolding search_steps
search_within r n l m h e = rw e at h

module _ (t : List ThreadRecord) (i : ℕ) where
  pub successor_set_out : (rows : List (List ℕ)) (first : ℕ)
      → successor (length rows - (first + 0)) t i (stack rows first 0) ≡ whole (successor (length rows - first) t i [])
  unfolding stack
  successor_set_out rows first =
      let all : length rows - (first + 0) ≡ length rows - first = omega arith in
      rw all (setting_out (successor (length rows - first) t i []))

  abbrev succeed_on : List Step → ℕ → ℕ → Successor
  succeed_on s m n =
      on_links (links_at t i) none
      (λ l. on_link l.left (next s i l.right)
      (λ j. if_less n m (successor (m - (n + 1)) t j (record { id = i; right = false } ∷ s)) none))

  successor_step : (s : List Step) (m n : ℕ) (b : Bool) → ltb n m ≡ b → successor (m - n) t i s ≡ succeed_on s m n
  unfolding successor if_less choose
  successor_step s m n true e =
      let p : n < m = ltb-true n m e in
      let room : m - n ≡ suc (m - (n + 1)) = omega arith in
      rw (e, room)
  successor_step s m n false e =
      let p : m ≤ n = ltb-false n m e in
      let full : m - n ≡ 0 = omega arith in
      rw (e, full)

  pub succeeding : {y : Successor} (s : List Step) (m n : ℕ) → y ≡ succeed_on s m n → y ≡ successor (m - n) t i s
  succeeding s m n h = h ∙ sym (successor_step s m n (ltb n m) refl)

  pub successor_stored : {w : Successor} (rows : List (List ℕ)) (first n : ℕ) (row : List ℕ) → first + n < length rows
      → successor (length rows - (first + n + 1)) t i (step_of row ∷ stack rows first n) ≡ w
      → successor (length (set rows (first + n) row) - (first + (n + 1))) t i
      (stack (set rows (first + n) row) first (n + 1)) ≡ w
  successor_stored rows first n row p h =
      let one : first + (n + 1) ≡ first + n + 1 = omega arith in
      rw (length-set rows (first + n) row, push rows first (first + n) n row refl p, one) h

pub successor_next : {w : Successor} (rows : List (List ℕ)) (first n i : ℕ) (r : Option ℕ)
    → next (stack rows first n) i r ≡ w → successor_of (succeeded.Next n i r) rows first ≡ w
unfolding successor_of
successor_next rows first n i r h = h

pub successor_none : {w : Successor} (rows : List (List ℕ)) (first : ℕ) → none ≡ w
    → successor_of succeeded.Damaged rows first ≡ w
unfolding successor_of
successor_none rows first h = h

pub ruleset successions = (answers, onward, succeeding, successor_stored, successor_next, successor_none)

pub next_steps : (first n i : ℕ) (r : Option ℕ) (m : ℕ) → first + n ≤ m
    → first + successor_steps (succeeded.Next n i r) ≤ m
unfolding successor_steps
next_steps first n i r m h = h

pub none_steps : (first m : ℕ) → first ≤ m → first + successor_steps succeeded.Damaged ≤ m
unfolding successor_steps
none_steps first m h = omega arith

pub successor_within : (r : Succeeded) (first n i : ℕ) (l : Option ℕ) (m : ℕ) → first + successor_steps r ≤ m
    → r ≡ succeeded.Next n i l → first + n ≤ m
unfolding successor_steps
successor_within r first n i l m h e = rw e at h

-- A store above the first part of the path leaves that part.
pub below_kept : {s : List Step} (rows : List (List ℕ)) (n m : ℕ) (row : List ℕ) → stack rows 0 n ≡ s
    → stack (set rows (n + m) row) 0 n ≡ s
below_kept rows n m row e = let low : 0 + n ≤ n + m = omega arith in kept rows 0 (n + m) n row low ∙ e
