-- Laws of reading after a store: the record stored is the one read at that number, and every other record and part is
-- as it was.
use Rattle.std.specs.Prelude.{ℕ, ◌<◌, ◌≤◌, ◌≡◌, Bool, List, [], eqb, length, get_or, Option, Result, Result, Ok, Err}
use Rattle.refusal.specs.declared.Damaged.{Damaged}
use Rattle.refusal.specs.Answer.{damage}
use Rattle.std.proofs.Common.{◌∙◌}
use Rattle.std.proofs.Math.Path.{refl, sym, ap}
use Rattle.std.proofs.Math.Bool.{true, false}
use Rattle.std.proofs.Math.Dec.{ltb}
use Rattle.std.proofs.Math.ListN.{length-set}
use borrow.Author.Tests.{lt-ltb, le-ltb, ltb-true, ltb-false, eqb-true, eqb-false}
use Rattle.std.proofs.Math.Seq.{get_or-set_same, get_or-set_other, set_out}
use Rattle.refusal.specs.Cases.{never, choose, if_less}
use Rattle.policy.specs.declared.SchedulingParameters.{SchedulingParameters}
use Rattle.policy.specs.declared.SchedulingPolicy.TheVariants as policy
use Rattle.policy.specs.PolicyCases.{on_policy}
use Rattle.algorithms.specs.declared.PolicyRuntime.{PolicyRuntime}
use Rattle.thread.specs.declared.Links.{Links}
use Rattle.thread.specs.declared.QueueLinks.{QueueLinks}
use Rattle.thread.specs.declared.ThreadRecord.{ThreadRecord}
use Rattle.thread.specs.declared.TreeKey.{TreeKey}
use Rattle.thread.specs.Records.{with_runtime, with_turn, with_links, with_left, with_right, with_queue_links}
use Rattle.thread.specs.TreeKey.{algorithm_key, tree_key, ready_index_key}
use Rattle.codec.specs.Codec.{decoded}
use Rattle.rows.specs.Table.{out, after, record_of, changed, reading, storing, links_at, key_at, queue_links_at}
use Rattle.rows.specs.Table.{record_at, set_links, set_left, set_right, set_height, set_queue_links, set_runtime}
use Rattle.rows.specs.Table.{set_turn}
use Rattle.rows.specs.TableCases.{on_links}
use Rattle.refusal.specs.declared.Damaged.{Damaged}

module _ (t : List ThreadRecord) (i : ℕ) (f : ThreadRecord → ThreadRecord) where
  pub length_changed : length (changed t i f) ≡ length t
  unfolding changed
  length_changed = length-set t i (f (record_of t i))

  pub record_same : i < length t → record_of (changed t i f) i ≡ f (record_of t i)
  unfolding changed record_of
  record_same h = get_or-set_same t i (f (get_or t i (decoded []))) (decoded []) h

  pub record_other : (j : ℕ) → (j ≡ i → ⊥) → record_of (changed t i f) j ≡ record_of t j
  unfolding changed record_of
  record_other j h = get_or-set_other t i j (f (get_or t i (decoded []))) (decoded []) h

  pub changed_beyond : length t ≤ i → changed t i f ≡ t
  unfolding changed
  changed_beyond h = set_out t i (f (record_of t i)) h

  -- Whether the store is made or not, the table is left as changed.
  pub after_storing : after (storing t i f) ≡ changed t i f
  unfolding storing if_less choose
  after_storing = go (ltb i (length t)) refl
    where
      go : (b : Bool) → ltb i (length t) ≡ b
          → after {A = Result (Unit {0}) Damaged} (choose b (out (Ok tt) (changed t i f)) (out (Err damage) t))
          ≡ changed t i f
      go true e = refl
      go false e = sym (changed_beyond (ltb-false i (length t) e))

  pub storing_within : i < length t → storing t i f ≡ out (Ok tt) (changed t i f)
  unfolding storing if_less choose
  storing_within h = rw (lt-ltb i (length t) h)

  pub storing_beyond : length t ≤ i → storing t i f ≡ out (Err damage) t
  unfolding storing if_less choose
  storing_beyond h = rw (le-ltb i (length t) h)

module _ {A : Type 0} (t : List ThreadRecord) (i : ℕ) (g : ThreadRecord → A) (d : A) where
  pub reading_within : i < length t → reading t i g d ≡ g (record_of t i)
  unfolding reading if_less choose
  reading_within h = rw (lt-ltb i (length t) h)

  pub reading_beyond : length t ≤ i → reading t i g d ≡ d
  unfolding reading if_less choose
  reading_beyond h = rw (le-ltb i (length t) h)

module _ {A : Type 0} (t : List ThreadRecord) (i : ℕ) (f : ThreadRecord → ThreadRecord) (g : ThreadRecord → A)
    (d : A) where
  pub reading_same : i < length t → reading (changed t i f) i g d ≡ g (f (record_of t i))
  unfolding reading if_less choose
  reading_same h = rw (length_changed t i f, lt-ltb i (length t) h, record_same t i f h)

  pub reading_other : (j : ℕ) → (j ≡ i → ⊥) → reading (changed t i f) j g d ≡ reading t j g d
  unfolding reading if_less choose
  reading_other j h = rw (length_changed t i f, record_other t i f j h)

  -- What f leaves as it was at the changed record is so at every record.
  pub reading_kept : (j : ℕ) → g (f (record_of t i)) ≡ g (record_of t i)
      → reading (changed t i f) j g d ≡ reading t j g d
  reading_kept j h = go (eqb j i) refl (ltb i (length t)) refl
    where
      go : (b : Bool) → eqb j i ≡ b → (c : Bool) → ltb i (length t) ≡ c
          → reading (changed t i f) j g d ≡ reading t j g d
      go false e c k = reading_other j (eqb-false j i e)
      go true e false k =
          ap (λ (s : List ThreadRecord). reading s j g d) (changed_beyond t i f (ltb-false i (length t) k))
      go true e true k =
          rw (eqb-true j i e) (reading_same (ltb-true i (length t) k) ∙ h
          ∙ sym (reading_within t i g d (ltb-true i (length t) k)))

-- What each read gives inside the table, what outside, and that what was got lies inside.
module _ (t : List ThreadRecord) (i : ℕ) where
  pub links_within : i < length t → links_at t i ≡ Ok (record_of t i).ready_tree
  unfolding links_at
  links_within h = reading_within t i (λ (r : ThreadRecord). Ok r.ready_tree) (Err damage) h

  pub links_beyond : length t ≤ i → links_at t i ≡ (Err damage)
  unfolding links_at
  links_beyond h = reading_beyond t i (λ (r : ThreadRecord). Ok r.ready_tree) (Err damage) h

  pub links_got_within : {x : Links} → links_at t i ≡ Ok x → i < length t
  links_got_within {x} e = go (ltb i (length t)) refl
    where
      go : (b : Bool) → ltb i (length t) ≡ b → i < length t
      go true k = ltb-true i (length t) k
      go false k = let f : links_at t i ≡ (Err damage) = links_beyond (ltb-false i (length t) k) in never cc

  pub key_within : i < length t → key_at t i ≡ Ok (ready_index_key (record_of t i) i)
  unfolding key_at
  key_within h = reading_within t i (λ (r : ThreadRecord). Ok (ready_index_key r i)) (Err damage) h

  pub key_beyond : length t ≤ i → key_at t i ≡ (Err damage)
  unfolding key_at
  key_beyond h = reading_beyond t i (λ (r : ThreadRecord). Ok (ready_index_key r i)) (Err damage) h

  pub key_got_within : {x : TreeKey} → key_at t i ≡ Ok x → i < length t
  key_got_within {x} e = go (ltb i (length t)) refl
    where
      go : (b : Bool) → ltb i (length t) ≡ b → i < length t
      go true k = ltb-true i (length t) k
      go false k = let f : key_at t i ≡ (Err damage) = key_beyond (ltb-false i (length t) k) in never cc

  pub queue_links_within : i < length t → queue_links_at t i ≡ Ok (record_of t i).queue_links
  unfolding queue_links_at
  queue_links_within h =
      reading_within t i (λ (r : ThreadRecord). Ok r.queue_links) (Err damage) h

  pub queue_links_beyond : length t ≤ i → queue_links_at t i ≡ (Err damage)
  unfolding queue_links_at
  queue_links_beyond h =
      reading_beyond t i (λ (r : ThreadRecord). Ok r.queue_links) (Err damage) h

  pub queue_links_got_within : {x : QueueLinks} → queue_links_at t i ≡ Ok x → i < length t
  queue_links_got_within {x} e = go (ltb i (length t)) refl
    where
      go : (b : Bool) → ltb i (length t) ≡ b → i < length t
      go true k = ltb-true i (length t) k
      go false k =
          let f : queue_links_at t i ≡ (Err _) =
          queue_links_beyond (ltb-false i (length t) k) in never cc

  pub record_within : i < length t → record_at t i ≡ Ok (record_of t i)
  unfolding record_at
  record_within h = reading_within t i (λ (r : ThreadRecord). Ok r) (Err damage) h

  pub record_beyond : length t ≤ i → record_at t i ≡ (Err damage)
  unfolding record_at
  record_beyond h = reading_beyond t i (λ (r : ThreadRecord). Ok r) (Err damage) h

  pub record_got_within : {x : ThreadRecord} → record_at t i ≡ Ok x → i < length t
  record_got_within {x} e = go (ltb i (length t)) refl
    where
      go : (b : Bool) → ltb i (length t) ≡ b → i < length t
      go true k = ltb-true i (length t) k
      go false k = let f : record_at t i ≡ (Err damage) = record_beyond (ltb-false i (length t) k) in never cc

-- `set_links` changes the tree links of its record and nothing else.
module _ (t : List ThreadRecord) (i : ℕ) (l : Links) where
  pub after_set_links : after (set_links t i l) ≡ changed t i (with_links l)
  unfolding set_links
  after_set_links = after_storing t i (with_links l)

  pub set_links_within : i < length t → set_links t i l ≡ out (Ok tt) (changed t i (with_links l))
  unfolding set_links
  set_links_within h = storing_within t i (with_links l) h

  pub set_links_beyond : length t ≤ i → set_links t i l ≡ out (Err damage) t
  unfolding set_links
  set_links_beyond h = storing_beyond t i (with_links l) h

  pub length_set_links : length (after (set_links t i l)) ≡ length t
  length_set_links = ap (length {A = ThreadRecord}) after_set_links ∙ length_changed t i (with_links l)

  pub record_set_links_same : i < length t
      → record_at (after (set_links t i l)) i ≡ Ok (with_links l (record_of t i))
  unfolding record_at
  record_set_links_same h =
      rw after_set_links (reading_same t i (with_links l) (λ (r : ThreadRecord). Ok r) (Err damage) h)

  pub record_set_links_other : (j : ℕ) → (j ≡ i → ⊥) → record_at (after (set_links t i l)) j ≡ record_at t j
  unfolding record_at
  record_set_links_other j h =
      rw after_set_links (reading_other t i (with_links l) (λ (r : ThreadRecord). Ok r) (Err damage) j h)

  pub links_set_links_same : i < length t → links_at (after (set_links t i l)) i ≡ Ok l
  unfolding links_at
  links_set_links_same h =
      rw after_set_links (reading_same t i (with_links l) (λ (r : ThreadRecord). Ok r.ready_tree)
      (Err damage) h)

  pub links_set_links_other : (j : ℕ) → (j ≡ i → ⊥) → links_at (after (set_links t i l)) j ≡ links_at t j
  unfolding links_at
  links_set_links_other j h =
      rw after_set_links (reading_other t i (with_links l) (λ (r : ThreadRecord). Ok r.ready_tree)
      (Err damage) j h)

  pub key_set_links : (j : ℕ) → key_at (after (set_links t i l)) j ≡ key_at t j
  unfolding key_at ready_index_key
  key_set_links j =
      rw after_set_links (reading_kept t i (with_links l)
      (λ (r : ThreadRecord). Ok (ready_index_key r j)) (Err damage)
      j refl)

  pub queue_links_set_links : (j : ℕ) → queue_links_at (after (set_links t i l)) j ≡ queue_links_at t j
  unfolding queue_links_at
  queue_links_set_links j =
      rw after_set_links (reading_kept t i (with_links l) (λ (r : ThreadRecord). Ok r.queue_links)
      (Err damage) j refl)

-- A store of one tree link or of the height is a store of the links that were read with it.
module _ (t : List ThreadRecord) (i : ℕ) {l : Links} (e : links_at t i ≡ Ok l) where
  links_read : (record_of t i).ready_tree ≡ l
  unfolding on_links
  links_read =
      ap (λ (x : Result Links Damaged). on_links x l (λ m. m)) (sym (links_within t i (links_got_within t i e)) ∙ e)

  pub set_left_links : (sub : Option ℕ)
      → set_left t i sub ≡ set_links t i (record { left = sub; right = l.right; height = l.height })
  unfolding set_left set_links storing changed
  set_left_links sub = rw links_read

  pub set_right_links : (sub : Option ℕ)
      → set_right t i sub ≡ set_links t i (record { left = l.left; right = sub; height = l.height })
  unfolding set_right set_links storing changed
  set_right_links sub = rw links_read

  pub set_height_links : (n : ℕ)
      → set_height t i n ≡ set_links t i (record { left = l.left; right = l.right; height = n })
  unfolding set_height set_links storing changed
  set_height_links n = rw links_read

-- Where no links are read, none is stored.
module _ (t : List ThreadRecord) (i : ℕ) (e : links_at t i ≡ (Err damage)) where
  outside : length t ≤ i
  outside = go (ltb i (length t)) refl
    where
      go : (b : Bool) → ltb i (length t) ≡ b → length t ≤ i
      go true k =
          let f : links_at t i ≡ Ok (record_of t i).ready_tree = links_within t i (ltb-true i (length t) k) in
          never cc
      go false k = ltb-false i (length t) k

  pub set_left_damaged : (sub : Option ℕ) → set_left t i sub ≡ out (Err damage) t
  unfolding set_left
  set_left_damaged sub = storing_beyond t i (with_left sub) outside

  pub set_right_damaged : (sub : Option ℕ) → set_right t i sub ≡ out (Err damage) t
  unfolding set_right
  set_right_damaged sub = storing_beyond t i (with_right sub) outside

-- `set_queue_links` changes the list links of its record and nothing else.
module _ (t : List ThreadRecord) (i : ℕ) (l : QueueLinks) where
  pub after_set_queue_links : after (set_queue_links t i l) ≡ changed t i (with_queue_links l)
  unfolding set_queue_links
  after_set_queue_links = after_storing t i (with_queue_links l)

  pub set_queue_links_within : i < length t → set_queue_links t i l ≡ out (Ok tt) (changed t i (with_queue_links l))
  unfolding set_queue_links
  set_queue_links_within h = storing_within t i (with_queue_links l) h

  pub set_queue_links_beyond : length t ≤ i → set_queue_links t i l ≡ out (Err damage) t
  unfolding set_queue_links
  set_queue_links_beyond h = storing_beyond t i (with_queue_links l) h

  pub length_set_queue_links : length (after (set_queue_links t i l)) ≡ length t
  length_set_queue_links = ap (length {A = ThreadRecord}) after_set_queue_links
      ∙ length_changed t i (with_queue_links l)

  pub record_set_queue_links_same : i < length t
      → record_at (after (set_queue_links t i l)) i ≡ Ok (with_queue_links l (record_of t i))
  unfolding record_at
  record_set_queue_links_same h =
      rw after_set_queue_links (reading_same t i (with_queue_links l) (λ (r : ThreadRecord). Ok r) (Err damage) h)

  pub record_set_queue_links_other : (j : ℕ) → (j ≡ i → ⊥) → record_at (after (set_queue_links t i l)) j ≡ record_at t j
  unfolding record_at
  record_set_queue_links_other j h =
      rw after_set_queue_links (reading_other t i (with_queue_links l)
      (λ (r : ThreadRecord). Ok r) (Err damage) j h)

  pub queue_links_set_queue_links_same : i < length t
      → queue_links_at (after (set_queue_links t i l)) i ≡ Ok l
  unfolding queue_links_at
  queue_links_set_queue_links_same h =
      rw after_set_queue_links (reading_same t i (with_queue_links l)
      (λ (r : ThreadRecord). Ok r.queue_links) (Err damage) h)

  pub queue_links_set_queue_links_other : (j : ℕ) → (j ≡ i → ⊥)
      → queue_links_at (after (set_queue_links t i l)) j ≡ queue_links_at t j
  unfolding queue_links_at
  queue_links_set_queue_links_other j h =
      rw after_set_queue_links (reading_other t i (with_queue_links l)
      (λ (r : ThreadRecord). Ok r.queue_links) (Err damage) j h)

  pub links_set_queue_links : (j : ℕ) → links_at (after (set_queue_links t i l)) j ≡ links_at t j
  unfolding links_at
  links_set_queue_links j =
      rw after_set_queue_links (reading_kept t i (with_queue_links l) (λ (r : ThreadRecord). Ok r.ready_tree)
      (Err damage) j refl)

  pub key_set_queue_links : (j : ℕ) → key_at (after (set_queue_links t i l)) j ≡ key_at t j
  unfolding key_at ready_index_key
  key_set_queue_links j =
      rw after_set_queue_links (reading_kept t i (with_queue_links l)
      (λ (r : ThreadRecord). Ok (ready_index_key r j))
      (Err damage) j refl)

-- `set_runtime` changes the runtime of its record and nothing else; the key where it is the pass.
module _ (t : List ThreadRecord) (i : ℕ) (x : PolicyRuntime) where
  pub after_set_runtime : after (set_runtime t i x) ≡ changed t i (with_runtime x)
  unfolding set_runtime
  after_set_runtime = after_storing t i (with_runtime x)

  pub set_runtime_within : i < length t → set_runtime t i x ≡ out (Ok tt) (changed t i (with_runtime x))
  unfolding set_runtime
  set_runtime_within h = storing_within t i (with_runtime x) h

  pub set_runtime_beyond : length t ≤ i → set_runtime t i x ≡ out (Err damage) t
  unfolding set_runtime
  set_runtime_beyond h = storing_beyond t i (with_runtime x) h

  pub length_set_runtime : length (after (set_runtime t i x)) ≡ length t
  length_set_runtime = ap (length {A = ThreadRecord}) after_set_runtime ∙ length_changed t i (with_runtime x)

  pub record_set_runtime_same : i < length t
      → record_at (after (set_runtime t i x)) i ≡ Ok (with_runtime x (record_of t i))
  unfolding record_at
  record_set_runtime_same h =
      rw after_set_runtime (reading_same t i (with_runtime x) (λ (r : ThreadRecord). Ok r) (Err damage) h)

  pub record_set_runtime_other : (j : ℕ) → (j ≡ i → ⊥) → record_at (after (set_runtime t i x)) j ≡ record_at t j
  unfolding record_at
  record_set_runtime_other j h =
      rw after_set_runtime (reading_other t i (with_runtime x) (λ (r : ThreadRecord). Ok r) (Err damage) j h)

  pub links_set_runtime : (j : ℕ) → links_at (after (set_runtime t i x)) j ≡ links_at t j
  unfolding links_at
  links_set_runtime j =
      rw after_set_runtime (reading_kept t i (with_runtime x) (λ (r : ThreadRecord). Ok r.ready_tree)
      (Err damage) j refl)

  pub queue_links_set_runtime : (j : ℕ) → queue_links_at (after (set_runtime t i x)) j ≡ queue_links_at t j
  unfolding queue_links_at
  queue_links_set_runtime j =
      rw after_set_runtime (reading_kept t i (with_runtime x) (λ (r : ThreadRecord). Ok r.queue_links)
      (Err damage) j refl)

  pub key_set_runtime_other : (j : ℕ) → (j ≡ i → ⊥) → key_at (after (set_runtime t i x)) j ≡ key_at t j
  unfolding key_at
  key_set_runtime_other j h =
      rw after_set_runtime (reading_other t i (with_runtime x) (λ (r : ThreadRecord). Ok (ready_index_key r j))
      (Err damage) j h)

  pub key_set_runtime : (j : ℕ)
      → algorithm_key (record_of t i).parameters x (record_of t i).ready_turn ≡ algorithm_key (record_of t i).parameters
      (record_of t i).runtime (record_of t i).ready_turn
      → key_at (after (set_runtime t i x)) j ≡ key_at t j
  unfolding key_at ready_index_key tree_key
  key_set_runtime j h =
      rw after_set_runtime (reading_kept t i (with_runtime x) (λ (r : ThreadRecord). Ok (ready_index_key r j))
      (Err damage) j (rw h))

-- `set_turn` changes the turn of its record, and with it the key.
module _ (t : List ThreadRecord) (i : ℕ) (n : ℕ) where
  pub after_set_turn : after (set_turn t i n) ≡ changed t i (with_turn n)
  unfolding set_turn
  after_set_turn = after_storing t i (with_turn n)

  pub set_turn_within : i < length t → set_turn t i n ≡ out (Ok tt) (changed t i (with_turn n))
  unfolding set_turn
  set_turn_within h = storing_within t i (with_turn n) h

  pub set_turn_beyond : length t ≤ i → set_turn t i n ≡ out (Err damage) t
  unfolding set_turn
  set_turn_beyond h = storing_beyond t i (with_turn n) h

  pub length_set_turn : length (after (set_turn t i n)) ≡ length t
  length_set_turn = ap (length {A = ThreadRecord}) after_set_turn ∙ length_changed t i (with_turn n)

  pub record_set_turn_same : i < length t
      → record_at (after (set_turn t i n)) i ≡ Ok (with_turn n (record_of t i))
  unfolding record_at
  record_set_turn_same h =
      rw after_set_turn (reading_same t i (with_turn n) (λ (r : ThreadRecord). Ok r) (Err damage) h)

  pub record_set_turn_other : (j : ℕ) → (j ≡ i → ⊥) → record_at (after (set_turn t i n)) j ≡ record_at t j
  unfolding record_at
  record_set_turn_other j h =
      rw after_set_turn (reading_other t i (with_turn n) (λ (r : ThreadRecord). Ok r) (Err damage) j h)

  pub links_set_turn : (j : ℕ) → links_at (after (set_turn t i n)) j ≡ links_at t j
  unfolding links_at
  links_set_turn j =
      rw after_set_turn (reading_kept t i (with_turn n) (λ (r : ThreadRecord). Ok r.ready_tree) (Err damage)
      j refl)

  pub queue_links_set_turn : (j : ℕ) → queue_links_at (after (set_turn t i n)) j ≡ queue_links_at t j
  unfolding queue_links_at
  queue_links_set_turn j =
      rw after_set_turn (reading_kept t i (with_turn n) (λ (r : ThreadRecord). Ok r.queue_links)
      (Err damage) j refl)

  pub key_set_turn_other : (j : ℕ) → (j ≡ i → ⊥) → key_at (after (set_turn t i n)) j ≡ key_at t j
  unfolding key_at
  key_set_turn_other j h =
      rw after_set_turn (reading_other t i (with_turn n) (λ (r : ThreadRecord). Ok (ready_index_key r j))
      (Err damage) j h)

-- The algorithm's part of a key looks at the runtime of a Fair record alone, so a refreshed budget keeps its key.
pub budget_key_kept : (p : SchedulingParameters) (x y : PolicyRuntime) (turn : ℕ) → p.policy ≡ policy.Budget
    → algorithm_key p x turn ≡ algorithm_key p y turn
unfolding algorithm_key on_policy
budget_key_kept p x y turn h = rw h
