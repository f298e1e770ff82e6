-- Document 01's demand 2 on one tree: what the ready index does on a table of up to 4,096 records that holds a balanced
-- tree.
use Rattle.std.specs.Prelude.{◌≡◌, refl, Bool, true, false, ◌≢◌, List, [], ◌∷◌, ℕ, suc, ◌≤◌, ◌<◌, length, eqb, Option}
use Rattle.std.specs.Prelude.{Result, Ok, Err}
use Rattle.refusal.specs.Answer.{damage}
use Rattle.std.proofs.Common.{sym, ap, ◌∙◌, subst, arith, eq-eqb, ne_eqb}
use Rattle.refusal.specs.Cases.{never, choose}
use Rattle.avl.specs.Tree.{Tree, leaf, node, in_order, Balanced}
use Rattle.avl.specs.Operations.{insert_at, remove_at, Added}
use Rattle.avl.proofs.InOrder.{leftmost_first}
use Rattle.avl.proofs.Insertion.{insertion_in_order, insertion_balanced}
use Rattle.avl.proofs.Removal.{removal_in_order, removal_balanced}
use Rattle.thread.specs.declared.TreeKey.{TreeKey}
use Rattle.thread.specs.declared.ThreadRecord.{ThreadRecord}
use Rattle.thread.specs.Membership.{on_link}
use Rattle.rows.specs.Table.{Out, out, links_at, record_at, max_records}
use Rattle.rows.specs.TableCases.{on_key}
use Rattle.ready_index.specs.Index.{first, contains, on_walk, insert, on_search, remove}
use Rattle.sound_index.specs.Holds.{root, Holds, has, besides_links}
use Rattle.rows.specs.TableLaws.{links_got_within, key_beyond}
use Rattle.sound_index.specs.TableLaws.{inside_key, besides_length, besides_key, same_record, record_links}
use Rattle.sound_index.specs.TableLaws.{record_key}
use Rattle.sound_index.specs.Rank.{rank}
use Rattle.sound_index.specs.RankLaws.{rank_most, compare_ranks_lem, rank_injective}
use Rattle.sound_index.specs.Represents.{In, here, in_left, in_right, Read, Represents, Away, Kept}
use Rattle.sound_index.specs.Descents.{descend_is, look_yes, look_no, walk_lost, search_missing}
use Rattle.sound_index.specs.Inserting.{Inserts, insert_is}
use Rattle.sound_index.specs.Removing.{Removes, remove_is}
use Rattle.sound_index.specs.HasLaws.{or_first, or_second, has_added, has_in}
use Rattle.sound_index.specs.HoldsLaws.{holds_represents, represents_rising, represents_linked, carry_rising}
use Rattle.sound_index.specs.HoldsLaws.{holds_still, rekey, fresh_by}
use Rattle.sound_index.specs.Height.{held_height}
use Rattle.sound_index.specs.Outcomes.{OnlyLinks, Inserted, Removed, least_of}
use Rattle.refusal.specs.declared.Damaged.{Damaged}

in_inside : (t : List ThreadRecord) (j : ℕ) (x : Tree) (lo hi : ℕ) (ranks key : ℕ → ℕ) → In j x
    → Represents ranks key t lo hi x → j < length t
in_inside t j leaf lo hi ranks key x3 p = elim x3 [ ]
in_inside t j (node l i r) lo hi ranks key here p = links_got_within t j p.cell
in_inside t j (node l i r) lo hi ranks key (in_left m) p = in_inside t j l lo (key i) ranks key m p.left
in_inside t j (node l i r) lo hi ranks key (in_right m) p = in_inside t j r (suc (key i)) hi ranks key m p.right

-- A thread of the tree is a thread of the table.
pub held_inside : (t : List ThreadRecord) (x : Tree) (j : ℕ) → Holds t x → has j (in_order x) ≡ true → j < length t
held_inside t x j h e = in_inside t j x 0 (suc (length t)) (rank t) (rank t) (has_in j x e) (holds_represents t x h)

not_both : (b : Bool) → b ≡ true → b ≡ false → ⊥
not_both true e f = never cc
not_both false e f = never cc

-- A thread that is not of the tree has another rank than each of the tree's.
other_rank : (t : List ThreadRecord) (x : Tree) (i : ℕ) → Holds t x → i < length t → has i (in_order x) ≡ false
    → (j : ℕ)
    → has j (in_order x) ≡ true → rank t i ≢ rank t j
other_rank t x i h l e j f q =
    let same : i ≡ j = rank_injective t i j l (held_inside t x j h f) q in
    not_both (has i (in_order x)) (ap (λ k. has k (in_order x)) same ∙ f) e

reading : (t : List ThreadRecord) (i : ℕ) → i < length t → (a : TreeKey) × (Read t i a)
reading t i l = let k = inside_key t i l in (k.0, record { inside = l; key = k.1 })

-- `first` names the least thread, and none of an empty tree.
pub first_names_least : (t : List ThreadRecord) (x : Tree) → Holds t x → Balanced x → length t ≤ max_records
    → first t (root x) ≡ least_of (in_order x)
unfolding first on_link in_order
first_names_least t leaf h b n = refl
first_names_least t (node l i r) h b n =
    let f = leftmost_first l i r in
    descend_is (rank t) (rank t) l 40 t 0 (suc (length t)) i r (holds_represents t (node l i r) h)
    (omega (arith, held_height t (node l i r) h b n)) ∙ ap least_of (sym f.1)

contains_yes : (t : List ThreadRecord) (x : Tree) (i : ℕ) (a : TreeKey) → Holds t x → Balanced x
    → length t ≤ max_records
    → Read t i a → has i (in_order x) ≡ true → contains t (root x) i ≡ (Ok true)
unfolding contains on_key
contains_yes t x i a h b n k e =
    rw k.key (look_yes (rank t) (rank t) 40 t 0 (suc (length t)) a (compare_ranks_lem t) k (has_in i x e)
    (holds_represents t x h) (omega (arith, held_height t x h b n)))

contains_no : (t : List ThreadRecord) (x : Tree) (i : ℕ) (a : TreeKey) → Holds t x → Balanced x → length t ≤ max_records
    → Read t i a → has i (in_order x) ≡ false → contains t (root x) i ≡ (Ok false)
unfolding contains on_key
contains_no t x i a h b n k e =
    rw k.key (look_no (rank t) (rank t) x 40 t 0 (suc (length t)) i a (compare_ranks_lem t) k
    (fresh_by (rank t) (rank t) (rank t i) x (other_rank t x i h k.inside e)) (holds_represents t x h)
    (omega (arith, held_height t x h b n)))

-- `contains` answers Yes of a thread of the tree and No of every other of the table.
pub contains_tells : (t : List ThreadRecord) (x : Tree) (i : ℕ) → Holds t x → Balanced x → length t ≤ max_records
    → i < length t
    → contains t (root x) i ≡ choose (has i (in_order x)) (Ok true) (Ok false)
unfolding choose
contains_tells t x i h b n l = let k = reading t i l in go (has i (in_order x)) refl k.0 k.1
  where
    go : (y : Bool) → has i (in_order x) ≡ y → (a : TreeKey) → Read t i a
        → contains t (root x) i ≡ choose y (Ok true) (Ok false)
    go true e a k = contains_yes t x i a h b n k e
    go false e a k = contains_no t x i a h b n k e

-- The ranks at the threads of a list, and elsewhere a number above them all: what is outside of the list is then
-- outside of every interval.
in_list : List ThreadRecord → List ℕ → ℕ → ℕ
in_list t l j = choose (has j l) (rank t j) (suc (length t))

in_list_lem : (t : List ThreadRecord) (l : List ℕ) (j : ℕ) → has j l ≡ true → in_list t l j ≡ rank t j
unfolding in_list choose
in_list_lem t l j e = rw e

not_in_list : (t : List ThreadRecord) (l : List ℕ) (j : ℕ) → has j l ≡ false → in_list t l j ≡ suc (length t)
unfolding in_list choose
not_in_list t l j e = rw e

-- What was stored within the interval was stored in the list.
only_links : (t s : List ThreadRecord) (l : List ℕ) → Kept (rank t) (in_list t l) t 0 (suc (length t)) s
    → OnlyLinks l t s
only_links t s l k =
    let same : (j : ℕ) → has j l ≡ false
    → links_at s j ≡ links_at t j = λ j e. k.above j (omega (arith, not_in_list t l j e)) in
    record { besides = k.besides; records = λ j e. same_record t s j k.besides (same j e) }

-- The table afterwards holds the tree, where the tree's threads are in the list.
holds_after : (t s : List ThreadRecord) (l : List ℕ) (y : Tree) → ((j : ℕ) → has j (in_order y) ≡ true → has j l ≡ true)
    → besides_links s ≡ besides_links t → Represents (rank t) (in_list t l) s 0 (suc (length t)) y → Holds s y
holds_after t s l y f e p =
    let q = rekey (rank t) (in_list t l) (rank t) s 0 (suc (length t)) y (λ j h. sym (in_list_lem t l j (f j h))) p in
    record {
      linked = represents_linked (rank t) (rank t) s 0 (suc (length t)) y q;
      rising =
          carry_rising t s (in_order y) (λ j h. besides_key t s j e)
          (represents_rising t s 0 (suc (length t)) y (besides_length t s e) q);
    }

insertion_outcome : (t : List ThreadRecord) (x : Tree) (i : ℕ) (o : Out (Result (Option ℕ) Damaged)) → Balanced x
    → Inserts (rank t) (in_list t (i ∷ in_order x)) t 0 (suc (length t)) x i o → Inserted t x i o
insertion_outcome t x i o b I =
    let l = i ∷ in_order x in
    let y = insert_at I.path i in
    let a : Added (in_order x) i (in_order y) = subst (λ w. Added (in_order w) i (in_order y)) I.whole
    (insertion_in_order I.path i) in
    let R = I.roots in
    record {
      table = R.table;
      tree = y;
      is = R.is;
      holds =
          holds_after t R.table l y (λ j h. sym (has_added (in_order x) i (in_order y) a j) ∙ h) R.kept.besides
          R.represents;
      balanced = insertion_balanced I.path i (subst Balanced (sym I.whole) b);
      added = a;
      only = only_links t R.table l R.kept;
    }

-- An insertion of a thread that is not of the tree is accepted. It leaves a balanced tree in key order that holds
-- exactly the earlier threads and this one; no record outside of it changes, and of the tree's own only the tree links.
pub insertion : (t : List ThreadRecord) (x : Tree) (i : ℕ) → Holds t x → Balanced x → length t ≤ max_records
    → i < length t → has i (in_order x) ≡ false
    → Inserted t x i (insert t (root x) i)
insertion t x i h b n l e =
    let k = reading t i l in
    let m = i ∷ in_order x in
    let g = in_list t m in
    let agree : (j : ℕ) → has j (in_order x) ≡ true
    → g j ≡ rank t j = λ j f. in_list_lem t m j (or_second (eqb j i) (has j (in_order x)) f) in
    let tie : g i ≡ rank t i = in_list_lem t m i (or_first (eqb i i) (has i (in_order x)) (eq-eqb i i refl)) in
    insertion_outcome t x i (insert t (root x) i) b
    (insert_is (rank t) g t 0 (suc (length t)) x i k.0 (compare_ranks_lem t) k.1
    (rekey (rank t) (rank t) g t 0 (suc (length t)) x agree (holds_represents t x h))
    (omega (arith, held_height t x h b n)) (sym tie) (omega arith) (omega (arith, rank_most t i))
    (fresh_by (rank t) g (rank t i) x (λ j f q. other_rank t x i h l e j f (q ∙ agree j f))))

away_has : (key : ℕ → ℕ) (ranks : ℕ → ℕ) (i : ℕ) (l : List ℕ) → Away ranks key (key i) l → has i l ≡ false
away_has key ranks i [] p = refl
away_has key ranks i (j ∷ l) p = rw (ne_eqb i j (λ e. p.here (ap key (sym e)))) (away_has key ranks i l p.rest)

removal_outcome : (t : List ThreadRecord) (x : Tree) (i : ℕ) (o : Out (Result (Option ℕ) Damaged)) → Balanced x
    → Removes (rank t) (in_list t (in_order x)) t 0 (suc (length t)) x i o → Removed t x i o
removal_outcome t x i o b I =
    let y = remove_at I.path I.left I.right in
    let a : Added (in_order y) i (in_order x) = subst (λ w. Added (in_order y) i (in_order w)) I.whole
    (removal_in_order I.path I.left i I.right I.subtree) in
    let R = I.roots in
    record {
      table = R.table;
      tree = y;
      is = R.is;
      holds = holds_after t R.table (in_order x) y
          (λ j h. has_added (in_order y) i (in_order x) a j ∙ or_second (eqb j i) (has j (in_order y)) h)
          R.kept.besides R.represents;
      balanced = removal_balanced I.path I.left i I.right (subst Balanced (sym I.whole) b);
      removed = a;
      gone = away_has (in_list t (in_order x)) (rank t) i (in_order y) I.gone;
      empty = I.empty;
      only = only_links t R.table (in_order x) R.kept;
    }

-- A removal of a thread of the tree is accepted. It leaves a balanced tree in key order that holds exactly the other
-- threads, and the thread's links empty; no record outside of the tree changes, and of the tree's own only the tree
-- links.
pub removal : (t : List ThreadRecord) (x : Tree) (i : ℕ) → Holds t x → Balanced x → length t ≤ max_records
    → has i (in_order x) ≡ true
    → Removed t x i (remove t (root x) i)
removal t x i h b n e =
    let k = reading t i (held_inside t x i h e) in
    let g = in_list t (in_order x) in
    removal_outcome t x i (remove t (root x) i) b
    (remove_is (rank t) g t 0 (suc (length t)) x i k.0 (compare_ranks_lem t) k.1 (has_in i x e)
    (rekey (rank t) (rank t) g t 0 (suc (length t)) x (in_list_lem t (in_order x)) (holds_represents t x h)) b
    (omega (arith, held_height t x h b n)))

insert_again : (t : List ThreadRecord) (x : Tree) (i : ℕ) (a : TreeKey) → Holds t x → Balanced x
    → length t ≤ max_records
    → Read t i a → has i (in_order x) ≡ true
    → insert t (root x) i ≡ out (Err damage) t
unfolding insert on_key on_walk
insert_again t x i a h b n k e =
    rw (
      k.key,
      walk_lost (rank t) (rank t) 40 t 0 (suc (length t)) a [] (compare_ranks_lem t) k (has_in i x e)
          (holds_represents t x h) (omega (arith, held_height t x h b n)),
    )

-- An equal key refuses, and the table is unchanged. A key ends with its thread's number, so that only a thread of the
-- tree has an equal one.
pub equal_key_refused : (t : List ThreadRecord) (x : Tree) (i : ℕ) → Holds t x → Balanced x → length t ≤ max_records
    → has i (in_order x) ≡ true
    → insert t (root x) i ≡ out (Err damage) t
equal_key_refused t x i h b n e =
    let k = reading t i (held_inside t x i h e) in insert_again t x i k.0 h b n k.1 e

remove_nothing : (t : List ThreadRecord) (x : Tree) (i : ℕ) (a : TreeKey) → Holds t x → Read t i a
    → has i (in_order x) ≡ false
    → remove t (root x) i ≡ out (Err damage) t
unfolding remove on_key on_search
remove_nothing t x i a h k e =
    rw (
      k.key,
      search_missing (rank t) (rank t) x 40 t 0 (suc (length t)) i a [] (compare_ranks_lem t) k
          (fresh_by (rank t) (rank t) (rank t i) x (other_rank t x i h k.inside e)) (holds_represents t x h),
    )

-- A removal of a thread of the table that is not of the tree is refused, and the table is unchanged.
pub absent_refused : (t : List ThreadRecord) (x : Tree) (i : ℕ) → Holds t x → i < length t → has i (in_order x) ≡ false
    → remove t (root x) i ≡ out (Err damage) t
absent_refused t x i h l e = let k = reading t i l in remove_nothing t x i k.0 h k.1 e

-- A number outside of the table is refused by every call, on every table and root, and the table is unchanged.
pub outside_refused : (t : List ThreadRecord) (l : Option ℕ) (i : ℕ) → length t ≤ i
    → (contains t l i ≡ (Err damage)) × (insert t l i ≡ out (Err damage) t)
    × (remove t l i ≡ out (Err damage) t)
unfolding contains insert remove on_key
outside_refused t l i h = (rw (key_beyond t i h), rw (key_beyond t i h), rw (key_beyond t i h))

-- An insertion or a removal in one tree leaves every other tree that has none of its threads.
pub other_tree : (t s : List ThreadRecord) (l : List ℕ) (y : Tree) → OnlyLinks l t s
    → ((j : ℕ) → has j (in_order y) ≡ true → has j l ≡ false) → Holds t y → Holds s y
other_tree t s l y o f h =
    holds_still t s y (λ j e. record_links t s j (held_inside t y j h e) (o.records j (f j e)))
    (λ j e. besides_key t s j o.besides) h

-- A change of records that are not of the tree leaves it.
pub other_records : (t s : List ThreadRecord) (y : Tree)
    → ((j : ℕ) → has j (in_order y) ≡ true → record_at s j ≡ record_at t j) → Holds t y → Holds s y
other_records t s y f h =
    holds_still t s y (λ j e. record_links t s j (held_inside t y j h e) (f j e))
    (λ j e. record_key t s j (held_inside t y j h e) (f j e)) h
