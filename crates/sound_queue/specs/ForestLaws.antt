-- A thread put into one of the twelve trees and taken out of it, and what else may change.
use Rattle.std.specs.Prelude.{◌≡◌, refl, Bool, true, false, ◌≢◌, List, ◌∷◌, ℕ, ◌≤◌, ◌<◌, length, get_or, set, eqb, Ok}
use Rattle.std.proofs.Common.{sym, ap, ◌∙◌, arith, length-set, get_or-set_same, get_or-set_other, eqb-true, eq-eqb}
use Rattle.std.proofs.Common.{ne_eqb}
use Rattle.std.proofs.lemmas.Bool.{eqb-false}
use Rattle.refusal.specs.Cases.{choose}
use Rattle.avl.specs.Tree.{Tree, in_order, Balanced}
use Rattle.thread.specs.declared.ThreadRecord.{ThreadRecord}
use Rattle.rows.specs.Table.{links_at, key_at, max_records}
use Rattle.ready_index.specs.Index.{contains, insert, remove}
use Rattle.sound_index.specs.Holds.{root, Holds, has}
use Rattle.sound_index.specs.TableLaws.{besides_length}
use Rattle.sound_index.specs.HasLaws.{has_added}
use Rattle.sound_index.specs.HoldsLaws.{holds_still}
use Rattle.sound_index.specs.Outcomes.{OnlyLinks, Inserted, Removed}
use Rattle.sound_index.proofs.Demand2.{held_inside, contains_tells, insertion, removal, other_tree}
use Rattle.queue.specs.declared.Root.{Root}
use Rattle.queue.specs.Queue.{empty_root}
use Rattle.sound_queue.specs.Forest.{Forest, placed, Replanted}
use Rattle.sound_queue.specs.PlaceLaws.{joined_here, joined_else, left_here, left_else}
use Rattle.queue.specs.RunQueue.{tree_count}

-- The trees stand in every table of up to 4,096 records in which their threads have the same tree links and keys.
pub forest_still : {roots : List Root} {t : List ThreadRecord} {place : ℕ → ℕ} (s : List ThreadRecord)
    → length s ≤ max_records
    → ((j : ℕ) → place j < tree_count → (links_at s j ≡ links_at t j) × (key_at s j ≡ key_at t j))
    → Forest roots t place
    → Forest roots s place
forest_still {roots} {t} {place} s n h F = record {
  trees = F.trees;
  small = n;
  twelve = F.twelve;
  rooted = F.rooted;
  holds =
      λ k b. holds_still t s (F.trees k) (λ j e. (h j (inside j k b e)).0) (λ j e. (h j (inside j k b e)).1)
      (F.holds k b);
  balanced = F.balanced;
  exact = F.exact;
}
  where
    inside : (j k : ℕ) → k < tree_count → has j (in_order (F.trees k)) ≡ true → place j < tree_count
    inside j k b e = let q = eqb-true (place j) k (sym (F.exact j k b) ∙ e) in omega arith

module _ {roots : List Root} {t : List ThreadRecord} {place : ℕ → ℕ} (F : Forest roots t place) where
  -- A thread that stands in a tree is in the table.
  pub placed_inside : (j : ℕ) → place j < tree_count → j < length t
  placed_inside j b =
      held_inside t (F.trees (place j)) j (F.holds (place j) b)
      (F.exact j (place j) b ∙ eq-eqb (place j) (place j) refl)

  -- `contains` tells whether a thread of the table stands in a tree.
  pub contains_placed : (i k : ℕ) → k < tree_count → i < length t
      → contains t (get_or roots k empty_root).root i ≡ choose (eqb (place i) k) (Ok true) (Ok false)
  contains_placed i k b l =
      rw (F.rooted k b) (contains_tells t (F.trees k) i (F.holds k b) (F.balanced k b) F.small l
      ∙ ap (λ x. choose x (Ok true) (Ok false)) (F.exact i k b))

  module _ (k : ℕ) (b : k < tree_count) where
    -- One tree in the place of another, of whose list l alone the records changed.
    retree : (s : List ThreadRecord) (y : Tree) (l : List ℕ) (after : ℕ → ℕ) → OnlyLinks l t s → Holds s y → Balanced y
        → ((j m : ℕ) → m < tree_count → m ≢ k → place j ≡ m → has j l ≡ false)
        → ((j : ℕ) → has j (in_order y) ≡ eqb (after j) k)
        → ((j m : ℕ) → m < tree_count → m ≢ k → eqb (place j) m ≡ eqb (after j) m)
        → Forest (set roots k (record { root = root y })) s after
    retree s y l after o h v apart here else = record {
      trees = trees;
      small = omega (arith, besides_length t s o.besides, F.small);
      twelve = length-set roots k (record { root = root y }) ∙ F.twelve;
      rooted = λ m c. rooted_by m c (eqb m k) refl;
      holds = λ m c. holds_by m c (eqb m k) refl;
      balanced = λ m c. balanced_by m c (eqb m k);
      exact = λ j m c. exact_by j m c (eqb m k) refl;
    }
      where
        tree_if : Bool → ℕ → Tree
        tree_if true m = y
        tree_if false m = F.trees m

        trees : ℕ → Tree
        trees m = tree_if (eqb m k) m

        rooted_by : (m : ℕ) → m < tree_count → (x : Bool) → eqb m k ≡ x
            → (get_or (set roots k (record { root = root y })) m empty_root).root ≡ root (tree_if x m)
        rooted_by m c true e =
            let z = eqb-true m k e in
            rw z (ap (λ (r : Root). r.root)
            (get_or-set_same roots k (record { root = root y }) empty_root (omega (arith, F.twelve))))
        rooted_by m c false e =
            ap (λ (r : Root). r.root) (get_or-set_other roots k m (record { root = root y }) empty_root
            (eqb-false m k e))
            ∙ F.rooted m c

        holds_by : (m : ℕ) → m < tree_count → (x : Bool) → eqb m k ≡ x → Holds s (tree_if x m)
        holds_by m c true e = h
        holds_by m c false e =
            other_tree t s l (F.trees m) o
            (λ j q. apart j m c (eqb-false m k e) (eqb-true (place j) m (sym (F.exact j m c) ∙ q))) (F.holds m c)

        balanced_by : (m : ℕ) → m < tree_count → (x : Bool) → Balanced (tree_if x m)
        balanced_by m c true = v
        balanced_by m c false = F.balanced m c

        exact_by : (j m : ℕ) → m < tree_count → (x : Bool) → eqb m k ≡ x
            → has j (in_order (tree_if x m)) ≡ eqb (after j) m
        exact_by j m c true e = here j ∙ ap (eqb (after j)) (sym (eqb-true m k e))
        exact_by j m c false e = F.exact j m c ∙ else j m c (eqb-false m k e)

    -- A thread that stands in no tree, put into tree k.
    module _ (i : ℕ) (n : tree_count ≤ place i) where
      put_apart : (j m : ℕ) → m < tree_count → m ≢ k → place j ≡ m → has j (i ∷ in_order (F.trees k)) ≡ false
      put_apart j m c d e =
          rw (ne_eqb j i (λ z. let w : place j ≡ place i = ap place z in omega arith))
          (F.exact j k b ∙ ne_eqb (place j) k (λ z. d (sym e ∙ z)))

      planted_by : Inserted t (F.trees k) i (insert t (root (F.trees k)) i)
          → Replanted roots t k i place (placed i k place) (insert t (get_or roots k empty_root).root i)
      planted_by I = record {
        table = I.table;
        link = root I.tree;
        is = rw (F.rooted k b) I.is;
        forest =
            retree I.table I.tree (i ∷ in_order (F.trees k)) (placed i k place) I.only I.holds I.balanced
            put_apart
            (joined_here tree_count i k place b (λ j. has j (in_order (F.trees k))) (λ j. has j (in_order I.tree))
            (λ j. F.exact j k b)
            (λ j e. rw (ne_eqb j i e) at (has_added (in_order (F.trees k)) i (in_order I.tree) I.added j))
            (rw (eq-eqb i i refl) at (has_added (in_order (F.trees k)) i (in_order I.tree) I.added i)))
            (λ j m c d. joined_else tree_count i k place j m c d n);
        besides = I.only.besides;
        others =
            λ j c d. I.only.records j (rw (ne_eqb j i d) (F.exact j k b ∙ ne_eqb (place j) k (λ z. omega arith)));
      }

      -- A thread of the table that stands in no tree is accepted by tree k, and then stands there.
      pub planted : i < length t → Replanted roots t k i place (placed i k place)
          (insert t (get_or roots k empty_root).root i)
      planted l =
          planted_by (insertion t (F.trees k) i (F.holds k b) (F.balanced k b) F.small l
          (F.exact i k b ∙ ne_eqb (place i) k (λ z. omega arith)))

    -- A thread that stands in tree k, taken out of it.
    module _ (i : ℕ) (n : place i ≡ k) where
      uprooted_by : Removed t (F.trees k) i (remove t (root (F.trees k)) i)
          → Replanted roots t k i place (placed i tree_count place) (remove t (get_or roots k empty_root).root i)
      uprooted_by R = record {
        table = R.table;
        link = root R.tree;
        is = rw (F.rooted k b) R.is;
        forest =
            retree R.table R.tree (in_order (F.trees k)) (placed i tree_count place) R.only R.holds
            R.balanced
            (λ j m c d e. F.exact j k b ∙ ne_eqb (place j) k (λ z. d (sym e ∙ z)))
            (left_here tree_count i k place b (λ j. has j (in_order (F.trees k))) (λ j. has j (in_order R.tree))
            (λ j. F.exact j k b)
            (λ j e. sym (rw (ne_eqb j i e) at (has_added (in_order R.tree) i (in_order (F.trees k)) R.removed j)))
            R.gone)
            (λ j m c d. left_else tree_count i k place j m c d n);
        besides = R.only.besides;
        others = λ j c d. R.only.records j (F.exact j k b ∙ ne_eqb (place j) k (λ z. omega arith));
      }

      -- A thread that stands in tree k is taken out of it, and then stands in none.
      pub uprooted : Replanted roots t k i place (placed i tree_count place)
          (remove t (get_or roots k empty_root).root i)
      uprooted =
          uprooted_by (removal t (F.trees k) i (F.holds k b) (F.balanced k b) F.small
          (F.exact i k b ∙ eq-eqb (place i) k n))
