-- Insertion keeps balance and adds one thread in its place.
use Rattle.std.proofs.Common.{◌∙◌, arith, append_assoc}
use Rattle.std.specs.Prelude.{ℕ, List}
use Rattle.avl.specs.Tree.{leaf, node, in_order, Balanced}
use Rattle.avl.specs.Path.{Frame, plug, before, after}
use Rattle.avl.specs.Operations.{insert_at, Added}
use Rattle.avl.proofs.InOrder.{plug_in_order, rebuild_in_order}
use Rattle.avl.proofs.Rebuild.{rebuild_balanced, balanced_at}

-- The tree's threads in order are the earlier ones with i added between what lies left and right of the path.
pub insertion_in_order : (z : List Frame) (i : ℕ) → Added (in_order (plug z leaf)) i (in_order (insert_at z i))
unfolding in_order
insertion_in_order z i = record {
  left = before z;
  right = after z;
  without = plug_in_order z leaf ∙ simp append_assoc;
  with = rebuild_in_order z (node leaf i leaf) ∙ simp append_assoc;
}

-- Insertion at the end of a path to a leaf of a balanced tree gives a balanced tree.
pub insertion_balanced : (z : List Frame) (i : ℕ) → Balanced (plug z leaf) → Balanced (insert_at z i)
insertion_balanced z i b = (rebuild_balanced z leaf (node leaf i leaf) (balanced_at z leaf b).frames
    (record { left = tt; right = tt; near = (omega arith, omega arith) }) (omega arith, omega arith)).balanced
