-- Laws of tree keys: the comparison part by part, and that equal keys have equal parts.
use Rattle.std.specs.Prelude.{ℕ, ◌<◌, ◌≤◌, ◌≡◌, refl}
use Rattle.std.proofs.Common.{arith}
use Rattle.std.specs.declared.cmp.Ordering.{Ordering}
use Rattle.std.specs.declared.cmp.Ordering.TheVariants.{Less, Equal, Greater}
use Rattle.order.specs.Order.{compare_numbers, then_by, compare_parts}
use Rattle.order.specs.StrictOrder.{compare_less, compare_greater, compare_equal}
use Rattle.thread.specs.declared.TreeKey.{TreeKey}
use Rattle.thread.specs.TreeKey.{parts, compare_from_turn, compare_from_band, compare_from_low, compare_tree_keys}

pub then_nothing : (x : Ordering) → then_by x Equal ≡ x
unfolding then_by
then_nothing Less = refl
then_nothing Equal = refl
then_nothing Greater = refl

-- By the numbers of a part: they decide, or the later parts do.
module _ {y : Ordering} (n m : ℕ) (z : Ordering) where
  pub decided_less : n < m → y ≡ Less → y ≡ then_by (compare_numbers n m) z
  unfolding then_by
  decided_less p h = rw (compare_less n m p) h

  pub decided_greater : m < n → y ≡ Greater → y ≡ then_by (compare_numbers n m) z
  unfolding then_by
  decided_greater p h = rw (compare_greater n m p) h

  pub left_open : m ≤ n → n ≤ m → y ≡ z → y ≡ then_by (compare_numbers n m) z
  unfolding then_by
  left_open p q h = rw (compare_equal n m (omega arith)) h

-- The first part of a whole key, and then the others.
pub whole_key : (a b : TreeKey) {y : Ordering}
    → y ≡ then_by (compare_numbers a.algorithm.high b.algorithm.high) (compare_from_low a b)
    → y ≡ compare_tree_keys a b
unfolding compare_tree_keys parts compare_parts compare_from_low compare_from_band compare_from_turn
whole_key a b h = rw (then_nothing (compare_numbers a.id b.id)) h

pub ruleset part_by_part = (decided_less, decided_greater, left_open, whole_key)
