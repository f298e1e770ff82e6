-- Laws for going by an ordering.
use Rattle.std.specs.Prelude.{◌≡◌, refl, List, [], ◌∷◌, ℕ, ◌<◌, ◌≤◌}
use Rattle.std.proofs.Common.{sym, ◌∙◌, arith}
use Rattle.std.specs.declared.cmp.Ordering.{Ordering}
use Rattle.std.specs.declared.cmp.Ordering.TheVariants.{Less, Equal, Greater}
use Rattle.order.specs.Order.{then_by, compare_parts, on_ordering}
use Rattle.order.specs.StrictOrder.{compare_less, compare_greater, compare_equal}

module _ {A : Type 0} {y : A} {r x : Ordering} (a b c : A) where
  pub is_less_lem : r ≡ x → r ≡ Less → y ≡ a → y ≡ on_ordering x a b c
  unfolding on_ordering
  is_less_lem e m h = rw (sym e ∙ m) h

  pub is_equal : r ≡ x → r ≡ Equal → y ≡ b → y ≡ on_ordering x a b c
  unfolding on_ordering
  is_equal e m h = rw (sym e ∙ m) h

  pub is_greater : r ≡ x → r ≡ Greater → y ≡ c → y ≡ on_ordering x a b c
  unfolding on_ordering
  is_greater e m h = rw (sym e ∙ m) h

pub ruleset orderings = (is_less_lem, is_equal, is_greater)

-- By the first part that differs.
module _ (x y : ℕ) (more rest : List ℕ) where
  pub part_less : x < y → Less ≡ compare_parts (x ∷ more) (y ∷ rest)
  unfolding compare_parts then_by
  part_less h = rw (compare_less x y h)

  pub part_greater : y < x → Greater ≡ compare_parts (x ∷ more) (y ∷ rest)
  unfolding compare_parts then_by
  part_greater h = rw (compare_greater x y h)

  pub part_equal : {r : Ordering} → y ≤ x → x ≤ y → r ≡ compare_parts more rest
      → r ≡ compare_parts (x ∷ more) (y ∷ rest)
  unfolding compare_parts then_by
  part_equal h k e = rw (compare_equal x y (omega arith)) e

pub no_parts : Equal ≡ compare_parts [] []
unfolding compare_parts
no_parts = refl

pub ruleset parts = (part_less, part_greater, part_equal, no_parts)
