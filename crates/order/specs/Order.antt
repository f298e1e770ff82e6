-- Comparing numbers, and keys part by part: what Rust's derived `Ord` does on fields as they are declared.
use Rattle.std.specs.Prelude.{ℕ, List, [], ◌∷◌}
use Rattle.refusal.specs.Cases.{if_less}
use Rattle.std.specs.declared.cmp.Ordering.{Ordering}
use Rattle.std.specs.declared.cmp.Ordering.TheVariants.{Less, Equal, Greater}

unfoldable pub compare_numbers : ℕ → ℕ → Ordering
compare_numbers a b = if_less a b Less (if_less b a Greater Equal)

-- The first, unless it is Equal.
unfoldable pub then_by : Ordering → Ordering → Ordering
then_by Less second = Less
then_by Equal second = second
then_by Greater second = Greater

-- Two keys by their parts, the first part first.
unfoldable pub compare_parts : List ℕ → List ℕ → Ordering
compare_parts [] [] = Equal
compare_parts [] (b ∷ rest) = Less
compare_parts (a ∷ more) [] = Greater
compare_parts (a ∷ more) (b ∷ rest) = then_by (compare_numbers a b) (compare_parts more rest)

-- By which of the three it is.
unfoldable pub on_ordering : {A : Type 0} → Ordering → A → A → A → A
on_ordering Less less equal greater = less
on_ordering Equal less equal greater = equal
on_ordering Greater less equal greater = greater
