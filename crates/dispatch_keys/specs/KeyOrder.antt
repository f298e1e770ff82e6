-- Dispatch keys are in a strict total order: comparing part by part is one (crate order), and a key is its parts.
use Rattle.std.specs.Prelude.{◌≡◌}
use Rattle.std.specs.declared.cmp.Ordering.TheVariants.{Less, Equal}
use Rattle.order.specs.StrictOrder.{flipped, same_key, equal_only, turned_about, less_transitive}
use Rattle.dispatch_keys.specs.declared.DispatchKey.{DispatchKey}
use Rattle.dispatch_keys.specs.Keys.{key_parts, compare_keys}

-- No key is less than itself.
pub irreflexive : (a : DispatchKey) → compare_keys a a ≡ Equal
unfolding compare_keys
irreflexive a = same_key (key_parts a)

-- Less one way is Greater the other way.
pub asymmetric : (a b : DispatchKey) → compare_keys b a ≡ flipped (compare_keys a b)
unfolding compare_keys
asymmetric a b = turned_about (key_parts a) (key_parts b)

pub transitive : (a b c : DispatchKey) → compare_keys a b ≡ Less → compare_keys b c ≡ Less → compare_keys a c ≡ Less
unfolding compare_keys
transitive a b c = less_transitive (key_parts a) (key_parts b) (key_parts c)

same_parts : (a b : DispatchKey) → key_parts a ≡ key_parts b → a ≡ b
same_parts a b e =
    let u : a.urgency ≡ b.urgency = cc in
    let r : a.rank ≡ b.rank = cc in
    let n : a.algorithm_rank ≡ b.algorithm_rank = cc in
    let h : a.algorithm.high ≡ b.algorithm.high = cc in
    let l : a.algorithm.low ≡ b.algorithm.low = cc in
    let c : a.band ≡ b.band = cc in
    let t : a.turn ≡ b.turn = cc in
    λ i. record {
      urgency = u i;
      rank = r i;
      algorithm_rank = n i;
      algorithm = record { high = h i; low = l i };
      band = c i;
      turn = t i;
    }

-- Two keys that are neither less nor greater are one key.
pub total : (a b : DispatchKey) → compare_keys a b ≡ Equal → a ≡ b
unfolding compare_keys
total a b e = same_parts a b (equal_only (key_parts a) (key_parts b) e)
