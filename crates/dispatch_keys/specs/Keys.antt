-- Dispatch keys and their order. After arbitration.rs.
use Rattle.std.specs.Prelude.{ℕ, List, [], ◌∷◌}
use Rattle.std.specs.declared.cmp.Ordering.{Ordering}
use Rattle.order.specs.Order.{compare_parts}
use Rattle.dispatch_keys.specs.declared.DispatchKey.{DispatchKey}

-- The last parts: band, then turn.
abbrev pub band_parts : DispatchKey → List ℕ
band_parts k = k.band ∷ k.turn ∷ []

-- The parts that come after urgency, rank and algorithm rank: the algorithm, its high half first, then band and turn.
abbrev pub local_parts : DispatchKey → List ℕ
local_parts k = k.algorithm.high ∷ k.algorithm.low ∷ band_parts k

abbrev pub algorithm_parts : DispatchKey → List ℕ
algorithm_parts k = k.algorithm_rank ∷ local_parts k

-- A key's parts in the order in which they compare: as declared.
abbrev pub key_parts : DispatchKey → List ℕ
key_parts k = k.urgency ∷ k.rank ∷ algorithm_parts k

unfoldable pub compare_bands : DispatchKey → DispatchKey → Ordering
compare_bands a b = compare_parts (band_parts a) (band_parts b)

unfoldable pub compare_local : DispatchKey → DispatchKey → Ordering
compare_local a b = compare_parts (local_parts a) (local_parts b)

unfoldable pub compare_within_rank : DispatchKey → DispatchKey → Ordering
compare_within_rank a b = compare_parts (algorithm_parts a) (algorithm_parts b)

-- Dispatch keys compare as declared (SPECIFICATION 4.5).
unfoldable pub compare_keys : DispatchKey → DispatchKey → Ordering
compare_keys a b = compare_parts (key_parts a) (key_parts b)
