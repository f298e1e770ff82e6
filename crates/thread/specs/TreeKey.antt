-- What a tree is ordered by: "Tree keys compare as algorithm, band, turn, id (`ready_index_key`)". After
-- scheduler/queue.rs.
use Rattle.std.specs.Prelude.{ℕ, List, [], ◌∷◌}
use Rattle.refusal.specs.Cases.{given}
use Rattle.std.specs.declared.cmp.Ordering.{Ordering}
use Rattle.order.specs.Order.{compare_numbers, then_by, compare_parts}
use Rattle.policy.specs.declared.SchedulingParameters.{SchedulingParameters}
use Rattle.policy.specs.PolicyCases.{on_policy, on_backend}
use Rattle.algorithms.specs.declared.Wide.{Wide}
use Rattle.algorithms.specs.declared.PolicyRuntime.{PolicyRuntime}
use Rattle.algorithms.specs.Runtime.{candidate_key}
use Rattle.thread.specs.declared.ThreadRecord.{ThreadRecord}
use Rattle.thread.specs.declared.TreeKey.{TreeKey}

-- A number as a wide one.
abbrev pub wide : ℕ → Wide
wide n = record { high = 0; low = n }

-- "Algorithm is the priority for FIFO, the pass for Stride, otherwise the turn"; a Stride record whose runtime is not
-- Fair has pass 0.
unfoldable pub algorithm_key : SchedulingParameters → PolicyRuntime → ℕ → Wide
algorithm_key p r turn =
    on_policy p.policy
    (λ priority. wide priority.0)
    (on_backend p.fair_backend (given (candidate_key r p turn) (λ key. key.pass)) (wide turn))
    (wide turn)
    (wide turn)

-- The key of a record with these parts and this number.
unfoldable pub tree_key : SchedulingParameters → PolicyRuntime → ℕ → ℕ → TreeKey
tree_key p r turn number = record { algorithm = algorithm_key p r turn; band = p.band.0; turn = turn; id = number }

-- SPECIFICATION 5.4.
unfoldable pub ready_index_key : ThreadRecord → ℕ → TreeKey
ready_index_key r number = tree_key r.parameters r.runtime r.ready_turn number

-- The algorithm's high and low half, the band, the turn, the number.
unfoldable pub parts : TreeKey → List ℕ
parts k = k.algorithm.high ∷ k.algorithm.low ∷ k.band ∷ k.turn ∷ k.id ∷ []

-- SPECIFICATION 5.4.
unfoldable pub compare_tree_keys : TreeKey → TreeKey → Ordering
compare_tree_keys a b = compare_parts (parts a) (parts b)

-- The comparison from a later part on.
unfoldable pub compare_from_turn : TreeKey → TreeKey → Ordering
compare_from_turn a b = then_by (compare_numbers a.turn b.turn) (compare_numbers a.id b.id)

unfoldable pub compare_from_band : TreeKey → TreeKey → Ordering
compare_from_band a b = then_by (compare_numbers a.band b.band) (compare_from_turn a b)

unfoldable pub compare_from_low : TreeKey → TreeKey → Ordering
compare_from_low a b = then_by (compare_numbers a.algorithm.low b.algorithm.low) (compare_from_band a b)
