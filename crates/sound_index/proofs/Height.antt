-- No path in a balanced tree that a table holds has more than 16 entries, so that MAX_PATH never binds.
use Rattle.std.specs.Prelude.{◌≡◌, ◌≤◌, length}
use Rattle.std.proofs.Math.Path.{ap}
use mathlib.Core.List.{List}
use native.Mathlib.Omega.{arith}
use Rattle.avl.specs.Tree.{Tree, height, Balanced}
use Rattle.avl.specs.Path.{Frame, plug}
use Rattle.avl.specs.Size.{path_length}
use Rattle.thread.specs.declared.ThreadRecord.{ThreadRecord}
use Rattle.sound_index.specs.Holds.{Holds}
use Rattle.rows.specs.Table.{max_records}
use Rattle.sound_index.specs.Height.{held_height}

-- No path in it has more than 16 entries, so MAX_PATH (40) never binds; the way to a removed thread and on to its
-- successor is one such path.
pub held_path : (t : List ThreadRecord) (x : Tree) → Holds t x → Balanced x → length t ≤ max_records
    → (z : List Frame) (y : Tree) → plug z y ≡ x → length z ≤ 16
held_path t x h b n z y e =
    let k : height (plug z y) ≡ height x = ap height e in omega (arith, path_length z y, held_height t x h b n)
