-- What selection touches of a queue.
use Rattle.std.specs.Prelude.{Bool, List, Option, ℕ}
use Rattle.queue.specs.declared.Root.{Root}

-- The twelve roots, the epoch of the last selection and the mark of a queue that halted.
pub record SelectionParts : Type 0 where
  pub indices : List Root
  pub budget_epoch : Option ℕ
  pub halted : Bool
