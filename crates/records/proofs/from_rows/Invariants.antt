-- The records below i are those of the rows below i.
use Rattle.std.proofs.Common.{◌≡◌, take}
use Rattle.rows.specs.Table.{table}
use Rattle.records.proofs.from_rows.Given as goal

abbrev pub invariant-loop-i : goal.invariant-loop-i
invariant-loop-i l = take l.i l.t ≡ table (take l.i l.rows)
