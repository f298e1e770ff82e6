-- The rows below i stand for the records below i.
use Rattle.std.proofs.Common.{◌≡◌, take}
use Rattle.rows.specs.Table.{table}
use Rattle.records.proofs.to_rows.Given as goal

abbrev pub invariant-loop-i : goal.invariant-loop-i
invariant-loop-i l = table (take l.i l.rows) ≡ take l.i l.t
