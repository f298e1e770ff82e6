-- One row more stands for one record more.
use Rattle.std.proofs.Common.{refl, arith}
use Rattle.rows.specs.Table.{table}
use Rattle.records.proofs.Laws.{row_copied}
use Rattle.records.proofs.to_rows.Goals as goal

pub loop-i-init : goal.loop-i-init
unfolding table
loop-i-init c = refl

pub loop-i-preserved : goal.loop-i-preserved
loop-i-preserved c =
    let at = c.loop-i in
    let below = c.loop-i-test.true in
    row_copied c.args.t.now at.rows at.i c.encode.result _ (omega (arith, below, at.auto.rows))
    (omega (arith, below, c.requires)) at.invariant c.encode.ensures
