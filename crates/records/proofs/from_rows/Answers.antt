-- One record more is that of one row more.
use Rattle.std.proofs.Common.{refl, arith}
use Rattle.rows.specs.Table.{table}
use Rattle.records.proofs.Laws.{record_copied}
use Rattle.records.proofs.from_rows.Goals as goal

pub loop-i-init : goal.loop-i-init
unfolding table
loop-i-init c = refl

pub loop-i-preserved : goal.loop-i-preserved
loop-i-preserved c =
    let at = c.loop-i in
    let below = c.loop-i-test.true in
    record_copied at.t c.args.rows.now at.i c.decode.result (omega (arith, below, at.auto.t))
    (omega (arith, below, c.requires)) at.invariant c.decode.ensures
