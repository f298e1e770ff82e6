-- Too few rows, or the call on the rows with the records copied there and back (Laws).
use Rattle.std.proofs.Common.{List}
use Rattle.refusal.specs.Answer.{refused, bad_table}
use Rattle.thread.specs.declared.ThreadRecord.{ThreadRecord}
use Rattle.runtime.specs.Prepare.{counted, prepare_enqueue}
use Rattle.records.proofs.Laws.{too_few, none_worked, called}
use Rattle.records.proofs.prepare_enqueue.Goals as goal

pub returns-then-rows-n-clause-t_after : goal.returns-then-rows-n-clause-t_after
returns-then-rows-n-clause-t_after c = (too_few _ _ _ _ c.if-rows-n.true).0

pub returns-then-rows-n-clause-rows_after : goal.returns-then-rows-n-clause-rows_after
returns-then-rows-n-clause-rows_after c = none_worked _ _ c.if-rows-n.true

pub returns : goal.returns
returns c =
    let core = c.prepare_enqueue-answer in
    let left =
    called c.args.rows.now c.args.t.now (counted (refused bad_table) c.args.turns)
    (λ (l : List ThreadRecord). prepare_enqueue l c.args.id.0 c.args.front c.args.reading c.args.turns)
    c.to_rows.new.rows core.new.t c.if-rows-n.false c.to_rows.ensures core.auto.t core.ensures.t_after
    c.from_rows.ensures in record {
      t_after = left.0;
      rows_unchanged = left.1.0;
      rows_after = left.1.1;
    }
